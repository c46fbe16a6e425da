use Rattle.std.proofs.Common.{◌≡◌, ◌≢◌, [], length, ap, arith}
use Rattle.std.proofs.lemmas.List.{nil_from_length}
use Rattle.std.proofs.lemmas.Bool.Decides.{nat_tests}
use Rattle.archive_cli.specs.Words.{spelled}
use Rattle.archive_cli.proofs.Grammar.{lone-more, lone-read, spelled-none}
use Rattle.archive_cli.proofs.words.read_lone.Goals as goal

pub returns-then-not-is_empty : goal.returns-then-not-is_empty
returns-then-not-is_empty c =
    let some : c.args.more.now ≢ [] = λ e. let none : length c.args.more.now ≡ 0 = ap length e in grind (arith, nat_tests) in
    lone-more c.args.word.now (spelled c.args.more.now) (λ e. some (spelled-none c.args.more.now e))

pub returns : goal.returns
returns c =
    let none : c.args.more.now ≡ [] = nil_from_length c.args.more.now (grind (arith, nat_tests)) in
    lone-read c.args.word.now (spelled c.args.more.now) c.read_number.result (ap spelled none) (rw c.as_bytes.ensures.value at c.read_number.ensures)
