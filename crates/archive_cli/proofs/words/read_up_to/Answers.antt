use Rattle.std.proofs.Common.{◌<◌, ◌≤◌, ◌^◌, arith, rules}
use Rattle.std.proofs.lemmas.Bool.Decides.{nat_tests}
use Rattle.edge_io.proofs.Numerals.{other-decimal}
use Rattle.archive_cli.proofs.words.read_up_to.Goals as goal

pub returns-else-contains : goal.returns-else-contains
returns-else-contains c = λ x is.
    let small : c.in_ok-value.value < 2 ^ 64 = search rules in
    other-decimal c.args.text.now c.in_ok-value.value x small (omega (arith, is.1, c.ranges.most.fits)) c.in_ok-value.ensures.found (λ same.
    let low : 1 ≤ c.in_ok-value.value = omega (arith, is.0, same) in
    let high : c.in_ok-value.value ≤ c.args.most = omega (arith, is.1, same) in
    grind (arith, nat_tests, c.if-contains.ensures.value, c.new.ensures.start, c.new.ensures.end, c.new.ensures.exhausted))
