use Rattle.std.proofs.Common.{◌≡◌, ◌≢◌, [], length, ap, arith}
use Rattle.std.proofs.lemmas.List.{nil_from_length}
use Rattle.std.proofs.lemmas.Int.{ints}
use Rattle.std.proofs.lemmas.Bool.Decides.{nat_tests}
use Rattle.git_objects.proofs.CommitParts.{no_ids, no_person, no_time, no_end, more_after, parts-found}
use Rattle.git_objects.proofs.commit_reading.read_parts.Goals as goal

pub returns-in_err-tree : goal.returns-in_err-tree
returns-in_err-tree c = rw c.from_residual.ensures (no_ids c.args.form c.args.content.now c.in_err-tree.ensures)

pub returns-in_err-author : goal.returns-in_err-author
returns-in_err-author c = rw c.from_residual-in_err-author.ensures
    (no_person c.args.content.now c.in_ok-tree.rest.now c.in_ok-tree.tree c.in_ok-tree.parent (record { begins = c.in_ok-tree.ensures }) c.in_err-author.ensures)

pub returns-in_err-secs : goal.returns-in_err-secs
returns-in_err-secs c = rw c.from_residual-in_err-secs.ensures
    (no_time c.args.content.now c.in_ok-tree.rest.now c.in_ok-author.rest.now c.in_ok-author.author.now c.in_ok-author.email.now c.in_ok-tree.tree c.in_ok-tree.parent
    (record { begins = c.in_ok-tree.ensures }) (record { begins = c.in_ok-author.ensures }) c.in_err-secs.ensures)

pub returns-in_err-committed : goal.returns-in_err-committed
returns-in_err-committed c = rw c.from_residual-in_err-committed.ensures
    (no_end c.args.content.now c.in_ok-tree.rest.now c.in_ok-author.rest.now c.in_ok-secs.rest.now c.in_ok-author.author.now c.in_ok-author.email.now c.in_ok-tree.tree c.in_ok-tree.parent
    c.in_ok-secs.secs c.in_ok-secs.zone (record { begins = c.in_ok-tree.ensures }) (record { begins = c.in_ok-author.ensures }) (record { begins = c.in_ok-secs.ensures }) c.in_err-committed.ensures)

pub returns-then-not-is_empty : goal.returns-then-not-is_empty
returns-then-not-is_empty c =
    let some : c.in_ok-committed.rest.now ≢ [] = λ e. let none : length c.in_ok-committed.rest.now ≡ 0 = ap length e in grind (arith, nat_tests) in
    more_after c.args.content.now c.in_ok-tree.rest.now c.in_ok-author.rest.now c.in_ok-secs.rest.now c.in_ok-author.author.now c.in_ok-author.email.now c.in_ok-committed.subject.now c.in_ok-committed.rest.now
    c.in_ok-tree.tree c.in_ok-tree.parent c.in_ok-secs.secs c.in_ok-secs.zone c.in_ok-committed.committed
    (record { begins = c.in_ok-tree.ensures }) (record { begins = c.in_ok-author.ensures }) (record { begins = c.in_ok-secs.ensures }) (record { begins = c.in_ok-committed.ensures }) some

pub returns : goal.returns
returns c =
    let none : c.in_ok-committed.rest.now ≡ [] = nil_from_length c.in_ok-committed.rest.now (grind (arith, nat_tests)) in
    parts-found c.args.content.now c.in_ok-tree.rest.now c.in_ok-author.rest.now c.in_ok-secs.rest.now c.in_ok-author.author.now c.in_ok-author.email.now c.in_ok-committed.subject.now c.in_ok-committed.rest.now
    c.in_ok-tree.tree c.in_ok-tree.parent c.in_ok-secs.secs c.in_ok-secs.zone _ c.in_ok-committed.committed
    (record { begins = c.in_ok-tree.ensures }) (record { begins = c.in_ok-author.ensures }) (record { begins = c.in_ok-secs.ensures }) (record { begins = c.in_ok-committed.ensures }) none (omega (arith, ints))
