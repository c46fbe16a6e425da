use Rattle.std.proofs.Common.{◌≡◌, false, rules, tests}
use Rattle.epoch_file.proofs.Turning.{goes-unfound, goes-whole}
use Rattle.epoch_file.proofs.walking.go_on.Goals as goal

pub returns-in-Ok-false-clause-walked : goal.returns-in-Ok-false-clause-walked
returns-in-Ok-false-clause-walked g c =
    let missing : c.in-Ok-false.field-0 ≡ false = search (rules, tests) in
    let invariant = c.loop-alloc.invariant in
    goes-unfound (g.D.Disk.content c.args.disk.now) (g.D.Disk.content c.loop-alloc.disk) c.args.count c.args.start c.loop-alloc.state c.turn.new.state c.in-Ok-false.field-0 missing
    invariant.form invariant.keeps invariant.part invariant.reads.same c.in-Ok-false.ensures.turns c.in-Ok-false.ensures.moves c.loop-alloc-test.ensures

pub returns-clause-walked : goal.returns-clause-walked
returns-clause-walked g c =
    let invariant = c.loop-alloc.invariant in
    goes-whole (g.D.Disk.content c.args.disk.now) c.args.count c.args.start c.loop-alloc.state invariant.form invariant.keeps invariant.part c.loop-alloc-test.ensures
