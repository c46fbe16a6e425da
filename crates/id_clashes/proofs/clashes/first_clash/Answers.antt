-- One more text doesn't clash.
use Rattle.std.proofs.Common.{◌∙◌, sym}
use Rattle.id_clashes.proofs.Seen.{found_more}
use Rattle.id_clashes.proofs.clashes.first_clash.Goals as goal

pub loop-text-preserved : goal.loop-text-preserved
loop-text-preserved c =
    found_more c.args.texts.now c.loop-text.text-index c.loop-text.seen c.loop-text.invariant _ c.loop-text-test.true c.take.new.seen (sym c.in_ok-take.ensures.clash ∙ c.if-branch.false) (c.in_ok-take.ensures.kept c.if-branch.false)
