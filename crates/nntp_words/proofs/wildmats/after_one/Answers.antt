use Rattle.std.proofs.Common.{◌≡◌, ◌∙◌, arith, ◌+◌, ◌&&◌, false, get_or}
use Rattle.std.proofs.lemmas.List.{length-replicate, length-set}
use Rattle.nntp_words.specs.Wildmats.{fits}
use Rattle.nntp_words.proofs.Ends.{one-more, one-past, none-set, both, neither}
use Rattle.nntp_words.proofs.wildmats.after_one.Goals as goal
use Rattle.nntp_words.proofs.wildmats.after_one.Goals.{then-fits, else-fits}

pub loop-index-init : goal.loop-index-init
loop-index-init c = record {
  room = length-replicate 65 false;
  here = λ i below. absurd (omega (arith, below));
  past = λ i _. none-set 65 i;
}

pub loop-index-preserved : goal.loop-index-preserved
loop-index-preserved c =
    let name = c.args.name.now in
    let ends = c.args.ends.now in
    let k = c.loop-index.index in
    let one = fits c.args.byte (get_or name k 0) in
    let flag : c.if-fits.made ≡ (one && get_or ends (k + 1) false) = elim c.if-fits.branch [
      | then-fits w ↦ both one (get_or ends (k + 1) false) c.fits.result c.if-fits.made c.fits.ensures w.if-fits.true w.made-is
      | else-fits w ↦ neither one (get_or ends (k + 1) false) c.fits.result c.if-fits.made c.fits.ensures w.if-fits.false (w.made-is ∙ w.if-fits.false)
    ] in record {
      room = length-set c.loop-index.made k c.if-fits.made ∙ c.loop-index.invariant.room;
      here = one-more name ends c.loop-index.made c.args.byte k c.if-fits.made (omega arith) flag c.loop-index.invariant.here;
      past = one-past c.loop-index.made k c.if-fits.made c.loop-index.invariant.past;
    }
