use Rattle.std.proofs.Common.{arith, ◌+◌, false, sym, ap, ◌∙◌, length-take}
use Rattle.std.specs.Option.{unwrap_or}
use Rattle.nntp_words.specs.Wildmats.{says}
use Rattle.nntp_words.proofs.Parts.{decided-is, from-index, said-last, said-earlier, said-first}
use Rattle.nntp_words.proofs.wildmats.is_matched.Goals as goal

pub loop-comma-init : goal.loop-comma-init
loop-comma-init c = record {
  within = omega arith;
  said = sym (decided-is c.args.wildmat.now c.args.name.now);
}

pub returns-in-Some-says : goal.returns-in-Some-says
returns-in-Some-says c =
    said-last c.loop-comma.left.now c.args.name.now c.in-Some.comma c.in-Some-says.said _ c.in-Some.ensures (c.in-Some-says.ensures ∙ ap (λ t. says t c.args.name.now) (from-index c.loop-comma.left.now (c.in-Some.comma + 1))) c.loop-comma.invariant.said

pub loop-comma-preserved : goal.loop-comma-preserved
loop-comma-preserved c = record {
  within = omega (arith, length-take c.in-Some.comma c.loop-comma.left.now, c.loop-comma.invariant.within);
  said = said-earlier c.loop-comma.left.now c.args.name.now c.in-Some.comma _ c.in-Some.ensures (c.in_default-says.ensures ∙ ap (λ t. says t c.args.name.now) (from-index c.loop-comma.left.now (c.in-Some.comma + 1))) c.loop-comma.invariant.said;
}

pub returns : goal.returns
returns c = said-first c.loop-comma.left.now c.args.name.now c.unwrap_or.result _ c.in_default.ensures (c.unwrap_or.ensures ∙ ap (λ o. unwrap_or o false) c.says-2.ensures) c.loop-comma.invariant.said
