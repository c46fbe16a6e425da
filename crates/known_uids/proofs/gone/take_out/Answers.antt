use Rattle.std.proofs.Common.{rules, length, ap, ◌∙◌, arith}
use Rattle.std.specs.List.{filter}
use Rattle.std.proofs.lemmas.Fn.{filter_same}
use Rattle.known_uids.specs.Gone.{struck, is_there}
use Rattle.known_uids.proofs.Pushes.{all-written}
use Rattle.known_uids.proofs.gone.take_out.Goals as goal

pub returns : goal.returns
returns c =
    let kept = filter_same _ is_there _ (λ x b f' k. search rules) _ _ c.retain.ensures.filtered in
    let old = c.args.uids.now.items in
    let size = ap length c.as_mut_slice.ensures.value in
    let written = all-written c.args.uids.now.len c.mark.new.uids old (omega (arith, c.mark.auto.uids, size)) (omega (arith, c.as_mut_slice.ensures.len, size)) in
    kept ∙ ap (filter is_there) (written ∙ c.mark.ensures ∙ ap (λ ks. struck ks c.args.gone.now) c.as_mut_slice.ensures.value)
