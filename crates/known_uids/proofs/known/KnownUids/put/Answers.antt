use Rattle.std.proofs.Common.{◌≡◌, ◌+◌, ◌++◌, sym, ap, subst, ◌∙◌}
use Rattle.std.specs.List.{filter}
use Rattle.known_uids.specs.Told.{Known, RisesBelow, after_last}
use Rattle.known_uids.specs.Gone.{struck, is_there}
use Rattle.known_uids.proofs.Telling.{put-rises, put-there}
use Rattle.known_uids.proofs.known.KnownUids.put.Goals as goal

pub invariant_of-self-2 : goal.invariant_of-self-2
invariant_of-self-2 c =
    let told = c.self.inside in
    let more = subst (λ (k : Known). RisesBelow (after_last k.first k.uids) c.args.new.now (k.last + 1)) (sym c.self.view_is) c.requires.new in
    let made : c.take_out.new.uids.items ≡ filter is_there (struck (told.uids.items ++ c.args.new.now) c.args.gone.now) =
    c.take_out.ensures ∙ ap (λ ks. filter is_there (struck ks c.args.gone.now)) c.in_ok-extend_from_slice.ensures.items in
    (c.self.invariant.0, c.self.invariant.1, subst (λ ks. RisesBelow told.first ks (told.last + 1)) (sym made) (put-rises told.first told.last told.uids.items c.args.new.now c.args.gone.now c.self.invariant.2 more))

pub take_out-requires-clause-there : goal.take_out-requires-clause-there
take_out-requires-clause-there c =
    let told = c.self.inside in
    let more = subst (λ (k : Known). RisesBelow (after_last k.first k.uids) c.args.new.now (k.last + 1)) (sym c.self.view_is) c.requires.new in
    put-there told.first told.last told.uids.items c.args.new.now c.extend_from_slice.new.self.items c.self.invariant.0 c.self.invariant.2 more c.in_ok-extend_from_slice.ensures.items
