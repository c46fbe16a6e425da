use Rattle.std.proofs.Common.{◌+◌, ◌++◌, ℕ, List, length, sym, ap, subst, ◌∙◌, arith}
use Rattle.known_uids.specs.Told.{Known, is_live, RisesBelow, NoneBack}
use Rattle.known_uids.specs.Gone.{gone_by}
use Rattle.known_uids.proofs.Rising.{rising-length}
use Rattle.known_uids.proofs.known.KnownUids.gone.Goals as goal

pub push_gone-requires-clause-few : goal.push_gone-requires-clause-few
push_gone-requires-clause-few g c =
    let told = c.self.inside in
    omega (arith, ap length c.as_slice.ensures.value, rising-length told.first told.uids.items (told.last + 1) c.self.invariant.2, c.self.invariant.1)

pub returns-clause-gone : goal.returns-clause-gone
returns-clause-gone g c = λ a held suits.
    let told = c.self.inside in
    let value = c.as_slice.ensures.value in
    let none_back = subst (λ (k : Known). NoneBack (is_live a) k.first k.uids) (sym c.self.view_is) suits.none_back in
    let rises = subst (λ (ks : List ℕ). RisesBelow told.first ks (told.last + 1)) (sym value) c.self.invariant.2 in
    let none = subst (λ (ks : List ℕ). NoneBack (is_live a) told.first ks) (sym value) none_back in
    c.in_ok-push_gone.ensures.ok a told.first (told.last + 1) held suits.valid rises none ∙ ap (λ ks. ks ++ gone_by (is_live a) 1 c.as_slice.result.now) c.new-gone.ensures
    ∙ ap (gone_by (is_live a) 1) value ∙ ap (λ (k : Known). gone_by (is_live a) 1 k.uids) c.self.view_is
