use Rattle.std.proofs.Common.{◌≡◌, ◌≢◌, ◌+◌, ℕ, List, [], sym, ap, subst, ◌∙◌}
use Rattle.std.specs.Bool.{MatchBool}
use Rattle.std.proofs.lemmas.Bool.{MatchBool-at_true, MatchBool-at_false}
use Rattle.known_uids.specs.Told.{Known, is_live, live_in, RisesBelow, NoneBack, after_last}
use Rattle.known_uids.specs.Gone.{AllLive}
use Rattle.known_uids.proofs.Telling.{current-then, current-else}
use Rattle.known_uids.proofs.known.KnownUids.is_current.Goals as goal

pub returns-then-are_live : goal.returns-then-are_live
returns-then-are_live g c = λ a held suits.
    let told = c.self.inside in
    let uids = told.uids.items in
    let none_back = subst (λ (k : Known). NoneBack (is_live a) k.first k.uids) (sym c.self.view_is) suits.none_back in
    let shown = c.as_slice.result.now in
    let value = c.as_slice.ensures.value in
    let rises = subst (λ (ks : List ℕ). RisesBelow told.first ks (told.last + 1)) (sym value) c.self.invariant.2 in
    let none = subst (λ (ks : List ℕ). NoneBack (is_live a) told.first ks) (sym value) none_back in
    let live = MatchBool-at_true _ _ c.if-are_live.true (c.are_live.ensures.live a told.first (told.last + 1) held suits.valid rises none) in
    let next : c.next.result ≡ after_last told.first uids = c.next.ensures ∙ ap (λ (k : Known). after_last k.first k.uids) (sym c.self.view_is) in
    let new = subst (λ n. MatchBool c.none_live.result (live_in a n told.last ≡ []) (live_in a n told.last ≢ [])) next (c.none_live.ensures a held) in
    subst (λ (k : Known). MatchBool c.none_live.result (k.uids ≡ live_in a k.first k.last) (k.uids ≢ live_in a k.first k.last)) c.self.view_is
    (current-then a told.first told.last uids c.none_live.result c.self.invariant.2 none_back (subst (AllLive (is_live a)) value live) new)

pub returns-else-are_live : goal.returns-else-are_live
returns-else-are_live g c = λ a held suits.
    let told = c.self.inside in
    let uids = told.uids.items in
    let none_back = subst (λ (k : Known). NoneBack (is_live a) k.first k.uids) (sym c.self.view_is) suits.none_back in
    let shown = c.as_slice.result.now in
    let value = c.as_slice.ensures.value in
    let rises = subst (λ (ks : List ℕ). RisesBelow told.first ks (told.last + 1)) (sym value) c.self.invariant.2 in
    let none = subst (λ (ks : List ℕ). NoneBack (is_live a) told.first ks) (sym value) none_back in
    let gone = MatchBool-at_false _ _ c.if-are_live.false (c.are_live.ensures.live a told.first (told.last + 1) held suits.valid rises none) in
    subst (λ (k : Known). MatchBool c.are_live.result (k.uids ≡ live_in a k.first k.last) (k.uids ≢ live_in a k.first k.last)) c.self.view_is
    (current-else a told.first told.last uids c.are_live.result c.if-are_live.false (λ all. gone (subst (AllLive (is_live a)) (sym value) all)))
