use Rattle.std.proofs.Common.{◌≡◌, ◌+◌, ◌≤◌, ◌++◌, length, sym, ap, subst, ◌∙◌, arith}
use Rattle.std.specs.List.{filter}
use Rattle.known_uids.specs.Told.{Known, known, live_in, RisesBelow, after_last, count_if}
use Rattle.known_uids.specs.Gone.{struck, is_there}
use Rattle.known_uids.proofs.Rising.{after-le}
use Rattle.known_uids.proofs.Telling.{put-now, told-changes}
use Rattle.known_uids.proofs.known.KnownUids.tell.Goals as goal

pub live_numbers-requires-clause-order : goal.live_numbers-requires-clause-order
live_numbers-requires-clause-order g c =
    let told = c.self.inside in
    let next : c.next.result ≡ after_last told.first told.uids.items = c.next.ensures ∙ ap (λ (k : Known). after_last k.first k.uids) (sym c.self.view_is) in
    omega (arith, next, after-le told.first told.uids.items (told.last + 1) c.self.invariant.2)

pub returns-clause-told : goal.returns-clause-told
returns-clause-told g c = λ a held suits.
    let old = c.args.self.now in
    let rises = subst (λ (k : Known). RisesBelow k.first k.uids (k.last + 1)) c.self.view_is c.self.invariant.2 in
    let last : c.self.inside.last ≡ old.last = ap (λ (k : Known). k.last) c.self.view_is in
    let new : c.in_ok-new.new.items ≡ live_in a c.next.result old.last = c.in_ok-new.ensures.numbers a held ∙ ap (live_in a c.next.result) last in
    let more = subst (λ n. RisesBelow c.next.result c.in_ok-new.new.items (n + 1)) last c.in_ok-new.ensures.rising in
    let gone = c.in_ok-gone.ensures.gone a held suits in
    let least = subst (λ (k : Known). 1 ≤ k.first) c.self.view_is c.self.invariant.0 in
    let put : c.put.new.self ≡ known old.first old.last (filter is_there (struck (old.uids ++ c.in_ok-new.new.items) c.in_ok-gone.gone)) =
    c.in_ok-put.ensures.ok ∙ ap (λ ks. known old.first old.last (filter is_there (struck (old.uids ++ ks) c.as_slice.result.now))) c.as_slice-2.ensures.value
    ∙ ap (λ ks. known old.first old.last (filter is_there (struck (old.uids ++ c.in_ok-new.new.items) ks))) c.as_slice.ensures in
    let now = put-now a old c.put.new.self c.next.result c.in_ok-new.new.items c.in_ok-gone.gone least rises suits c.next.ensures more new gone put in
    told-changes a old c.put.new.self c.next.result c.in_ok-new.new.items c.in_ok-gone.gone c.exists-exists.result rises suits c.next.ensures new gone now
    (c.exists-exists.ensures ∙ ap (λ ks. count_if ks (length c.put.new.self.uids)) c.as_slice-3.ensures.value)

pub returns-clause-now : goal.returns-clause-now
returns-clause-now g c = λ a held suits.
    let old = c.args.self.now in
    let rises = subst (λ (k : Known). RisesBelow k.first k.uids (k.last + 1)) c.self.view_is c.self.invariant.2 in
    let last : c.self.inside.last ≡ old.last = ap (λ (k : Known). k.last) c.self.view_is in
    let new : c.in_ok-new.new.items ≡ live_in a c.next.result old.last = c.in_ok-new.ensures.numbers a held ∙ ap (live_in a c.next.result) last in
    let more = subst (λ n. RisesBelow c.next.result c.in_ok-new.new.items (n + 1)) last c.in_ok-new.ensures.rising in
    let gone = c.in_ok-gone.ensures.gone a held suits in
    let least = subst (λ (k : Known). 1 ≤ k.first) c.self.view_is c.self.invariant.0 in
    let put : c.put.new.self ≡ known old.first old.last (filter is_there (struck (old.uids ++ c.in_ok-new.new.items) c.in_ok-gone.gone)) =
    c.in_ok-put.ensures.ok ∙ ap (λ ks. known old.first old.last (filter is_there (struck (old.uids ++ ks) c.as_slice.result.now))) c.as_slice-2.ensures.value
    ∙ ap (λ ks. known old.first old.last (filter is_there (struck (old.uids ++ c.in_ok-new.new.items) ks))) c.as_slice.ensures in
    let now = put-now a old c.put.new.self c.next.result c.in_ok-new.new.items c.in_ok-gone.gone least rises suits c.next.ensures more new gone put in
    now
