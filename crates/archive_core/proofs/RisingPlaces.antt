-- Places whose numbers rise: one more, and one that is no longer live.
use Rattle.std.specs.Prelude.{◌≡◌, ◌≢◌, ◌+◌, ◌-◌, ◌<◌, ◌≤◌, ◌==◌, ℕ, zero, suc, Bool, true, false, List, [], ◌∷◌, ◌++◌, length, drop, set, get_or, slice_get, Some, if◌then◌else◌, refl}
use Rattle.std.proofs.Common.{◌∙◌, sym, ap, subst, arith}
use Rattle.std.proofs.lemmas.Bool.Decides.{nat_tests}
use Rattle.std.proofs.lemmas.List.{drop_more, drop_all}
use Rattle.std.proofs.lemmas.Option.{same_Some}
use Rattle.archive_core.specs.Placing.{PlacesFrom, PlacesRise, ends_place, ended_place}
use Rattle.archive_core.specs.declared.placing.MessagePlace.{MessagePlace}

ended_is : (number : ℕ) (p : MessagePlace) → p.number ≡ number → record { number = p.number; entry = p.entry; live = false } ≡ ended_place number p
ended_is number p same =
    let hit : (p.number == number) ≡ true = grind (arith, nat_tests, same) in
    sym (ap (λ (t : Bool). let q : MessagePlace = record { number = p.number; entry = p.entry; live = if t then false else p.live } in q) hit)

ended_not : (number : ℕ) (p : MessagePlace) → p.number ≢ number → ended_place number p ≡ p
ended_not number p other =
    let miss : (p.number == number) ≡ false = grind (arith, nat_tests, other) in
    ap (λ (t : Bool). let q : MessagePlace = record { number = p.number; entry = p.entry; live = if t then false else p.live } in q) miss

-- Places above a number are none of its.
above-ends : (number low : ℕ) (ps : List MessagePlace) → PlacesFrom low ps → number < low → ends_place number ps ≡ ps
above-ends number low [] rise less = refl
above-ends number low (p ∷ ps) rise less =
    let above : low ≤ p.number = rise.0 in
    ap (λ (q : MessagePlace). q ∷ ends_place number ps) (ended_not number p (λ same. (let is : p.number ≡ number = same in omega (arith, is, above, less))))
    ∙ ap (λ (qs : List MessagePlace). p ∷ qs) (above-ends number (p.number + 1) ps rise.1 (omega (arith, above, less)))

-- The place of a number, in a list from one number on, is at least at it.
at-least : (low : ℕ) (ps : List MessagePlace) (i : ℕ) (p : MessagePlace) → PlacesFrom low ps → slice_get ps i ≡ Some p → low ≤ p.number
at-least low [] i p rise there = absurd (cc)
at-least low (q ∷ ps) zero p rise there = (let same : q ≡ p = same_Some q p there in let first : low ≤ q.number = rise.0 in let number : q.number ≡ p.number = ap (λ (r : MessagePlace). r.number) same in omega (arith, first, number))
at-least low (q ∷ ps) (suc i) p rise there = (let first : low ≤ q.number = rise.0 in let rest : q.number + 1 ≤ p.number = at-least (q.number + 1) ps i p rise.1 there in omega (arith, first, rest))

-- The place at the index of a number is made no longer live, and it is the only one of the number.
pub set-ends : (low : ℕ) (ps : List MessagePlace) (i : ℕ) (p : MessagePlace) (number : ℕ) → PlacesFrom low ps → slice_get ps i ≡ Some p → p.number ≡ number → set ps i (record { number = p.number; entry = p.entry; live = false }) ≡ ends_place number ps
set-ends low [] i p number rise there is = absurd (cc)
set-ends low (q ∷ ps) zero p number rise there is =
    let same : q ≡ p = same_Some q p there in
    let at : q.number ≡ number = ap (λ (r : MessagePlace). r.number) same ∙ is in
    ap (λ (r : MessagePlace). record { number = r.number; entry = r.entry; live = false } ∷ ps) (sym same)
    ∙ ap (λ (r : MessagePlace). r ∷ ps) (ended_is number q at)
    ∙ ap (λ (qs : List MessagePlace). ended_place number q ∷ qs) (sym (above-ends number (q.number + 1) ps rise.1 (omega (arith, at))))
set-ends low (q ∷ ps) (suc i) p number rise there is =
    let rest : q.number + 1 ≤ p.number = at-least (q.number + 1) ps i p rise.1 there in
    ap (λ (qs : List MessagePlace). q ∷ qs) (set-ends (q.number + 1) ps i p number rise.1 there is)
    ∙ ap (λ (r : MessagePlace). r ∷ ends_place number ps) (sym (ended_not number q (λ same. (let at : q.number ≡ number = same in omega (arith, at, rest, is)))))

-- Where no place has a number, none is ended.
pub none-ends : (number : ℕ) (ps : List MessagePlace) → ((i : ℕ) (p : MessagePlace) → slice_get ps i ≡ Some p → p.number ≢ number) → ends_place number ps ≡ ps
none-ends number [] none = refl
none-ends number (p ∷ ps) none =
    ap (λ (q : MessagePlace). q ∷ ends_place number ps) (ended_not number p (none 0 p refl))
    ∙ ap (λ (qs : List MessagePlace). p ∷ qs) (none-ends number ps (λ i q there. none (suc i) q there))

-- Numbers still rise when a place is ended.
pub rise-ended : (low number : ℕ) (ps : List MessagePlace) → PlacesFrom low ps → PlacesFrom low (ends_place number ps)
rise-ended low number [] rise = tt
rise-ended low number (p ∷ ps) rise = (rise.0, rise-ended (p.number + 1) number ps rise.1)

-- One more place was looked at.
pub rising-more : (ps : List MessagePlace) (i : ℕ) (p : MessagePlace) (least : ℕ) → i < length ps → least ≤ (get_or ps i p).number → PlacesFrom ((get_or ps i p).number + 1) (drop (i + 1) ps) → PlacesFrom least (drop i ps)
rising-more ps i p least within low rest = subst (λ (qs : List MessagePlace). PlacesFrom least qs) (sym (drop_more ps i p within)) (low, rest)

pub rising-all : (ps : List MessagePlace) (i least : ℕ) → length ps ≤ i → PlacesFrom least (drop i ps)
rising-all ps i least past = subst (λ (qs : List MessagePlace). PlacesFrom least qs) (sym (drop_all i ps past)) tt

-- Any place may follow none.
pub follows-none : (ps : List MessagePlace) (number entry : ℕ) → length ps ≤ 0 → PlacesRise (ps ++ record { number = number; entry = entry; live = true } ∷ [])
follows-none [] number entry none = (omega arith, tt)
follows-none (p ∷ ps) number entry none = absurd (omega (arith, none))

-- A place with a number above the last one may follow.
pub follows-last : (low : ℕ) (ps : List MessagePlace) (last : MessagePlace) (number entry : ℕ) → PlacesFrom low ps → get_or ps (length ps - 1) last ≡ last → last.number < number → low ≤ number → PlacesFrom low (ps ++ record { number = number; entry = entry; live = true } ∷ [])
follows-last low [] last number entry rise is less least = (least, tt)
follows-last low (p ∷ []) last number entry rise is less least = (rise.0, (let same : p.number ≡ last.number = ap (λ (q : MessagePlace). q.number) is in omega (arith, same, less), tt))
follows-last low (p ∷ (q ∷ ps)) last number entry rise is less least =
    let one_less : length (p ∷ (q ∷ ps)) - 1 ≡ suc (length ps) = omega arith in
    let here : get_or (q ∷ ps) (length ps) last ≡ last = subst (λ (i : ℕ). get_or (p ∷ (q ∷ ps)) i last ≡ last) one_less is in
    let rest_less : length ps ≡ length (q ∷ ps) - 1 = omega arith in
    let below = at-least (p.number + 1) (q ∷ ps) (length ps) last rise.1 (at_last q ps last here) in
    (rise.0, follows-last (p.number + 1) (q ∷ ps) last number entry rise.1 (subst (λ (i : ℕ). get_or (q ∷ ps) i last ≡ last) rest_less here) less (omega (arith, below, less)))
  where
    at_last : (x : MessagePlace) (xs : List MessagePlace) (d : MessagePlace) → get_or (x ∷ xs) (length xs) d ≡ d → slice_get (x ∷ xs) (length xs) ≡ Some d
    at_last x [] d same = ap (λ (y : MessagePlace). Some y) same
    at_last x (y ∷ ys) d same = at_last y ys d same
