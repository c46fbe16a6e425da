-- What a window shows of octets, and of more octets after them; and runs of bytes that are sent as they are.
use Rattle.std.proofs.Common.{◌≡◌, ℕ, zero, suc, ◌+◌, ◌-◌, ◌<◌, ◌≤◌, Bool, true, false, ◌||◌, eqb, List, [], ◌∷◌, ◌++◌, length, take, drop, get_or, Option, Some, None, refl, sym, ap, subst, ◌∙◌, ⊎_elim, arith, append_assoc, append-nil, if◌then◌else◌}
use Rattle.std.proofs.lemmas.List.{take_all, drop_all, drop_more}
use Rattle.std.proofs.Math.Seq.{drop-nil}
use Rattle.std.proofs.lemmas.Bool.{both_ways}
use Rattle.std.proofs.lemmas.Bool.Decides.{eqb_tells}
use Rattle.memchr.specs.Find.{is_byte3, places_from, places, TakesFirst, IsFirstByte}
use Rattle.mail_forms.specs.WireForms.{sent, wire_of}
use Rattle.mail_forms.proofs.WireLengths.{sent_by, wire-cons, wire-nil}

same_window : (r s u v : ℕ) (xs : List ℕ) → r ≡ u → s ≡ v → take r (drop s xs) ≡ take u (drop v xs)
same_window r s u v xs e f = rw (e, f) refl

pub window-append : (r s : ℕ) (xs ys : List ℕ) → take r (drop s (xs ++ ys)) ≡ take r (drop s xs) ++ take (r - (length xs - s)) (drop (s - length xs) ys)
window-append r s [] ys =
    let none : take r (drop s []) ≡ [] = ap (take r) (drop-nil s) ∙ take_all r [] (omega arith) in
    same_window r s (r - (0 - s)) (s - 0) ys (omega arith) (omega arith) ∙ ap (λ t. t ++ take (r - (0 - s)) (drop (s - 0) ys)) (sym none)
window-append zero zero (x ∷ xs) ys = sym (same_window (0 - (length (x ∷ xs) - 0)) (0 - length (x ∷ xs)) 0 (0 - length (x ∷ xs)) ys (omega arith) refl)
window-append (suc r) zero (x ∷ xs) ys =
    ap (λ t. x ∷ t) (window-append r zero xs ys ∙ ap (λ t. take r xs ++ t)
    (same_window (r - (length xs - 0)) (0 - length xs) (suc r - (length (x ∷ xs) - 0)) (0 - length (x ∷ xs)) ys (omega arith) (omega arith)))
window-append r (suc s) (x ∷ xs) ys =
    window-append r s xs ys ∙ ap (λ t. take r (drop s xs) ++ t)
    (same_window (r - (length xs - s)) (s - length xs) (r - (length (x ∷ xs) - suc s)) (suc s - length (x ∷ xs)) ys (omega arith) (omega arith))

-- A piece more is sent through the window.
pub window-more : (old new all octets piece rest : List ℕ) (r s r' s' : ℕ) → octets ≡ piece ++ rest → new ≡ old ++ take r (drop s piece)
    → s' ≡ s - length piece → r' ≡ r - (length piece - s) → old ++ take r (drop s octets) ≡ all → new ++ take r' (drop s' rest) ≡ all
window-more old new all octets piece rest r s r' s' is pushed skip room so_far =
    let left = r - (length piece - s) in
    let out = s - length piece in
    let cut : take r (drop s octets) ≡ take r (drop s piece) ++ take left (drop out rest) = ap (λ t. take r (drop s t)) is ∙ window-append r s piece rest in
    ap (λ t. new ++ t) (same_window r' s' left out rest room skip) ∙ ap (λ t. t ++ take left (drop out rest)) pushed
    ∙ append_assoc old (take r (drop s piece)) (take left (drop out rest)) ∙ ap (λ t. old ++ t) (sym cut) ∙ so_far

pub length-zero : (xs : List ℕ) → length xs ≡ 0 → xs ≡ []
length-zero [] none = refl
length-zero (x ∷ xs) none = absurd (omega (arith, none))

-- No octet is left.
pub window-none : (r s : ℕ) (rest : List ℕ) → rest ≡ [] → take r (drop s (wire_of rest)) ≡ []
window-none r s rest none = ap (λ t. take r (drop s (wire_of t))) none ∙ ap (λ t. take r (drop s t)) wire-nil ∙ ap (take r) (drop-nil s) ∙ take_all r [] (omega arith)

-- Nothing more is shown.
pub window-end : (new all more : List ℕ) → more ≡ [] → new ++ more ≡ all → new ≡ all
window-end new all more none so_far = sym (append-nil new) ∙ ap (λ t. new ++ t) (sym none) ∙ so_far

-- What is sent for a byte that is none of the three.
unchanged_by : (feed turn nul : Bool) (b : ℕ) → ((feed || turn) || nul) ≡ false → sent_by feed (turn || nul) b ≡ b ∷ []
unchanged_by false false false b none = refl
unchanged_by false false true b none = absurd (cc)
unchanged_by false true nul b none = absurd (cc)
unchanged_by true turn nul b none = absurd (cc)

-- Bytes are sent as they are up to a place before which none of the three stands.
pub run-at : (hay : List ℕ) (n : ℕ) → n ≤ length hay → ((k : ℕ) → k < n → is_byte3 10 13 0 (get_or hay k 0) ≡ false) → wire_of hay ≡ take n hay ++ wire_of (drop n hay)
run-at hay zero le none = refl
run-at [] (suc n) le none = absurd (omega arith)
run-at (b ∷ bs) (suc n) le none =
    let here : sent b ≡ b ∷ [] = unchanged_by (eqb b 10) (eqb b 13) (eqb b 0) b (none 0 (omega arith)) in
    wire-cons b bs ∙ ap (λ t. t ++ wire_of bs) here ∙ ap (λ t. b ∷ t) (run-at bs n (omega arith) (λ k h. none (suc k) (omega arith)))

-- So are all bytes where none of the three stands.
pub run-all : (hay : List ℕ) → ((k : ℕ) → k < length hay → is_byte3 10 13 0 (get_or hay k 0) ≡ false) → wire_of hay ≡ hay ++ wire_of []
run-all hay none =
    run-at hay (length hay) (omega arith) none ∙ ap (λ t. t ++ wire_of (drop (length hay) hay)) (take_all (length hay) hay (omega arith))
    ∙ ap (λ t. hay ++ wire_of t) (drop_all (length hay) hay (omega arith))

-- Those before the first of the three, what is sent for it, and those after it.
pub run-split : (hay front mid back : List ℕ) (end : ℕ) → end < length hay → ((k : ℕ) → k < end → is_byte3 10 13 0 (get_or hay k 0) ≡ false)
    → front ≡ take end hay → mid ≡ sent (get_or hay end 0) → back ≡ drop (end + 1) hay → wire_of hay ≡ front ++ (mid ++ wire_of back)
run-split hay front mid back end within none front_is mid_is back_is =
    let more : wire_of (drop end hay) ≡ sent (get_or hay end 0) ++ wire_of (drop (end + 1) hay) =
    ap wire_of (drop_more hay end 0 within) ∙ wire-cons (get_or hay end 0) (drop (end + 1) hay) in
    run-at hay end (omega arith) none ∙ ap (λ t. take end hay ++ t) more ∙ rw (front_is, mid_is, back_is) refl

-- The first of the places that pass a test.
found_from : (test : ℕ → Bool) (hay : List ℕ) (i n k : ℕ) (rest : List ℕ) → places_from test hay i n ≡ k ∷ rest → (i ≤ k) × (k < i + n) × (test (get_or hay k 0) ≡ true) × ((j : ℕ) → i ≤ j → j < k → test (get_or hay j 0) ≡ false)
unfolding places_from
found_from test hay i zero k rest is = absurd (cc)
found_from test hay i (suc n) k rest is = by (test (get_or hay i 0)) refl (found_from test hay (i + 1) n k rest) is
  where
    later : List ℕ
    later = places_from test hay (i + 1) n

    by : (t : Bool) → test (get_or hay i 0) ≡ t → (later ≡ k ∷ rest → (i + 1 ≤ k) × (k < i + 1 + n) × (test (get_or hay k 0) ≡ true) × ((j : ℕ) → i + 1 ≤ j → j < k → test (get_or hay j 0) ≡ false))
        → (if t then i ∷ later else later) ≡ k ∷ rest → (i ≤ k) × (k < i + suc n) × (test (get_or hay k 0) ≡ true) × ((j : ℕ) → i ≤ j → j < k → test (get_or hay j 0) ≡ false)
    by true hit more is =
        let here : i ≡ k = cc in
        (omega (arith, here), omega (arith, here), subst (λ (m : ℕ). test (get_or hay m 0) ≡ true) here hit, λ j low less. absurd (omega (arith, here, low, less)))
    by false miss more is =
        let found = more is in
        (omega (arith, found.0), omega (arith, found.1), found.2, λ j low less. ⊎_elim (λ e. ap (λ m. test (get_or hay m 0)) e.1 ∙ miss) (λ e. found.3 j (omega (arith, low, e.1)) less) (eqb_tells j i))

none_from : (test : ℕ → Bool) (hay : List ℕ) (i n : ℕ) → places_from test hay i n ≡ [] → (j : ℕ) → i ≤ j → j < i + n → test (get_or hay j 0) ≡ false
unfolding places_from
none_from test hay i zero is j low high = absurd (omega (arith, low, high))
none_from test hay i (suc n) is j low high = by (test (get_or hay i 0)) refl (λ more above. none_from test hay (i + 1) n more j above (omega (arith, high))) is
  where
    later : List ℕ
    later = places_from test hay (i + 1) n

    by : (t : Bool) → test (get_or hay i 0) ≡ t → (later ≡ [] → i + 1 ≤ j → test (get_or hay j 0) ≡ false) → (if t then i ∷ later else later) ≡ [] → test (get_or hay j 0) ≡ false
    by true hit more is = absurd (cc)
    by false miss more is = ⊎_elim (λ e. ap (λ m. test (get_or hay m 0)) e.1 ∙ miss) (λ e. more is (omega (arith, low, e.1))) (eqb_tells j i)

-- What is taken from the places is the first one.
pub first-taken : (test : ℕ → Bool) (hay old new : List ℕ) (r : Option ℕ) → old ≡ places test hay → TakesFirst old r new → IsFirstByte test hay r
first-taken test hay old new None is taken = λ k low high passes. both_ways _ (none_from test hay 0 (length hay - 0) (sym is ∙ taken.0) k low (omega (arith, high))) passes
first-taken test hay old new (Some k) is taken =
    let found = found_from test hay 0 (length hay - 0) k new (sym is ∙ taken) in
    (record { low = found.0; high = omega (arith, found.1); before = λ j low less passes. both_ways _ (found.3 j low less) passes }, found.2)
