-- The lengths and the line ends of wire forms.
use Rattle.std.proofs.Common.{◌≡◌, ℕ, ◌+◌, Bool, true, false, cond, eqb, ◌||◌, List, [], ◌∷◌, ◌++◌, length, take, drop, get_or, refl, sym, ap, ◌∙◌, arith, length-append, append_assoc, append-nil, length-take}
use Rattle.std.specs.Prelude.{◌≢◌, ◌<◌, ◌≤◌}
use Rattle.std.specs.List.{flat_map, count_by}
use Rattle.std.proofs.lemmas.Bool.{eq-eqb, or_parts}
use Rattle.std.proofs.lemmas.List.{drop_more, drop_all, take-append-le}
use Rattle.std.proofs.lemmas.List.Sums.{sum_by-cons}
use Rattle.mail_forms.specs.WireForms.{sent, wire_of, is_feed, feeds_of}
use Rattle.mail_forms.specs.Laws.{EndAsSent}

-- What is sent for a byte, by the two tests of it.
abbrev pub sent_by : Bool → Bool → ℕ → List ℕ
sent_by feed blank b = cond feed (13 ∷ 10 ∷ []) (cond blank (32 ∷ []) (b ∷ []))

length-sent : (feed blank : Bool) (b : ℕ) → length (sent_by feed blank b) ≡ 1 + cond feed 1 0
length-sent true blank b = refl
length-sent false true b = refl
length-sent false false b = refl

-- The length of a wire form.
pub length-wire : (text : List ℕ) → length (wire_of text) ≡ length text + feeds_of text
unfolding wire_of
length-wire [] = refl
length-wire (b ∷ bs) =
    let here : length (sent b) ≡ 1 + cond (eqb b 10) 1 0 = length-sent (eqb b 10) (eqb b 13 || eqb b 0) b in
    let count : count_by is_feed (b ∷ bs) ≡ cond (eqb b 10) 1 0 + count_by is_feed bs = sum_by-cons (λ x. cond (is_feed x) 1 0) b bs in
    omega (arith, length-append (sent b) (flat_map sent bs), here, count, length-wire bs)

-- The wire form of a byte and more.
pub wire-cons : (b : ℕ) (bs : List ℕ) → wire_of (b ∷ bs) ≡ sent b ++ wire_of bs
unfolding wire_of
wire-cons b bs = refl

pub wire-nil : wire_of [] ≡ []
unfolding wire_of
wire-nil = refl

-- One byte more is sent: what is there with the wire form of what is left stays the same.
pub wire-more : (old new all text : List ℕ) (i b : ℕ) → i < length text → b ≡ get_or text i 0 → new ≡ old ++ sent b → old ++ wire_of (drop i text) ≡ all
    → new ++ wire_of (drop (i + 1) text) ≡ all
wire-more old new all text i b within is pushed so_far =
    let next : wire_of (drop i text) ≡ sent b ++ wire_of (drop (i + 1) text) =
    ap wire_of (drop_more text i 0 within) ∙ wire-cons (get_or text i 0) (drop (i + 1) text) ∙ ap (λ x. sent x ++ wire_of (drop (i + 1) text)) (sym is) in
    rw pushed (append_assoc old (sent b) (wire_of (drop (i + 1) text)) ∙ ap (λ t. old ++ t) (sym next) ∙ so_far)

-- All is sent at the end of the text.
pub wire-end : (new all text : List ℕ) (i : ℕ) → length text ≤ i → new ++ wire_of (drop i text) ≡ all → new ≡ all
wire-end new all text i past so_far = sym (append-nil new) ∙ ap (λ t. new ++ t) (sym (ap wire_of (drop_all i text past) ∙ wire-nil)) ∙ so_far

-- What stood there at first stays in front.
pub kept-more : (old now new more : List ℕ) → new ≡ now ++ more → take (length old) now ≡ old → take (length old) new ≡ old
kept-more old now new more pushed kept =
    let within : length old ≤ length now = omega (arith, length-take (length old) now, ap length kept) in
    ap (take (length old)) pushed ∙ take-append-le (length old) now more within ∙ kept

-- The line ends of what is sent for a byte, and of what follows it.
ends_step : (feed blank : Bool) (b : ℕ) (more : List ℕ) → eqb b 10 ≡ feed → (eqb b 13 || eqb b 0) ≡ blank → EndAsSent false more → EndAsSent false (sent_by feed blank b ++ more)
ends_step true blank b more f k h = (refl, (λ (e : 13 ≡ 0). omega arith), (refl, (λ (e : 10 ≡ 0). omega arith), h))
ends_step false true b more f k h = (refl, (λ (e : 32 ≡ 0). omega arith), h)
ends_step false false b more f k h =
    let parts = or_parts (eqb b 13) (eqb b 0) k in
    let apart : b ≢ 0 = λ (e : b ≡ 0). (let yes : eqb b 0 ≡ true = eq-eqb b 0 e in cc (yes, parts.1)) in
    (f, apart, rw parts.0 h)

pub wire-ends : (text : List ℕ) → EndAsSent false (wire_of text)
unfolding wire_of
wire-ends [] = refl
wire-ends (b ∷ bs) = ends_step (eqb b 10) (eqb b 13 || eqb b 0) b (flat_map sent bs) refl refl (wire-ends bs)
