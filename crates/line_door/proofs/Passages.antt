-- The line at the front of a door that skips a line that is too long.
use Rattle.std.proofs.Common.{◌≡◌, ◌<◌, ◌≤◌, ◌+◌, ◌-◌, ◌⊎◌, inl, inr, ℕ, zero, suc, List, [], ◌∷◌, ◌++◌, length, take, drop, get_or, ltb, Option, Some, None, Bool, true, false, refl, sym, ap, subst, ◌∙◌, add-one, length-append, arith}
use Rattle.std.specs.Prelude.{if◌then◌else◌}
use Rattle.std.proofs.lemmas.Bool.{ltb-true, ltb-false, lt-ltb, le-ltb}
use Rattle.std.proofs.lemmas.List.{length-take-le, take_all, get_or-take, append-nil}
use Rattle.line_door.specs.Lines.{first_line}
use Rattle.line_door.specs.LineLaws.{IsFirstLine}
use Rattle.line_door.specs.Skipping.{Taken, Skipped, Unended, passed, skipping_front, held_of, IsPassage, SkippingLaw}
use Rattle.line_door.specs.declared.skipping.Passage.TheVariants as passage
use Rattle.line_door.proofs.Fronts.{first_line-goes_on, first_line-joined, first_line-shorter, first_line-at, first_line-none, first_line-append, first_line-append_none, first_line-no_feed, first_line-single}

-- A line and the bytes after it.
abbrev pub line_found : List ℕ → List ℕ → Option (List ℕ × List ℕ)
line_found line rest = Some (line, rest)

line_found-is : (p : List ℕ × List ℕ) (line rest : List ℕ) → p.0 ≡ line → p.1 ≡ rest → Some p ≡ line_found line rest
line_found-is p line rest e f = λ i. line_found (e i) (f i)

never_unended : (t : Bool) (p : List ℕ × List ℕ) → (if t then Taken p.0 p.1 else Skipped p.1) ≡ Unended → ⊥
never_unended true p e = (cc)
never_unended false p e = (cc)

taken_is : (t : Bool) (p : List ℕ × List ℕ) (line rest : List ℕ) → (if t then Taken p.0 p.1 else Skipped p.1) ≡ Taken line rest → (t ≡ true) × (p.0 ≡ line) × (p.1 ≡ rest)
taken_is true p line rest e = (refl, (cc), (cc))
taken_is false p line rest e = absurd (cc)

skipped_is : (t : Bool) (p : List ℕ × List ℕ) (rest : List ℕ) → (if t then Taken p.0 p.1 else Skipped p.1) ≡ Skipped rest → (t ≡ false) × (p.1 ≡ rest)
skipped_is true p rest e = absurd (cc)
skipped_is false p rest e = (refl, (cc))

-- No line has ended where there is no line feed.
pub passed-none : (limit : ℕ) (o : Option (List ℕ × List ℕ)) → passed limit o ≡ Unended → o ≡ None
passed-none limit None e = refl
passed-none limit (Some p) e = absurd (never_unended (ltb (length p.0) limit) p e)

-- A whole line is the first one, and is short.
pub passed-taken : (limit : ℕ) (o : Option (List ℕ × List ℕ)) (line rest : List ℕ) → passed limit o ≡ Taken line rest → (o ≡ Some (line, rest)) × (length line < limit)
passed-taken limit None line rest e = absurd (cc)
passed-taken limit (Some p) line rest e =
    let parts = taken_is (ltb (length p.0) limit) p line rest e in
    (line_found-is p line rest parts.1 parts.2, subst (λ (x : List ℕ). length x < limit) parts.1 (ltb-true (length p.0) limit parts.0))

-- A line that was skipped is the first one, and is too long.
pub passed-skipped : (limit : ℕ) (o : Option (List ℕ × List ℕ)) (rest : List ℕ) → passed limit o ≡ Skipped rest → (line : List ℕ) × (o ≡ Some (line, rest)) × (limit ≤ length line)
passed-skipped limit None rest e = absurd (cc)
passed-skipped limit (Some p) rest e =
    let parts = skipped_is (ltb (length p.0) limit) p rest e in
    (p.0, line_found-is p p.0 rest refl parts.1, ltb-false (length p.0) limit parts.0)

-- A first line that is short is whole, and one that is too long is skipped.
pub passed-short : (limit : ℕ) (line rest : List ℕ) → length line < limit → passed limit (Some (line, rest)) ≡ Taken line rest
passed-short limit line rest l = ap (λ (t : Bool). if t then Taken line rest else Skipped rest) (lt-ltb (length line) limit l)

pub passed-long : (limit : ℕ) (line rest : List ℕ) → limit ≤ length line → passed limit (Some (line, rest)) ≡ Skipped rest
passed-long limit line rest l = ap (λ (t : Bool). if t then Taken line rest else Skipped rest) (le-ltb (length line) limit l)

-- More bytes leave a whole line unchanged.
pub passing-goes_on : (limit : ℕ) (xs ys line rest : List ℕ) → skipping_front limit xs ≡ Taken line rest → skipping_front limit (xs ++ ys) ≡ Taken line (rest ++ ys)
passing-goes_on limit xs ys line rest e =
    let parts = passed-taken limit (first_line xs) line rest e in
    ap (passed limit) (first_line-goes_on xs ys (line, rest) parts.0) ∙ passed-short limit line (rest ++ ys) parts.1

-- A line that was skipped stays skipped.
pub passing-stays_skipped : (limit : ℕ) (xs ys rest : List ℕ) → skipping_front limit xs ≡ Skipped rest → skipping_front limit (xs ++ ys) ≡ Skipped (rest ++ ys)
passing-stays_skipped limit xs ys rest e =
    let parts = passed-skipped limit (first_line xs) rest e in
    ap (passed limit) (first_line-goes_on xs ys (parts.0, rest) parts.1) ∙ passed-long limit parts.0 (rest ++ ys) parts.2

-- The rest after a line is shorter than the bytes.
pub passing-shorter : (limit : ℕ) (xs line rest : List ℕ) → skipping_front limit xs ≡ Taken line rest → length rest < length xs
passing-shorter limit xs line rest e = first_line-shorter xs (line, rest) (passed-taken limit (first_line xs) line rest e).0

pub passing-shorter_skipped : (limit : ℕ) (xs rest : List ℕ) → skipping_front limit xs ≡ Skipped rest → length rest < length xs
passing-shorter_skipped limit xs rest e =
    let parts = passed-skipped limit (first_line xs) rest e in
    first_line-shorter xs (parts.0, rest) parts.1

-- The first bytes of a part of a line have no line feed.
none-take : (n : ℕ) (xs : List ℕ) → first_line xs ≡ None → first_line (take n xs) ≡ None
none-take n xs e = by (at_most (length xs) n)
  where
    at_most : (m k : ℕ) → (m ≤ k) ⊎ (k < m)
    at_most zero k = inl (omega arith)
    at_most (suc m) zero = inr (omega arith)
    at_most (suc m) (suc k) = elim (at_most m k) [ inl low ↦ inl (omega (arith, low)) | inr high ↦ inr (omega (arith, high)) ]

    by : (length xs ≤ n) ⊎ (n < length xs) → first_line (take n xs) ≡ None
    by (inl all) = ap first_line (take_all n xs all) ∙ e
    by (inr more) =
        let len : length (take n xs) ≡ n = length-take-le n xs (omega (arith, more)) in
        first_line-none (take n xs) (λ k below ten. first_line-no_feed xs e k (omega (arith, len, below, more)) (sym (get_or-take n xs k 0 (omega (arith, len, below))) ∙ ten))

-- What is held of a part of a line goes on as the whole part would.
pub passing-held : (limit : ℕ) (xs ys : List ℕ) → first_line xs ≡ None → skipping_front limit (held_of limit xs ++ ys) ≡ skipping_front limit (xs ++ ys)
passing-held limit xs ys e = by (first_line ys) refl
  where
    order : (m k : ℕ) → (m ≤ k) ⊎ (k < m)
    order zero k = inl (omega arith)
    order (suc m) zero = inr (omega arith)
    order (suc m) (suc k) = elim (order m k) [ inl low ↦ inl (omega (arith, low)) | inr high ↦ inr (omega (arith, high)) ]

    same : (line rest : List ℕ) → (length xs ≤ limit) ⊎ (limit < length xs) → passed limit (Some (take limit xs ++ line, rest)) ≡ passed limit (Some (xs ++ line, rest))
    same line rest (inl all) = ap (λ (b : List ℕ). passed limit (Some (b ++ line, rest))) (take_all limit xs all)
    same line rest (inr more) =
        let len : length (take limit xs) ≡ limit = length-take-le limit xs (omega (arith, more)) in
        passed-long limit (take limit xs ++ line) rest (omega (arith, len, length-append (take limit xs) line))
        ∙ sym (passed-long limit (xs ++ line) rest (omega (arith, more, length-append xs line)))

    by : (o : Option (List ℕ × List ℕ)) → first_line ys ≡ o → skipping_front limit (take limit xs ++ ys) ≡ skipping_front limit (xs ++ ys)
    by None is = ap (passed limit) (first_line-append_none (take limit xs) ys (none-take limit xs e) is) ∙ sym (ap (passed limit) (first_line-append_none xs ys e is))
    by (Some p) is =
        ap (passed limit) (first_line-append (take limit xs) ys p (none-take limit xs e) is)
        ∙ same p.0 p.1 (order (length xs) limit)
        ∙ sym (ap (passed limit) (first_line-append xs ys p e is))

pub taken-from : (limit : ℕ) (bytes line rest : List ℕ) → IsFirstLine limit bytes line rest → skipping_front limit bytes ≡ Taken line rest
taken-from limit bytes line rest is =
    ap (skipping_front limit) is.joined
    ∙ ap (passed limit) (first_line-append line (10 ∷ rest) ([], rest) (first_line-none line is.single) refl ∙ ap (λ (x : List ℕ). line_found x rest) (append-nil line))
    ∙ passed-short limit line rest is.short

pub taken-is_line : (limit : ℕ) (bytes line rest : List ℕ) → skipping_front limit bytes ≡ Taken line rest → IsFirstLine limit bytes line rest
taken-is_line limit bytes line rest e =
    let parts = passed-taken limit (first_line bytes) line rest e in
    record { joined = first_line-joined bytes (line, rest) parts.0; single = first_line-single bytes (line, rest) parts.0; short = parts.1 }

-- The law of the line at such a front.
pub skipping_laws : SkippingLaw
skipping_laws = record {
  taken = λ limit bytes line rest. (λ e. taken-is_line limit bytes line rest e, λ is. taken-from limit bytes line rest is);
  unended = λ limit bytes. (λ e. first_line-no_feed bytes (passed-none limit (first_line bytes) e), λ none. ap (passed limit) (first_line-none bytes none));
  goes_on = λ limit bytes more line rest e. passing-goes_on limit bytes more line rest e;
  stays_skipped = λ limit bytes more rest e. passing-stays_skipped limit bytes more rest e;
  shorter = λ limit bytes line rest e. passing-shorter limit bytes line rest e;
  shorter_skipped = λ limit bytes rest e. passing-shorter_skipped limit bytes rest e;
  held = λ limit bytes more e. passing-held limit bytes more (passed-none limit (first_line bytes) e);
}

-- What the code's scan of a piece finds.

-- The line ends at the first line feed of the piece.
piece-ends : (limit : ℕ) (held piece : List ℕ) (n : ℕ) → skipping_front limit held ≡ Unended → n < length piece → get_or piece n 0 ≡ 10 → ((k : ℕ) → k < n → get_or piece k 0 ≡ 10 → ⊥)
    → first_line (held ++ piece) ≡ Some (held ++ take n piece, drop (suc n) piece)
piece-ends limit held piece n part l is before = first_line-append held piece (take n piece, drop (suc n) piece) (passed-none limit (first_line held) part) (first_line-at piece n l is before)

pub passage-line : (limit : ℕ) (held piece : List ℕ) (n : ℕ) → skipping_front limit held ≡ Unended → n < length piece → get_or piece n 0 ≡ 10 → ((k : ℕ) → k < n → get_or piece k 0 ≡ 10 → ⊥) → n < limit - length held
    → (n < length piece) × (skipping_front limit (held ++ piece) ≡ Taken (held ++ take n piece) (drop (n + 1) piece))
passage-line limit held piece n part l is before short = (
  l,
  rw add-one
      (ap (passed limit) (piece-ends limit held piece n part l is before)
      ∙ passed-short limit (held ++ take n piece) (drop (suc n) piece) (omega (arith, short, length-append held (take n piece), length-take-le n piece (omega (arith, l))))),
)

pub passage-skipped : (limit : ℕ) (held piece : List ℕ) (n : ℕ) → skipping_front limit held ≡ Unended → n < length piece → get_or piece n 0 ≡ 10 → ((k : ℕ) → k < n → get_or piece k 0 ≡ 10 → ⊥) → limit - length held ≤ n
    → (n < length piece) × (skipping_front limit (held ++ piece) ≡ Skipped (drop (n + 1) piece))
passage-skipped limit held piece n part l is before long = (
  l,
  rw add-one
      (ap (passed limit) (piece-ends limit held piece n part l is before)
      ∙ passed-long limit (held ++ take n piece) (drop (suc n) piece) (omega (arith, long, length-append held (take n piece), length-take-le n piece (omega (arith, l))))),
)

-- The piece doesn't end the line.
pub passage-more : (limit : ℕ) (held piece : List ℕ) → skipping_front limit held ≡ Unended → first_line piece ≡ None → skipping_front limit (held ++ piece) ≡ Unended
passage-more limit held piece part is = ap (passed limit) (first_line-append_none held piece (passed-none limit (first_line held) part) is)

-- The line ends, within the limit or not, as the code tells by the room that is left.
pub passage-by : (limit : ℕ) (held piece : List ℕ) (n room : ℕ) (t : Bool) → skipping_front limit held ≡ Unended → n < length piece → get_or piece n 0 ≡ 10 → ((k : ℕ) → k < n → get_or piece k 0 ≡ 10 → ⊥) → room ≡ limit - length held → ltb n room ≡ t
    → IsPassage limit held piece (if t then passage.Line n else passage.Skipped n)
passage-by limit held piece n room true part l is before room_is test = passage-line limit held piece n part l is before (let low = ltb-true n room test in omega (arith, low, room_is))
passage-by limit held piece n room false part l is before room_is test = passage-skipped limit held piece n part l is before (let high = ltb-false n room test in omega (arith, high, room_is))
