-- Where heads end, in terms of the bytes alone.
use Rattle.std.proofs.Common.{◌≡◌, ◌<◌, ◌≤◌, ◌+◌, inl, inr, ℕ, zero, suc, Bool, true, false, nat_le, nat_lt, List, [], ◌∷◌, ◌++◌, length, take, drop, codes, Option, Some, None, refl, sym, ap, ◌∙◌, length-append, arith, if◌then◌else◌}
use Rattle.std.proofs.Math.Seq.{take-append_seam, drop-append-add}
use Rattle.std.proofs.lemmas.Bool.{cases_order}
use Rattle.std.proofs.lemmas.Bool.Decides.{nat_tests}
use Rattle.std.proofs.lemmas.List.{take-append-drop, length-take-le}
use Rattle.std.proofs.lemmas.Slice.Eq.{bytes_eq-Decides}
use Rattle.http_front.specs.Fronts.{ends_here, head_len, HeadFront, Whole, Long, Partial, sized, front}
use Rattle.http_front.specs.Laws.{HeadEndsAt, IsWhole, FrontLaw}
use Rattle.http_front.proofs.Fronts.{len_by, head_len-cons, head_len-within, sized-whole, sized-part, front-goes, Goes, Same, Over, Open}

-- A head ends at the front where four bytes end it.
pub here-ends : (bytes : List ℕ) → ends_here bytes ≡ true → HeadEndsAt bytes 0
here-ends bytes is =
    let same : take 4 bytes ≡ codes "\r\n\r\n" = (bytes_eq-Decides (take 4 bytes) (codes "\r\n\r\n")).0 is in
    ([], drop 4 bytes, refl, sym (take-append-drop 4 bytes) ∙ ap (λ (xs : List ℕ). xs ++ drop 4 bytes) same)

empty_is : (xs : List ℕ) → length xs ≡ 0 → xs ≡ []
empty_is [] e = refl
empty_is (x ∷ xs) e = absurd (omega (arith, e))

pub ends-here : (bytes : List ℕ) → HeadEndsAt bytes 0 → ends_here bytes ≡ true
ends-here bytes at =
    let none : at.0 ≡ [] = empty_is at.0 at.2 in
    let is : bytes ≡ codes "\r\n\r\n" ++ at.1 = at.3 ∙ ap (λ (xs : List ℕ). xs ++ codes "\r\n\r\n" ++ at.1) none in
    (bytes_eq-Decides (take 4 bytes) (codes "\r\n\r\n")).1 (ap (take 4) is)

-- One byte before moves the end by one.
pub ends-before : (b : ℕ) (bs : List ℕ) (n : ℕ) → HeadEndsAt bs n → HeadEndsAt (b ∷ bs) (suc n)
ends-before b bs n at = (b ∷ at.0, at.1, ap suc at.2, ap (λ (xs : List ℕ). b ∷ xs) at.3)

pub ends-after : (b : ℕ) (bs : List ℕ) (n : ℕ) → HeadEndsAt (b ∷ bs) (suc n) → HeadEndsAt bs n
ends-after b bs n at = by at.0 at.1 at.2 at.3
  where
    by : (front rest : List ℕ) → length front ≡ suc n → b ∷ bs ≡ front ++ codes "\r\n\r\n" ++ rest → HeadEndsAt bs n
    by [] rest size is = absurd (omega (arith, size))
    by (c ∷ front) rest size is = let back : bs ≡ front ++ codes "\r\n\r\n" ++ rest = cc in (front, rest, omega (arith, size), back)

never-empty : (n : ℕ) → HeadEndsAt [] n → ⊥
never-empty n at =
    let sizes : 0 ≡ length (at.0 ++ codes "\r\n\r\n" ++ at.1) = ap length at.3 in
    absurd (omega (arith, sizes, length-append (at.0 ++ codes "\r\n\r\n") at.1, length-append at.0 (codes "\r\n\r\n")))

-- The first end of a head.
pub record IsFirst (bytes : List ℕ) (len : ℕ) : Type 0 where
  pub at : ℕ
  pub ends : HeadEndsAt bytes at
  pub first : (m : ℕ) → m < at → HeadEndsAt bytes m → ⊥
  pub is : len ≡ at + 4

no-end-by : (b : ℕ) (bs : List ℕ) (n : ℕ) → ends_here (b ∷ bs) ≡ false → ((m : ℕ) → m < n → HeadEndsAt bs m → ⊥) → (m : ℕ) → m < suc n → HeadEndsAt (b ∷ bs) m → ⊥
no-end-by b bs n none later zero less at = absurd (cc (sym none ∙ ends-here (b ∷ bs) at))
no-end-by b bs n none later (suc m) less at = later m (omega (arith, less)) (ends-after b bs m at)

found-by : (t : Bool) (o : Option ℕ) (b : ℕ) (bs : List ℕ) (len : ℕ) → ends_here (b ∷ bs) ≡ t → ((m : ℕ) → o ≡ Some m → IsFirst bs m) → len_by t o ≡ Some len → IsFirst (b ∷ bs) len
found-by true o b bs len ends more e = record { at = 0; ends = here-ends (b ∷ bs) ends; first = λ m less at. absurd (omega (arith, less)); is = cc }
found-by false None b bs len ends more e = absurd (cc e)
found-by false (Some m) b bs len ends more e =
    let same : 1 + m ≡ len = cc in
    let later = more m refl in
    record { at = suc later.at; ends = ends-before b bs later.at later.ends; first = no-end-by b bs later.at ends later.first; is = omega (arith, same, later.is) }

-- A length that is found is that of the first end.
pub found-first : (bytes : List ℕ) (len : ℕ) → head_len bytes ≡ Some len → IsFirst bytes len
found-first [] len e = absurd (cc e)
found-first (b ∷ bs) len e = found-by (ends_here (b ∷ bs)) (head_len bs) b bs len refl (λ m is. found-first bs m is) (sym (head_len-cons b bs) ∙ e)

none-by : (t : Bool) (o : Option ℕ) (b : ℕ) (bs : List ℕ) (n : ℕ) → ends_here (b ∷ bs) ≡ t → (o ≡ None → (m : ℕ) → HeadEndsAt bs m → ⊥) → len_by t o ≡ None → HeadEndsAt (b ∷ bs) n → ⊥
none-by true o b bs n ends more e at = absurd (cc e)
none-by false None b bs zero ends more e at = absurd (cc (sym ends ∙ ends-here (b ∷ bs) at))
none-by false None b bs (suc n) ends more e at = more refl n (ends-after b bs n at)
none-by false (Some m) b bs n ends more e at = absurd (cc e)

-- Where none is found, no head ends.
pub none-found : (bytes : List ℕ) (n : ℕ) → head_len bytes ≡ None → HeadEndsAt bytes n → ⊥
none-found [] n e at = never-empty n at
none-found (b ∷ bs) n e at = none-by (ends_here (b ∷ bs)) (head_len bs) b bs n refl (λ none m found. none-found bs m none found) (sym (head_len-cons b bs) ∙ e) at

first-one : (bytes : List ℕ) (a b : ℕ) → HeadEndsAt bytes a → ((m : ℕ) → m < a → HeadEndsAt bytes m → ⊥) → HeadEndsAt bytes b → ((m : ℕ) → m < b → HeadEndsAt bytes m → ⊥) → a ≡ b
first-one bytes a b at none at' none' = elim (cases_order a b) [ inl same ↦ omega (arith, same) | inr (inl less) ↦ absurd (none' a less at) | inr (inr more) ↦ absurd (none b (omega (arith, more)) at') ]

-- A whole head at the front, in terms of the bytes.
whole-to : (limit : ℕ) (bytes head rest : List ℕ) (o : Option ℕ) → head_len bytes ≡ o → sized limit bytes o ≡ Whole head rest → IsWhole limit bytes head rest
whole-to limit bytes head rest None found e = absurd (never (nat_lt (length bytes) limit) e)
  where
    never : (t : Bool) → (if t then Partial else Long) ≡ Whole head rest → ⊥
    never true e = cc e
    never false e = cc e
whole-to limit bytes head rest (Some len) found e = by (nat_le len limit) refl
  where
    first : IsFirst bytes len
    first = found-first bytes len found

    within : len ≤ length bytes
    within = (head_len-within bytes len found).1

    by : (t : Bool) → nat_le len limit ≡ t → IsWhole limit bytes head rest
    by false h = absurd (cc (rw h at e))
    by true h =
        let fits : len ≤ limit = grind (arith, nat_tests) in
        let same : Whole (take len bytes) (drop len bytes) ≡ Whole head rest = sym (sized-whole limit bytes len fits) ∙ e in
        let front_is : take len bytes ≡ head = cc in
        let back_is : drop len bytes ≡ rest = cc in
        let size : length head ≡ len = ap length (sym front_is) ∙ length-take-le len bytes within in
        record {
          joined = sym (take-append-drop len bytes) ∙ ap (λ (xs : List ℕ). xs ++ drop len bytes) front_is ∙ ap (λ (xs : List ℕ). head ++ xs) back_is;
          ends = (first.at, first.ends, size ∙ first.is, first.first);
          short = omega (arith, size, fits);
        }

whole-from : (limit : ℕ) (bytes head rest : List ℕ) (o : Option ℕ) → head_len bytes ≡ o → IsWhole limit bytes head rest → sized limit bytes o ≡ Whole head rest
whole-from limit bytes head rest None found is = absurd (none-found bytes is.ends.0 found is.ends.1)
whole-from limit bytes head rest (Some len) found is =
    let first = found-first bytes len found in
    let same : first.at ≡ is.ends.0 = first-one bytes first.at is.ends.0 first.ends first.first is.ends.1 is.ends.3 in
    let size : len ≡ length head = omega (arith, first.is, is.ends.2, same) in
    let fits : len ≤ limit = omega (arith, size, is.short) in
    let front_is : take len bytes ≡ head = ap (λ (n : ℕ). take n bytes) size ∙ ap (take (length head)) is.joined ∙ take-append_seam head rest in
    let back_is : drop len bytes ≡ rest = ap (λ (n : ℕ). drop n bytes) size ∙ ap (drop (length head)) is.joined ∙ drop-seam head rest in
    sized-whole limit bytes len fits ∙ ap (λ (xs : List ℕ). Whole xs (drop len bytes)) front_is ∙ ap (Whole head) back_is
  where
    drop-seam : (xs ys : List ℕ) → drop (length xs) (xs ++ ys) ≡ ys
    drop-seam xs ys = ap (λ (n : ℕ). drop n (xs ++ ys)) (omega arith) ∙ drop-append-add xs ys 0

partial-to : (limit : ℕ) (bytes : List ℕ) (o : Option ℕ) → head_len bytes ≡ o → sized limit bytes o ≡ Partial → ((n : ℕ) → HeadEndsAt bytes n → ⊥) × (length bytes < limit)
partial-to limit bytes None found e = (λ n at. none-found bytes n found at, by (nat_lt (length bytes) limit) refl)
  where
    by : (t : Bool) → nat_lt (length bytes) limit ≡ t → length bytes < limit
    by true h = grind (arith, nat_tests)
    by false h = absurd (cc (rw h at e))
partial-to limit bytes (Some len) found e = absurd (never (nat_le len limit) e)
  where
    never : (t : Bool) → (if t then Whole (take len bytes) (drop len bytes) else Long) ≡ Partial → ⊥
    never true e = cc e
    never false e = cc e

partial-from : (limit : ℕ) (bytes : List ℕ) (o : Option ℕ) → head_len bytes ≡ o → ((n : ℕ) → HeadEndsAt bytes n → ⊥) → length bytes < limit → sized limit bytes o ≡ Partial
partial-from limit bytes None found none short = sized-part limit bytes short
partial-from limit bytes (Some len) found none short = let first = found-first bytes len found in absurd (none first.at first.ends)

goes-as : (q : List ℕ) (f g : HeadFront) → Goes q f g → (head rest : List ℕ) → f ≡ Whole head rest → g ≡ Whole head (rest ++ q)
goes-as q f g (Same head' rest') head rest e = let one : head' ≡ head = cc in let two : rest' ≡ rest = cc in rw (one, two) refl
goes-as q f g Over head rest e = absurd (cc e)
goes-as q f g (Open next) head rest e = absurd (cc e)

stays-as : (q : List ℕ) (f g : HeadFront) → Goes q f g → f ≡ Long → g ≡ Long
stays-as q f g (Same head rest) e = absurd (cc e)
stays-as q f g Over e = refl
stays-as q f g (Open next) e = absurd (cc e)

pub front_law : FrontLaw
unfolding front
front_law = record {
  whole = λ limit bytes head rest. (whole-to limit bytes head rest (head_len bytes) refl, whole-from limit bytes head rest (head_len bytes) refl);
  partial = λ limit bytes. (partial-to limit bytes (head_len bytes) refl, λ both. partial-from limit bytes (head_len bytes) refl both.0 both.1);
  goes_on = λ limit bytes more head rest is. goes-as more (front limit bytes) (front limit (bytes ++ more)) (front-goes limit bytes more) head rest is;
  stays_long = λ limit bytes more is. stays-as more (front limit bytes) (front limit (bytes ++ more)) (front-goes limit bytes more) is;
}
