-- The line at the front: how more bytes continue it, and how the code's scan finds it.
use Rattle.std.proofs.Common.{◌≡◌, ◌<◌, ◌≤◌, ◌+◌, ◌-◌, ℕ, zero, suc, List, [], ◌∷◌, ◌++◌, length, take, drop, get_or, eqb, ltb, Option, Some, None, Bool, true, false, refl, sym, ap, subst, ◌∙◌, add-one, length-append, arith}
use Rattle.std.specs.Prelude.{if◌then◌else◌}
use Rattle.std.proofs.lemmas.Bool.{eqb-true, eqb-false, eq-eqb, ne_eqb, ltb-true, ltb-false, lt-ltb, le-ltb}
use Rattle.std.proofs.lemmas.List.{length-take-le, append-nil}
use Rattle.std.proofs.Math.Seq.{get_or-append_seam, take-append_seam}
use Rattle.line_door.specs.Lines.{put_before, first_line, LineFront, Whole, Long, Partial, sized, front, is_whole, content}
use Rattle.line_door.specs.LineLaws.{NoFeed, IsFirstLine, LineLaw}

-- The first line of a list, by whether its first byte is a line feed.
abbrev cut_at : Bool → ℕ → List ℕ → Option (List ℕ × List ℕ) → Option (List ℕ × List ℕ)
cut_at true b bs o = Some ([], bs)
cut_at false b bs o = put_before b o

first_line-cons : (b : ℕ) (bs : List ℕ) → first_line (b ∷ bs) ≡ cut_at (eqb b 10) b bs (first_line bs)
first_line-cons b bs = by (eqb b 10)
  where
    by : (t : Bool) → (if t then Some ([], bs) else put_before b (first_line bs)) ≡ cut_at t b bs (first_line bs)
    by true = refl
    by false = refl

-- A line and the bytes after it.
abbrev found : List ℕ → List ℕ → Option (List ℕ × List ℕ)
found line rest = Some (line, rest)

some_is : {X : Type 0} (x y : X) → Some x ≡ Some y → x ≡ y
some_is x y e = cc

none_some : {X : Type 0} {P : Type 0} (x : X) → None ≡ Some x → P
none_some x e = absurd (cc)

goes-at : (t : Bool) (b : ℕ) (bs ys : List ℕ) (o o' : Option (List ℕ × List ℕ)) (p : List ℕ × List ℕ) →
    ((r : List ℕ × List ℕ) → o ≡ Some r → o' ≡ Some (r.0, r.1 ++ ys)) → cut_at t b bs o ≡ Some p → cut_at t b (bs ++ ys) o' ≡ Some (p.0, p.1 ++ ys)
goes-at true b bs ys o o' p more e = subst (λ (r : List ℕ × List ℕ). found [] (bs ++ ys) ≡ found r.0 (r.1 ++ ys)) (some_is ([], bs) p e) refl
goes-at false b bs ys None o' p more e = none_some p e
goes-at false b bs ys (Some r) o' p more e =
    subst (λ (x : List ℕ × List ℕ). put_before b o' ≡ found x.0 (x.1 ++ ys)) (some_is (b ∷ r.0, r.1) p e) (ap (put_before b) (more r refl))

-- More bytes leave a whole line unchanged.
pub first_line-goes_on : (xs ys : List ℕ) (p : List ℕ × List ℕ) → first_line xs ≡ Some p → first_line (xs ++ ys) ≡ Some (p.0, p.1 ++ ys)
first_line-goes_on [] ys p e = none_some p e
first_line-goes_on (b ∷ bs) ys p e =
    first_line-cons b (bs ++ ys) ∙ goes-at (eqb b 10) b bs ys (first_line bs) (first_line (bs ++ ys)) p (λ r f. first_line-goes_on bs ys r f) (sym (first_line-cons b bs) ∙ e)

joined-at : (t : Bool) (b : ℕ) (bs : List ℕ) (o : Option (List ℕ × List ℕ)) (p : List ℕ × List ℕ) → (t ≡ true → b ≡ 10) →
    ((r : List ℕ × List ℕ) → o ≡ Some r → bs ≡ r.0 ++ 10 ∷ r.1) → cut_at t b bs o ≡ Some p → b ∷ bs ≡ p.0 ++ 10 ∷ p.1
joined-at true b bs o p is more e = subst (λ (r : List ℕ × List ℕ). b ∷ bs ≡ r.0 ++ 10 ∷ r.1) (some_is ([], bs) p e) (ap (λ (x : ℕ). x ∷ bs) (is refl))
joined-at false b bs None p is more e = none_some p e
joined-at false b bs (Some r) p is more e = subst (λ (x : List ℕ × List ℕ). b ∷ bs ≡ x.0 ++ 10 ∷ x.1) (some_is (b ∷ r.0, r.1) p e) (ap (λ (x : List ℕ). b ∷ x) (more r refl))

-- The bytes are the line, its line feed, and the rest.
pub first_line-joined : (xs : List ℕ) (p : List ℕ × List ℕ) → first_line xs ≡ Some p → xs ≡ p.0 ++ 10 ∷ p.1
first_line-joined [] p e = none_some p e
first_line-joined (b ∷ bs) p e = joined-at (eqb b 10) b bs (first_line bs) p (eqb-true b 10) (λ r f. first_line-joined bs r f) (sym (first_line-cons b bs) ∙ e)

-- The rest after a line is shorter than the bytes.
pub first_line-shorter : (xs : List ℕ) (p : List ℕ × List ℕ) → first_line xs ≡ Some p → length p.1 < length xs
first_line-shorter xs p e =
    subst (λ (x : List ℕ). length p.1 < length x) (sym (first_line-joined xs p e)) (omega (arith, length-append p.0 (10 ∷ p.1)))

-- No line ends before the n-th byte.
abbrev far : ℕ → Option (List ℕ × List ℕ) → Type 0
far n None = Unit {0}
far n (Some p) = n ≤ length p.0

far-zero : (o : Option (List ℕ × List ℕ)) → far 0 o
far-zero None = tt
far-zero (Some p) = omega arith

far-put : (n b : ℕ) (o : Option (List ℕ × List ℕ)) → far n o → far (suc n) (put_before b o)
far-put n b None h = tt
far-put n b (Some p) h = omega arith

far-less : (m n : ℕ) (o : Option (List ℕ × List ℕ)) → m ≤ n → far n o → far m o
far-less m n None l h = tt
far-less m n (Some p) l h = omega arith

-- The first line, by the offset of its line feed.
pub first_line-at : (xs : List ℕ) (n : ℕ) → n < length xs → get_or xs n 0 ≡ 10 → ((k : ℕ) → k < n → get_or xs k 0 ≡ 10 → ⊥) → first_line xs ≡ Some (take n xs, drop (suc n) xs)
first_line-at [] n l is before = absurd (omega arith)
first_line-at (x ∷ xs) zero l is before = first_line-cons x xs ∙ ap (λ (t : Bool). cut_at t x xs (first_line xs)) (eq-eqb x 10 is)
first_line-at (x ∷ xs) (suc n) l is before =
    first_line-cons x xs
    ∙ ap (λ (t : Bool). cut_at t x xs (first_line xs)) (ne_eqb x 10 (before 0 (omega arith)))
    ∙ ap (put_before x) (first_line-at xs n (omega arith) is (λ k h e. before (suc k) (omega arith) e))

-- The first n bytes have no line feed.
pub first_line-far : (xs : List ℕ) (n : ℕ) → n ≤ length xs → ((k : ℕ) → k < n → get_or xs k 0 ≡ 10 → ⊥) → far n (first_line xs)
first_line-far xs zero l before = far-zero (first_line xs)
first_line-far [] (suc n) l before = absurd (omega arith)
first_line-far (x ∷ xs) (suc n) l before =
    subst (far (suc n)) (sym (first_line-cons x xs ∙ ap (λ (t : Bool). cut_at t x xs (first_line xs)) (ne_eqb x 10 (before 0 (omega arith)))))
    (far-put n x (first_line xs) (first_line-far xs n (omega arith) (λ k h e. before (suc k) (omega arith) e)))

-- Bytes without a line feed have no first line.
pub first_line-none : (xs : List ℕ) → ((k : ℕ) → k < length xs → get_or xs k 0 ≡ 10 → ⊥) → first_line xs ≡ None
first_line-none [] before = refl
first_line-none (x ∷ xs) before =
    first_line-cons x xs
    ∙ ap (λ (t : Bool). cut_at t x xs (first_line xs)) (ne_eqb x 10 (before 0 (omega arith)))
    ∙ ap (put_before x) (first_line-none xs (λ k h e. before (suc k) (omega arith) e))

-- If no line is found, the first byte is no line feed, and none is found after it.
none-at : (t : Bool) (b : ℕ) (bs : List ℕ) (o : Option (List ℕ × List ℕ)) → cut_at t b bs o ≡ None → (t ≡ false) × (o ≡ None)
none-at true b bs o e = absurd (cc)
none-at false b bs None e = (refl, refl)
none-at false b bs (Some r) e = absurd (cc)

first_line-after : (b : ℕ) (bs ys : List ℕ) → first_line (b ∷ bs) ≡ None → (first_line bs ≡ None) × (first_line (b ∷ (bs ++ ys)) ≡ put_before b (first_line (bs ++ ys)))
first_line-after b bs ys e =
    let parts = none-at (eqb b 10) b bs (first_line bs) (sym (first_line-cons b bs) ∙ e) in
    (parts.1, first_line-cons b (bs ++ ys) ∙ ap (λ (t : Bool). cut_at t b (bs ++ ys) (first_line (bs ++ ys))) parts.0)

-- Bytes without a line feed come before the first line.
pub first_line-append : (xs ys : List ℕ) (p : List ℕ × List ℕ) → first_line xs ≡ None → first_line ys ≡ Some p → first_line (xs ++ ys) ≡ Some (xs ++ p.0, p.1)
first_line-append [] ys p e f = f
first_line-append (b ∷ bs) ys p e f =
    let parts = first_line-after b bs ys e in
    parts.1 ∙ ap (put_before b) (first_line-append bs ys p parts.0 f)

-- Two lists without a line feed have none when joined.
pub first_line-append_none : (xs ys : List ℕ) → first_line xs ≡ None → first_line ys ≡ None → first_line (xs ++ ys) ≡ None
first_line-append_none [] ys e f = f
first_line-append_none (b ∷ bs) ys e f =
    let parts = first_line-after b bs ys e in
    parts.1 ∙ ap (put_before b) (first_line-append_none bs ys parts.0 f)

-- Bytes without a line feed move the end of the line further away.
first_line-append_far : (xs ys : List ℕ) (n : ℕ) → first_line xs ≡ None → far n (first_line ys) → far (length xs + n) (first_line (xs ++ ys))
first_line-append_far [] ys n e f = far-less (length {A = ℕ} [] + n) n (first_line ys) (omega arith) f
first_line-append_far (b ∷ bs) ys n e f =
    let parts = first_line-after b bs ys e in
    subst (far (length (b ∷ bs) + n)) (sym parts.1)
    (far-less (length (b ∷ bs) + n) (suc (length bs + n)) (put_before b (first_line (bs ++ ys))) (omega arith)
    (far-put (length bs + n) b (first_line (bs ++ ys)) (first_line-append_far bs ys n parts.0 f)))

-- What a front says of its bytes.

part-is : (t : Bool) → (if t then Partial else Long) ≡ Partial → t ≡ true
part-is true e = refl
part-is false e = absurd (cc)

long-is : (t : Bool) → (if t then Partial else Long) ≡ Long → t ≡ false
long-is true e = absurd (cc)
long-is false e = refl

no_line : (t : Bool) (line rest : List ℕ) → (if t then Partial else Long) ≡ Whole line rest → ⊥
no_line true line rest e = (cc)
no_line false line rest e = (cc)

line_is : (t : Bool) (p : List ℕ × List ℕ) (line rest : List ℕ) → (if t then Whole p.0 p.1 else Long) ≡ Whole line rest → (t ≡ true) × (p.0 ≡ line) × (p.1 ≡ rest)
line_is true p line rest e = (refl, (cc), (cc))
line_is false p line rest e = absurd (cc)

line_no_part : (t : Bool) (p : List ℕ × List ℕ) → (if t then Whole p.0 p.1 else Long) ≡ Partial → ⊥
line_no_part true p e = (cc)
line_no_part false p e = (cc)

line_long : (t : Bool) (p : List ℕ × List ℕ) → (if t then Whole p.0 p.1 else Long) ≡ Long → t ≡ false
line_long true p e = absurd (cc)
line_long false p e = refl

sized-partial : (limit : ℕ) (bytes : List ℕ) (o : Option (List ℕ × List ℕ)) → sized limit bytes o ≡ Partial → (o ≡ None) × (length bytes < limit)
sized-partial limit bytes None e = (refl, ltb-true (length bytes) limit (part-is (ltb (length bytes) limit) e))
sized-partial limit bytes (Some p) e = absurd (line_no_part (ltb (length p.0) limit) p e)

found_is : (p : List ℕ × List ℕ) (line rest : List ℕ) → p.0 ≡ line → p.1 ≡ rest → Some p ≡ found line rest
found_is p line rest e f = λ i. found (e i) (f i)

sized-whole : (limit : ℕ) (bytes : List ℕ) (o : Option (List ℕ × List ℕ)) (line rest : List ℕ) → sized limit bytes o ≡ Whole line rest → (o ≡ Some (line, rest)) × (length line < limit)
sized-whole limit bytes None line rest e = absurd (no_line (ltb (length bytes) limit) line rest e)
sized-whole limit bytes (Some p) line rest e =
    let parts = line_is (ltb (length p.0) limit) p line rest e in
    (found_is p line rest parts.1 parts.2, subst (λ (x : List ℕ). length x < limit) parts.1 (ltb-true (length p.0) limit parts.0))

sized-far : (limit : ℕ) (bytes : List ℕ) (o : Option (List ℕ × List ℕ)) → limit ≤ length bytes → far limit o → sized limit bytes o ≡ Long
sized-far limit bytes None l h = ap (λ (t : Bool). if t then Partial else Long) (le-ltb (length bytes) limit l)
sized-far limit bytes (Some p) l h = ap (λ (t : Bool). if t then Whole p.0 p.1 else Long) (le-ltb (length p.0) limit h)

-- A part has no line feed, and is short.
pub front-partial : (limit : ℕ) (xs : List ℕ) → front limit xs ≡ Partial → (first_line xs ≡ None) × (length xs < limit)
front-partial limit xs e = sized-partial limit xs (first_line xs) e

-- More bytes leave a whole line unchanged.
pub front-goes_on : (limit : ℕ) (xs ys line rest : List ℕ) → front limit xs ≡ Whole line rest → front limit (xs ++ ys) ≡ Whole line (rest ++ ys)
front-goes_on limit xs ys line rest e =
    let parts = sized-whole limit xs (first_line xs) line rest e in
    ap (sized limit (xs ++ ys)) (first_line-goes_on xs ys (line, rest) parts.0) ∙ ap (λ (t : Bool). if t then Whole line (rest ++ ys) else Long) (lt-ltb (length line) limit parts.1)

stays-long : (limit : ℕ) (xs ys : List ℕ) (o : Option (List ℕ × List ℕ)) → first_line xs ≡ o → sized limit xs o ≡ Long → front limit (xs ++ ys) ≡ Long
stays-long limit xs ys None is e =
    let l = ltb-false (length xs) limit (long-is (ltb (length xs) limit) e) in
    sized-far limit (xs ++ ys) (first_line (xs ++ ys)) (omega (arith, length-append xs ys, l))
    (far-less limit (length xs + 0) (first_line (xs ++ ys)) (omega (arith, l)) (first_line-append_far xs ys 0 is (far-zero (first_line ys))))
stays-long limit xs ys (Some p) is e =
    ap (sized limit (xs ++ ys)) (first_line-goes_on xs ys p is) ∙ ap (λ (t : Bool). if t then Whole p.0 (p.1 ++ ys) else Long) (line_long (ltb (length p.0) limit) p e)

-- A line that is too long stays too long.
pub front-stays_long : (limit : ℕ) (xs ys : List ℕ) → front limit xs ≡ Long → front limit (xs ++ ys) ≡ Long
front-stays_long limit xs ys e = stays-long limit xs ys (first_line xs) refl e

-- The rest after a line is shorter than the bytes.
pub front-shorter : (limit : ℕ) (xs line rest : List ℕ) → front limit xs ≡ Whole line rest → length rest < length xs
front-shorter limit xs line rest e = first_line-shorter xs (line, rest) (sized-whole limit xs (first_line xs) line rest e).0

-- The bytes are the line, its line feed, and the rest.
pub front-joined : (limit : ℕ) (xs line rest : List ℕ) → front limit xs ≡ Whole line rest → xs ≡ line ++ 10 ∷ rest
front-joined limit xs line rest e = first_line-joined xs (line, rest) (sized-whole limit xs (first_line xs) line rest e).0

-- What the code's scan of a piece finds.

-- The piece ends the line.
pub front-line : (limit : ℕ) (held piece : List ℕ) (n : ℕ) → front limit held ≡ Partial → first_line piece ≡ Some (take n piece, drop (suc n) piece) → n < length piece → length held + n < limit →
    front limit (held ++ piece) ≡ Whole (held ++ take n piece) (drop (suc n) piece)
front-line limit held piece n part is l short =
    ap (sized limit (held ++ piece)) (first_line-append held piece (take n piece, drop (suc n) piece) (front-partial limit held part).0 is)
    ∙ ap (λ (t : Bool). if t then Whole (held ++ take n piece) (drop (suc n) piece) else Long)
    (lt-ltb (length (held ++ take n piece)) limit (omega (arith, length-append held (take n piece), length-take-le n piece)))

-- The piece doesn't end the line, which is still a part.
pub front-more : (limit : ℕ) (held piece : List ℕ) → front limit held ≡ Partial → first_line piece ≡ None → length held + length piece < limit → front limit (held ++ piece) ≡ Partial
front-more limit held piece part is short =
    ap (sized limit (held ++ piece)) (first_line-append_none held piece (front-partial limit held part).0 is)
    ∙ ap (λ (t : Bool). if t then Partial else Long) (lt-ltb (length (held ++ piece)) limit (omega (arith, length-append held piece)))

-- The piece doesn't end the line within the limit.
pub front-long : (limit : ℕ) (held piece : List ℕ) (n : ℕ) → front limit held ≡ Partial → length held + n ≡ limit → n ≤ length piece → ((k : ℕ) → k < n → get_or piece k 0 ≡ 10 → ⊥) → front limit (held ++ piece) ≡ Long
front-long limit held piece n part is l before =
    sized-far limit (held ++ piece) (first_line (held ++ piece)) (omega (arith, length-append held piece))
    (far-less limit (length held + n) (first_line (held ++ piece)) (omega arith) (first_line-append_far held piece n (front-partial limit held part).0 (first_line-far piece n l before)))

-- More bytes leave a whole line whole, and a line that is too long too long.
pub is_whole-stays : (limit : ℕ) (xs ys : List ℕ) → is_whole (front limit xs) ≡ true → is_whole (front limit (xs ++ ys)) ≡ true
is_whole-stays limit xs ys = by (front limit xs) refl
  where
    by : (f : LineFront) → front limit xs ≡ f → is_whole f ≡ true → is_whole (front limit (xs ++ ys)) ≡ true
    by (Whole line rest) e is = ap is_whole (front-goes_on limit xs ys line rest e)
    by Long e is = ap is_whole (front-stays_long limit xs ys e)
    by Partial e is = absurd (cc)

-- A front that isn't whole is a part.
pub not_whole : (f : LineFront) → is_whole f ≡ false → f ≡ Partial
not_whole (Whole line rest) e = absurd (cc)
not_whole Long e = absurd (cc)
not_whole Partial e = refl

-- The line ends at the offset of the first line feed of the piece.
pub ahead-line : (limit : ℕ) (held piece : List ℕ) (n : ℕ) → front limit held ≡ Partial → n < length piece → get_or piece n 0 ≡ 10 → ((k : ℕ) → k < n → get_or piece k 0 ≡ 10 → ⊥) → length held + n < limit →
    (n < length piece) × (front limit (held ++ piece) ≡ Whole (held ++ take n piece) (drop (n + 1) piece))
ahead-line limit held piece n part l is before short = (l, rw add-one (front-line limit held piece n part (first_line-at piece n l is before) l short))

single-at : (t : Bool) (b : ℕ) (bs : List ℕ) (o : Option (List ℕ × List ℕ)) (p : List ℕ × List ℕ) → (t ≡ false → b ≡ 10 → ⊥) →
    ((r : List ℕ × List ℕ) → o ≡ Some r → NoFeed r.0) → cut_at t b bs o ≡ Some p → NoFeed p.0
single-at true b bs o p is more e = subst (λ (r : List ℕ × List ℕ). NoFeed r.0) (some_is ([], bs) p e) (λ k l ten. omega arith)
single-at false b bs None p is more e = none_some p e
single-at false b bs (Some r) p is more e = subst (λ (x : List ℕ × List ℕ). NoFeed x.0) (some_is (b ∷ r.0, r.1) p e) (no_feed-cons b r.0 (is refl) (more r refl))
  where
    no_feed-cons : (x : ℕ) (xs : List ℕ) → (x ≡ 10 → ⊥) → NoFeed xs → NoFeed (x ∷ xs)
    no_feed-cons x xs other none zero l ten = other ten
    no_feed-cons x xs other none (suc k) l ten = none k (omega arith) ten

-- A line has no line feed.
pub first_line-single : (xs : List ℕ) (p : List ℕ × List ℕ) → first_line xs ≡ Some p → NoFeed p.0
first_line-single [] p e = none_some p e
first_line-single (b ∷ bs) p e = single-at (eqb b 10) b bs (first_line bs) p (eqb-false b 10) (λ r f. first_line-single bs r f) (sym (first_line-cons b bs) ∙ e)

-- Bytes in which no line is found have no line feed.
pub first_line-no_feed : (xs : List ℕ) → first_line xs ≡ None → NoFeed xs
first_line-no_feed [] e k l ten = omega arith
first_line-no_feed (b ∷ bs) e zero l ten = eqb-false b 10 (none-at (eqb b 10) b bs (first_line bs) (sym (first_line-cons b bs) ∙ e)).0 ten
first_line-no_feed (b ∷ bs) e (suc k) l ten = first_line-no_feed bs (first_line-after b bs [] e).0 k (omega arith) ten

whole-is : (limit : ℕ) (bytes line rest : List ℕ) → front limit bytes ≡ Whole line rest → IsFirstLine limit bytes line rest
whole-is limit bytes line rest e =
    let parts = sized-whole limit bytes (first_line bytes) line rest e in
    record { joined = first_line-joined bytes (line, rest) parts.0; single = first_line-single bytes (line, rest) parts.0; short = parts.1 }

whole-from : (limit : ℕ) (bytes line rest : List ℕ) → IsFirstLine limit bytes line rest → front limit bytes ≡ Whole line rest
whole-from limit bytes line rest is =
    ap (front limit) is.joined
    ∙ ap (sized limit (line ++ 10 ∷ rest)) (first_line-append line (10 ∷ rest) ([], rest) (first_line-none line is.single) refl ∙ ap (λ (x : List ℕ). found x rest) (append-nil line))
    ∙ ap (λ (t : Bool). if t then Whole line rest else Long) (lt-ltb (length line) limit is.short)

partial-from : (limit : ℕ) (bytes : List ℕ) → NoFeed bytes → length bytes < limit → front limit bytes ≡ Partial
partial-from limit bytes none short = ap (sized limit bytes) (first_line-none bytes none) ∙ ap (λ (t : Bool). if t then Partial else Long) (lt-ltb (length bytes) limit short)

-- The content of a line, by its last byte.
content-at : (line : List ℕ) (b : ℕ) (t : Bool) → eqb b 13 ≡ t → content (line ++ b ∷ []) ≡ (if t then line else line ++ b ∷ [])
content-at line b t e =
    let bytes : List ℕ = line ++ b ∷ [] in
    let len : length bytes - 1 ≡ length line = omega (arith, length-append line (b ∷ [])) in
    ap (λ (n : ℕ). if eqb (get_or bytes n 0) 13 then take n bytes else bytes) len
    ∙ ap (λ (x : ℕ). if eqb x 13 then take (length line) bytes else bytes) (get_or-append_seam line b [] 0)
    ∙ ap (λ (x : List ℕ). if eqb b 13 then x else bytes) (take-append_seam line (b ∷ []))
    ∙ ap (λ (u : Bool). if u then line else bytes) e

-- The law of the line at the front.
pub line_law : LineLaw
line_law = record {
  whole = λ limit bytes line rest. (λ e. whole-is limit bytes line rest e, λ is. whole-from limit bytes line rest is);
  partial = λ limit bytes. (
    λ e. let parts = front-partial limit bytes e in (first_line-no_feed bytes parts.0, parts.1),
    λ is. partial-from limit bytes is.0 is.1,
  );
  goes_on = λ limit bytes more line rest e. front-goes_on limit bytes more line rest e;
  stays_long = λ limit bytes more e. front-stays_long limit bytes more e;
  shorter = λ limit bytes line rest e. front-shorter limit bytes line rest e;
  content_cut = λ line. content-at line 13 true refl;
  content_kept = λ line b other. content-at line b false (ne_eqb b 13 other);
}
