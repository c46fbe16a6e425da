-- What is seen of a head's end, byte by byte, and where it is whole.
use Rattle.std.proofs.Common.{◌≡◌, ◌<◌, ◌≤◌, ◌+◌, ℕ, suc, Bool, true, false, eqb, nat_le, nat_lt, List, [], ◌∷◌, ◌++◌, length, take, drop, Option, Some, None, refl, sym, ap, ◌∙◌, append_assoc, length-append, arith, if◌then◌else◌}
use Rattle.std.proofs.Math.Seq.{take-append-add, drop-append-add}
use Rattle.std.proofs.lemmas.Bool.{eqb-true, eqb-false, ne_eqb}
use Rattle.std.proofs.lemmas.Bool.Decides.{nat_tests}
use Rattle.std.proofs.lemmas.List.{length-take-le, take-append-drop}
use Rattle.http_front.specs.Fronts.{ends_here, plus_len, head_len, Whole, Long, Partial, sized, front}
use Rattle.http_front.specs.Scans.{next_seen, scan_by, scan, seen_by, seen_after, IsHeldHead}
use Rattle.http_front.specs.declared.scan.Seen.{Seen}
use Rattle.http_front.specs.declared.scan.Seen.TheVariants.{Nothing, Return, Line, LineReturn}
use Rattle.http_front.proofs.Fronts.{len_by, head_len-cons, head_len-later, sized-whole, sized-over, sized-part, sized-long}

-- The bytes of a head's end that are seen.
abbrev pub pending : Seen → List ℕ
pending Nothing = []
pending Return = 13 ∷ []
pending Line = 13 ∷ 10 ∷ []
pending LineReturn = 13 ∷ 10 ∷ 13 ∷ []

-- How many they are.
abbrev pub size : Seen → ℕ
size Nothing = 0
size Return = 1
size Line = 2
size LineReturn = 3

plus-joined : (a b : ℕ) (o : Option ℕ) → plus_len a (plus_len b o) ≡ plus_len (a + b) o
plus-joined a b None = refl
plus-joined a b (Some n) = ap Some (omega arith)

plus-none : (o : Option ℕ) → plus_len 0 o ≡ o
plus-none None = refl
plus-none (Some n) = ap Some (omega arith)

-- Bytes that don't start with CR don't end a head here.
other-front : (b : ℕ) (bs : List ℕ) → (b ≡ 13 → ⊥) → head_len (b ∷ bs) ≡ plus_len 1 (head_len bs)
other-front b bs other = head_len-cons b bs ∙ ap (λ (t : Bool). len_by t (head_len bs)) no
  where
    no : ends_here (b ∷ bs) ≡ false
    no = let first : eqb b 13 ≡ false = ne_eqb b 13 other in rw first refl

-- CR and another byte than LF don't either.
return-front : (b : ℕ) (bs : List ℕ) → (b ≡ 10 → ⊥) → head_len (13 ∷ b ∷ bs) ≡ plus_len 1 (head_len (b ∷ bs))
return-front b bs other = head_len-cons 13 (b ∷ bs) ∙ ap (λ (t : Bool). len_by t (head_len (b ∷ bs))) no
  where
    no : ends_here (13 ∷ b ∷ bs) ≡ false
    no = let second : eqb b 10 ≡ false = ne_eqb b 10 other in rw second refl

-- Nor do CR LF and another byte than CR.
line-front : (b : ℕ) (bs : List ℕ) → (b ≡ 13 → ⊥) → head_len (13 ∷ 10 ∷ b ∷ bs) ≡ plus_len 1 (head_len (10 ∷ b ∷ bs))
line-front b bs other = head_len-cons 13 (10 ∷ b ∷ bs) ∙ ap (λ (t : Bool). len_by t (head_len (10 ∷ b ∷ bs))) no
  where
    no : ends_here (13 ∷ 10 ∷ b ∷ bs) ≡ false
    no = let third : eqb b 13 ≡ false = ne_eqb b 13 other in rw third refl

-- Nor do CR LF CR and another byte than LF.
last-front : (b : ℕ) (bs : List ℕ) → (b ≡ 10 → ⊥) → head_len (13 ∷ 10 ∷ 13 ∷ b ∷ bs) ≡ plus_len 1 (head_len (10 ∷ 13 ∷ b ∷ bs))
last-front b bs other = head_len-cons 13 (10 ∷ 13 ∷ b ∷ bs) ∙ ap (λ (t : Bool). len_by t (head_len (10 ∷ 13 ∷ b ∷ bs))) no
  where
    no : ends_here (13 ∷ 10 ∷ 13 ∷ b ∷ bs) ≡ false
    no = let fourth : eqb b 10 ≡ false = ne_eqb b 10 other in rw fourth refl

ten : (bs : List ℕ) → head_len (10 ∷ bs) ≡ plus_len 1 (head_len bs)
ten bs = other-front 10 bs (λ e. cc e)

-- The length of a head whose start is seen, by what the bytes after that make whole.
abbrev IsScanned : List ℕ → Seen → Type 0
IsScanned bs seen = head_len (pending seen ++ bs) ≡ plus_len (size seen) (scan seen bs)

scanned-none : (seen : Seen) → IsScanned [] seen
scanned-none Nothing = refl
scanned-none Return = refl
scanned-none Line = refl
scanned-none LineReturn = refl

-- A byte that continues nothing of it.
other-nothing : (b : ℕ) (bs : List ℕ) → eqb b 13 ≡ false → scan Nothing (b ∷ bs) ≡ plus_len 1 (scan Nothing bs)
other-nothing b bs h = rw h refl

other-return : (b : ℕ) (bs : List ℕ) → eqb b 10 ≡ false → eqb b 13 ≡ false → scan Return (b ∷ bs) ≡ plus_len 1 (scan Nothing bs)
other-return b bs h k = rw (h, k) refl

other-line : (b : ℕ) (bs : List ℕ) → eqb b 13 ≡ false → scan Line (b ∷ bs) ≡ plus_len 1 (scan Nothing bs)
other-line b bs h = rw h refl

other-last : (b : ℕ) (bs : List ℕ) → eqb b 10 ≡ false → eqb b 13 ≡ false → scan LineReturn (b ∷ bs) ≡ plus_len 1 (scan Nothing bs)
other-last b bs h k = rw (h, k) refl

-- One byte more, by what is seen before it.
module _ (b : ℕ) (bs : List ℕ) (more : (s : Seen) → IsScanned bs s) where
  start : head_len bs ≡ scan Nothing bs
  start = more Nothing ∙ plus-none (scan Nothing bs)

  scanned-nothing : IsScanned (b ∷ bs) Nothing
  scanned-nothing = by (eqb b 13) refl
    where
      by : (t : Bool) → eqb b 13 ≡ t → head_len (b ∷ bs) ≡ plus_len 0 (scan Nothing (b ∷ bs))
      by true h = let is : b ≡ 13 = eqb-true b 13 h in rw is (more Return ∙ sym (plus-none (plus_len 1 (scan Return bs))))
      by false h = other-front b bs (eqb-false b 13 h) ∙ ap (plus_len 1) start ∙ sym (plus-none (plus_len 1 (scan Nothing bs))) ∙ ap (plus_len 0) (sym (other-nothing b bs h))

  scanned-return : IsScanned (b ∷ bs) Return
  scanned-return = by (eqb b 10) refl (eqb b 13) refl
    where
      by : (t : Bool) → eqb b 10 ≡ t → (u : Bool) → eqb b 13 ≡ u → head_len (13 ∷ b ∷ bs) ≡ plus_len 1 (scan Return (b ∷ bs))
      by true h u k = let is : b ≡ 10 = eqb-true b 10 h in rw is (more Line ∙ sym (plus-joined 1 1 (scan Line bs)))
      by false h true k = let is : b ≡ 13 = eqb-true b 13 k in rw is (return-front 13 bs (λ e. cc e) ∙ ap (plus_len 1) (more Return))
      by false h false k = return-front b bs (eqb-false b 10 h) ∙ ap (plus_len 1) (other-front b bs (eqb-false b 13 k) ∙ ap (plus_len 1) start) ∙ ap (plus_len 1) (sym (other-return b bs h k))

  scanned-line : IsScanned (b ∷ bs) Line
  scanned-line = by (eqb b 13) refl
    where
      by : (t : Bool) → eqb b 13 ≡ t → head_len (13 ∷ 10 ∷ b ∷ bs) ≡ plus_len 2 (scan Line (b ∷ bs))
      by true h = let is : b ≡ 13 = eqb-true b 13 h in rw is (more LineReturn ∙ sym (plus-joined 2 1 (scan LineReturn bs)))
      by false h =
          line-front b bs (eqb-false b 13 h) ∙ ap (plus_len 1) (ten (b ∷ bs) ∙ ap (plus_len 1) (other-front b bs (eqb-false b 13 h) ∙ ap (plus_len 1) start)) ∙ plus-joined 1 1 (plus_len 1 (scan Nothing bs)) ∙ ap (plus_len 2) (sym (other-line b bs h))

  scanned-last : IsScanned (b ∷ bs) LineReturn
  scanned-last = by (eqb b 10) refl (eqb b 13) refl
    where
      by : (t : Bool) → eqb b 10 ≡ t → (u : Bool) → eqb b 13 ≡ u → head_len (13 ∷ 10 ∷ 13 ∷ b ∷ bs) ≡ plus_len 3 (scan LineReturn (b ∷ bs))
      by true h u k = let is : b ≡ 10 = eqb-true b 10 h in rw is (head_len-cons 13 (10 ∷ 13 ∷ 10 ∷ bs))
      by false h true k =
          let is : b ≡ 13 = eqb-true b 13 k in
          rw is
          (last-front 13 bs (λ e. cc e) ∙ ap (plus_len 1) (ten (13 ∷ 13 ∷ bs) ∙ ap (plus_len 1) (return-front 13 bs (λ e. cc e) ∙ ap (plus_len 1) (more Return))) ∙ plus-joined 1 1 (plus_len 1 (plus_len 1 (scan Return bs)))
          ∙ plus-joined 2 1 (plus_len 1 (scan Return bs)))
      by false h false k =
          last-front b bs (eqb-false b 10 h)
          ∙ ap (plus_len 1) (ten (13 ∷ b ∷ bs) ∙ ap (plus_len 1) (return-front b bs (eqb-false b 10 h) ∙ ap (plus_len 1) (other-front b bs (eqb-false b 13 k) ∙ ap (plus_len 1) start)))
          ∙ plus-joined 1 1 (plus_len 1 (plus_len 1 (scan Nothing bs))) ∙ plus-joined 2 1 (plus_len 1 (scan Nothing bs)) ∙ ap (plus_len 3) (sym (other-last b bs h k))

  scanned-more : (seen : Seen) → IsScanned (b ∷ bs) seen
  scanned-more Nothing = scanned-nothing
  scanned-more Return = scanned-return
  scanned-more Line = scanned-line
  scanned-more LineReturn = scanned-last

scanned : (bs : List ℕ) (seen : Seen) → IsScanned bs seen
scanned [] seen = scanned-none seen
scanned (b ∷ bs) seen = scanned-more b bs (λ (s : Seen). scanned bs s) seen

-- The same at the start of a head.
pub head_len-is : (bs : List ℕ) → head_len bs ≡ scan Nothing bs
head_len-is bs = scanned bs Nothing ∙ plus-none (scan Nothing bs)

-- How many bytes more make it whole, after bytes that don't.
scan-some : (seen : Option Seen) (xs : List ℕ) → scan_by seen (λ (s : Seen). scan s xs) ≡ None → (s : Seen) × (seen ≡ Some s) × (scan s xs ≡ None)
scan-some None xs e = absurd (cc e)
scan-some (Some s) xs e = (s, refl, none-of (scan s xs) e)
  where
    none-of : (o : Option ℕ) → plus_len 1 o ≡ None → o ≡ None
    none-of None e = refl
    none-of (Some n) e = absurd (cc e)

pub scan-later : (seen : Seen) (xs ys : List ℕ) → scan seen xs ≡ None → scan seen (xs ++ ys) ≡ plus_len (length xs) (scan (seen_after seen xs) ys)
scan-later seen [] ys e = sym (plus-none (scan seen ys))
scan-later seen (b ∷ bs) ys e =
    let step = scan-some (next_seen seen b) bs e in
    ap (λ (o : Option Seen). scan_by o (λ (s : Seen). scan s (bs ++ ys))) step.1
    ∙ ap (plus_len 1) (scan-later step.0 bs ys step.2)
    ∙ plus-joined 1 (length bs) (scan (seen_after step.0 bs) ys)
    ∙ ap (λ (n : ℕ). plus_len n (scan (seen_after step.0 bs) ys)) (omega arith)
    ∙ sym (ap (λ (o : Option Seen). plus_len (suc (length bs)) (scan (seen_by o (λ (s : Seen). seen_after s bs)) ys)) step.1)

pub seen_after-append : (seen : Seen) (xs ys : List ℕ) → scan seen xs ≡ None → seen_after seen (xs ++ ys) ≡ seen_after (seen_after seen xs) ys
seen_after-append seen [] ys e = refl
seen_after-append seen (b ∷ bs) ys e =
    let step = scan-some (next_seen seen b) bs e in
    ap (λ (o : Option Seen). seen_by o (λ (s : Seen). seen_after s (bs ++ ys))) step.1
    ∙ seen_after-append step.0 bs ys step.2
    ∙ sym (ap (λ (o : Option Seen). seen_after (seen_by o (λ (s : Seen). seen_after s bs)) ys) step.1)

scan-by_some : (seen : Option Seen) (bs : List ℕ) (n : ℕ) → ((s : Seen) (m : ℕ) → scan s bs ≡ Some m → (0 < m) × (m ≤ length bs)) → scan_by seen (λ (s : Seen). scan s bs) ≡ Some n → (0 < n) × (n ≤ 1 + length bs)
scan-by_some None bs n more e = let same : 1 ≡ n = cc in (omega (arith, same), omega (arith, same))
scan-by_some (Some s) bs n more e = by (scan s bs) refl e
  where
    by : (o : Option ℕ) → scan s bs ≡ o → plus_len 1 o ≡ Some n → (0 < n) × (n ≤ 1 + length bs)
    by None found e = absurd (cc e)
    by (Some m) found e = let same : 1 + m ≡ n = cc in let bounds = more s m found in (omega (arith, same), omega (arith, same, bounds.1))

-- It is made whole within the bytes, by one at least.
pub scan-within : (seen : Seen) (bs : List ℕ) (n : ℕ) → scan seen bs ≡ Some n → (0 < n) × (n ≤ length bs)
scan-within seen [] n e = absurd (cc e)
scan-within seen (b ∷ bs) n e = let bounds = scan-by_some (next_seen seen b) bs n (λ s m is. scan-within s bs m is) e in (bounds.0, omega (arith, bounds.1))

goes-plus : (o p : Option ℕ) (n : ℕ) → ((m : ℕ) → o ≡ Some m → p ≡ Some m) → plus_len 1 o ≡ Some n → plus_len 1 p ≡ Some n
goes-plus None p n more e = absurd (cc e)
goes-plus (Some m) p n more e = ap (plus_len 1) (more m refl) ∙ e

goes-by : (o : Option Seen) (bs q : List ℕ) (n : ℕ) → ((s : Seen) (m : ℕ) → scan s bs ≡ Some m → scan s (bs ++ q) ≡ Some m) → scan_by o (λ (s : Seen). scan s bs) ≡ Some n → scan_by o (λ (s : Seen). scan s (bs ++ q)) ≡ Some n
goes-by None bs q n more e = e
goes-by (Some s) bs q n more e = goes-plus (scan s bs) (scan s (bs ++ q)) n (more s) e

-- More bytes don't change where.
pub scan-goes : (seen : Seen) (bs q : List ℕ) (n : ℕ) → scan seen bs ≡ Some n → scan seen (bs ++ q) ≡ Some n
scan-goes seen [] q n e = absurd (cc e)
scan-goes seen (b ∷ bs) q n e = goes-by (next_seen seen b) bs q n (λ s m is. scan-goes s bs q m is) e

-- What a part of a head is: no end, and fewer bytes than the limit.
part-of : (limit : ℕ) (bytes : List ℕ) (o : Option ℕ) → head_len bytes ≡ o → sized limit bytes o ≡ Partial → (o ≡ None) × (length bytes < limit)
part-of limit bytes None found e = (refl, by (nat_lt (length bytes) limit) refl)
  where
    by : (t : Bool) → nat_lt (length bytes) limit ≡ t → length bytes < limit
    by true h = grind (arith, nat_tests)
    by false h = absurd (cc (rw h at e))
part-of limit bytes (Some n) found e = absurd (never (nat_le n limit) e)
  where
    never : (t : Bool) → (if t then Whole (take n bytes) (drop n bytes) else Long) ≡ Partial → ⊥
    never true e = cc e
    never false e = cc e

pub part-is : (limit : ℕ) (bytes : List ℕ) → front limit bytes ≡ Partial → (head_len bytes ≡ None) × (length bytes < limit)
unfolding front
part-is limit bytes e = part-of limit bytes (head_len bytes) refl e

module _ (limit : ℕ) (held : List ℕ) (seen : Seen) (piece : List ℕ) (is : IsHeldHead limit held seen) where
  none : scan Nothing held ≡ None
  none = sym (head_len-is held) ∙ (part-is limit held is.part).0

  -- The end of a head by what is seen of it and the piece.
  joined : head_len (held ++ piece) ≡ plus_len (length held) (scan seen piece)
  joined = head_len-is (held ++ piece) ∙ scan-later Nothing held piece none ∙ ap (λ (s : Seen). plus_len (length held) (scan s piece)) (sym is.mark)

  -- The head ends within the piece, before the limit.
  pub head_ends : (near : ℕ) (n : ℕ) → scan seen (take near piece) ≡ Some n → length held + near ≤ limit → near ≤ length piece → (0 < n) × (n ≤ length piece) × (length held + n ≤ limit) × (front limit (held ++ piece) ≡ Whole (held ++ take n piece) (drop n piece))
  unfolding front
  head_ends near n found room short =
      let bounds = scan-within seen (take near piece) n found in
      let size : length (take near piece) ≡ near = length-take-le near piece short in
      let whole : scan seen piece ≡ Some n = ap (scan seen) (sym (take-append-drop near piece)) ∙ scan-goes seen (take near piece) (drop near piece) n found in
      let at : head_len (held ++ piece) ≡ Some (length held + n) = joined ∙ ap (plus_len (length held)) whole in (
        bounds.0,
        omega (arith, bounds.1, size, short),
        omega (arith, bounds.1, size, room),
        ap (sized limit (held ++ piece)) at ∙ sized-whole limit (held ++ piece) (length held + n) (omega (arith, bounds.1, size, room))
            ∙ ap (λ (front : List ℕ). Whole front (drop (length held + n) (held ++ piece))) (take-append-add held piece n) ∙ ap (Whole (held ++ take n piece)) (drop-append-add held piece n),
      )

  -- The piece doesn't end the head, which isn't too long.
  pub still_part : scan seen piece ≡ None → length held + length piece < limit → IsHeldHead limit (held ++ piece) (seen_after seen piece)
  unfolding front
  still_part found short = record {
    part = ap (sized limit (held ++ piece)) (joined ∙ ap (plus_len (length held)) found) ∙ sized-part limit (held ++ piece) (omega (arith, length-append held piece, short));
    mark = ap (λ (s : Seen). seen_after s piece) is.mark ∙ sym (seen_after-append Nothing held piece none);
  }

  -- The limit holds no end of a head.
  pub too_long : (near : ℕ) → scan seen (take near piece) ≡ None → length held + near ≡ limit → near ≤ length piece → front limit (held ++ piece) ≡ Long
  unfolding front
  too_long near found room short = by (head_len (held ++ piece)) refl
    where
      front_none : head_len (held ++ take near piece) ≡ None
      front_none = head_len-is (held ++ take near piece) ∙ scan-later Nothing held (take near piece) none ∙ ap (λ (s : Seen). plus_len (length held) (scan s (take near piece))) (sym is.mark) ∙ ap (plus_len (length held)) found

      apart : held ++ piece ≡ (held ++ take near piece) ++ drop near piece
      apart = ap (λ (xs : List ℕ). held ++ xs) (sym (take-append-drop near piece)) ∙ sym (append_assoc held (take near piece) (drop near piece))

      size : length (held ++ take near piece) ≡ limit
      size = length-append held (take near piece) ∙ ap (λ (n : ℕ). length held + n) (length-take-le near piece short) ∙ room

      by : (o : Option ℕ) → head_len (held ++ piece) ≡ o → sized limit (held ++ piece) o ≡ Long
      by None at = sized-long limit (held ++ piece) (omega (arith, length-append held piece, room, short))
      by (Some n) at =
          let later = head_len-later (held ++ take near piece) (drop near piece) n (ap head_len (sym apart) ∙ at) front_none in
          sized-over limit (held ++ piece) n (omega (arith, later, size))
