-- What is kept of bytes goes on as all the bytes would.
use Rattle.std.proofs.Common.{◌≡◌, ◌≤◌, ℕ, zero, suc, List, [], ◌∷◌, ◌++◌, ◌+◌, ◌-◌, min, length, take, eqb, Bool, true, false, None, refl, sym, ap, ◌∙◌, append-nil, arith}
use Rattle.std.proofs.lemmas.Bool.{ne_eqb}
use Rattle.std.proofs.lemmas.List.{length-take-le, get_or-take, take_min}
use Rattle.std.proofs.lemmas.Slice.{take-put_mid}
use Rattle.std.proofs.Math.Seq.{take-append-add}
use borrow.Rule.Slice.PartMut.{put_mid}
use Rattle.line_door.specs.Clipped.{clipped_from, clipped, ClippedLaw}
use Rattle.line_door.specs.LineLaws.{NoFeed}
use Rattle.line_door.specs.Lines.{first_line}
use Rattle.line_door.specs.Skipping.{SkippedLine, Taken, Skipped, Unended, passed, skipping_front, is_ended, held_of}
use Rattle.line_door.proofs.Fronts.{first_line-joined, first_line-single, first_line-append, first_line-none, first_line-no_feed}
use Rattle.line_door.proofs.Passages.{passed-none, passed-skipped, passed-long, passing-held, taken-from, taken-is_line, line_found}

-- A line feed is kept, and a new line begins.
feed-first : (limit room b : ℕ) (bs : List ℕ) → eqb b 10 ≡ true → clipped_from limit room (b ∷ bs) ≡ b ∷ clipped_from limit limit bs
feed-first limit zero b bs e = rw e refl
feed-first limit (suc room) b bs e = rw e refl

-- Another byte is kept if there is room.
kept-first : (limit room b : ℕ) (bs : List ℕ) → eqb b 10 ≡ false → clipped_from limit (suc room) (b ∷ bs) ≡ b ∷ clipped_from limit room bs
kept-first limit room b bs e = rw e refl

cut-first : (limit b : ℕ) (bs : List ℕ) → eqb b 10 ≡ false → clipped_from limit zero (b ∷ bs) ≡ clipped_from limit zero bs
cut-first limit b bs e = rw e refl

again-at : (limit room b : ℕ) (bs ys : List ℕ) (t : Bool) → eqb b 10 ≡ t → ((n : ℕ) → clipped_from limit n (clipped_from limit n bs ++ ys) ≡ clipped_from limit n (bs ++ ys))
    → clipped_from limit room (clipped_from limit room (b ∷ bs) ++ ys) ≡ clipped_from limit room (b ∷ (bs ++ ys))
again-at limit room b bs ys true e more =
    ap (λ (x : List ℕ). clipped_from limit room (x ++ ys)) (feed-first limit room b bs e)
    ∙ feed-first limit room b (clipped_from limit limit bs ++ ys) e
    ∙ ap (λ (x : List ℕ). b ∷ x) (more limit)
    ∙ sym (feed-first limit room b (bs ++ ys) e)
again-at limit zero b bs ys false e more =
    ap (λ (x : List ℕ). clipped_from limit zero (x ++ ys)) (cut-first limit b bs e) ∙ more zero ∙ sym (cut-first limit b (bs ++ ys) e)
again-at limit (suc room) b bs ys false e more =
    ap (λ (x : List ℕ). clipped_from limit (suc room) (x ++ ys)) (kept-first limit room b bs e)
    ∙ kept-first limit room b (clipped_from limit room bs ++ ys) e
    ∙ ap (λ (x : List ℕ). b ∷ x) (more room)
    ∙ sym (kept-first limit room b (bs ++ ys) e)

again : (limit room : ℕ) (xs ys : List ℕ) → clipped_from limit room (clipped_from limit room xs ++ ys) ≡ clipped_from limit room (xs ++ ys)
again limit zero [] ys = refl
again limit (suc room) [] ys = refl
again limit room (b ∷ bs) ys = again-at limit room b bs ys (eqb b 10) refl (λ n. again limit n bs ys)

-- What is kept of one piece and then of another is what is kept of both joined.
pub clipped-again : (limit : ℕ) (xs ys : List ℕ) → clipped limit (clipped limit xs ++ ys) ≡ clipped limit (xs ++ ys)
unfolding clipped
clipped-again limit xs ys = again limit limit xs ys

-- No byte of the tail is a line feed either.
tail-no_feed : (b : ℕ) (bs : List ℕ) → NoFeed (b ∷ bs) → NoFeed bs
tail-no_feed b bs none = λ k within. none (suc k) (omega (arith, within))

head-no_feed : (b : ℕ) (bs : List ℕ) → NoFeed (b ∷ bs) → eqb b 10 ≡ false
head-no_feed b bs none = ne_eqb b 10 (none 0 (omega arith))

-- A line for which there is room is kept whole.
kept-line : (limit room : ℕ) (line rest : List ℕ) → NoFeed line → length line ≤ room → clipped_from limit room (line ++ 10 ∷ rest) ≡ line ++ 10 ∷ clipped_from limit limit rest
kept-line limit room [] rest none fits = feed-first limit room 10 rest refl
kept-line limit zero (b ∷ bs) rest none fits = absurd (omega (arith, fits))
kept-line limit (suc room) (b ∷ bs) rest none fits =
    kept-first limit room b (bs ++ 10 ∷ rest) (head-no_feed b bs none) ∙ ap (λ (x : List ℕ). b ∷ x) (kept-line limit room bs rest (tail-no_feed b bs none) (omega (arith, fits)))

-- Of a longer one, the first octets are.
cut-line : (limit room : ℕ) (line rest : List ℕ) → NoFeed line → room ≤ length line → clipped_from limit room (line ++ 10 ∷ rest) ≡ take room line ++ 10 ∷ clipped_from limit limit rest
cut-line limit zero [] rest none long = feed-first limit zero 10 rest refl
cut-line limit (suc room) [] rest none long = absurd (omega (arith, long))
cut-line limit zero (b ∷ bs) rest none long = cut-first limit b (bs ++ 10 ∷ rest) (head-no_feed b bs none) ∙ cut-line limit zero bs rest (tail-no_feed b bs none) (omega arith) ∙ refl
cut-line limit (suc room) (b ∷ bs) rest none long =
    kept-first limit room b (bs ++ 10 ∷ rest) (head-no_feed b bs none) ∙ ap (λ (x : List ℕ). b ∷ x) (cut-line limit room bs rest (tail-no_feed b bs none) (omega (arith, long)))

-- Of a part of a line, the first octets are.
cut-part : (limit room : ℕ) (xs : List ℕ) → NoFeed xs → clipped_from limit room xs ≡ take room xs
cut-part limit zero [] none = refl
cut-part limit (suc room) [] none = refl
cut-part limit zero (b ∷ bs) none = cut-first limit b bs (head-no_feed b bs none) ∙ cut-part limit zero bs (tail-no_feed b bs none) ∙ refl
cut-part limit (suc room) (b ∷ bs) none = kept-first limit room b bs (head-no_feed b bs none) ∙ ap (λ (x : List ℕ). b ∷ x) (cut-part limit room bs (tail-no_feed b bs none))

-- A whole line stays one, and the rest is what is kept of the rest.
pub clipped-taken : (limit : ℕ) (bytes line rest : List ℕ) → skipping_front limit bytes ≡ Taken line rest → skipping_front limit (clipped limit bytes) ≡ Taken line (clipped limit rest)
unfolding clipped
clipped-taken limit bytes line rest e =
    let is = taken-is_line limit bytes line rest e in
    let kept : clipped_from limit limit bytes ≡ line ++ 10 ∷ clipped_from limit limit rest = ap (clipped_from limit limit) is.joined ∙ kept-line limit limit line rest is.single (omega (arith, is.short)) in
    taken-from limit (clipped_from limit limit bytes) line (clipped_from limit limit rest) (record { joined = kept; single = is.single; short = is.short })

-- The first octets of a line have no line feed.
take-no_feed : (n : ℕ) (line : List ℕ) → NoFeed line → n ≤ length line → first_line (take n line) ≡ None
take-no_feed n line none long =
    let len : length (take n line) ≡ n = length-take-le n line long in
    first_line-none (take n line) (λ k below ten. none k (omega (arith, len, below, long)) (sym (get_or-take n line k 0 (omega (arith, len, below))) ∙ ten))

-- A line that is too long stays so.
pub clipped-skipped : (limit : ℕ) (bytes rest : List ℕ) → skipping_front limit bytes ≡ Skipped rest → skipping_front limit (clipped limit bytes) ≡ Skipped (clipped limit rest)
unfolding clipped
clipped-skipped limit bytes rest e =
    let parts = passed-skipped limit (first_line bytes) rest e in
    let line : List ℕ = parts.0 in
    let none : NoFeed line = first_line-single bytes (line, rest) parts.1 in
    let cut : clipped_from limit limit bytes ≡ take limit line ++ 10 ∷ clipped_from limit limit rest = ap (clipped_from limit limit) (first_line-joined bytes (line, rest) parts.1) ∙ cut-line limit limit line rest none parts.2 in
    let len : length (take limit line) ≡ limit = length-take-le limit line parts.2 in
    ap (skipping_front limit) cut
    ∙ ap (passed limit) (first_line-append (take limit line) (10 ∷ clipped_from limit limit rest) ([], clipped_from limit limit rest) (take-no_feed limit line none parts.2) refl ∙ ap (λ (x : List ℕ). line_found x (clipped_from limit limit rest)) (append-nil (take limit line)))
    ∙ passed-long limit (take limit line) (clipped_from limit limit rest) (omega (arith, len))

-- Of a part of a line, its first octets are kept.
pub clipped-part : (limit : ℕ) (bytes : List ℕ) → skipping_front limit bytes ≡ Unended → clipped limit bytes ≡ held_of limit bytes
unfolding clipped
clipped-part limit bytes e = cut-part limit limit bytes (first_line-no_feed bytes (passed-none limit (first_line bytes) e))

pub held-unended : (limit : ℕ) (bytes : List ℕ) → skipping_front limit bytes ≡ Unended → skipping_front limit (held_of limit bytes) ≡ Unended
held-unended limit bytes e =
    ap (skipping_front limit) (sym (append-nil (held_of limit bytes)))
    ∙ passing-held limit bytes [] (passed-none limit (first_line bytes) e)
    ∙ ap (skipping_front limit) (append-nil bytes)
    ∙ e

-- They are a part of a line.
pub clipped-unended : (limit : ℕ) (bytes : List ℕ) → skipping_front limit bytes ≡ Unended → skipping_front limit (clipped limit bytes) ≡ Unended
clipped-unended limit bytes e = ap (skipping_front limit) (clipped-part limit bytes e) ∙ held-unended limit bytes e

-- A line has ended in what is kept exactly where one has.
pub clipped-ended : (limit : ℕ) (bytes : List ℕ) → is_ended (skipping_front limit (clipped limit bytes)) ≡ is_ended (skipping_front limit bytes)
clipped-ended limit bytes = by (skipping_front limit bytes) refl
  where
    by : (f : SkippedLine) → skipping_front limit bytes ≡ f → is_ended (skipping_front limit (clipped limit bytes)) ≡ is_ended (skipping_front limit bytes)
    by (Taken line rest) e = ap is_ended (clipped-taken limit bytes line rest e) ∙ sym (ap is_ended e)
    by (Skipped rest) e = ap is_ended (clipped-skipped limit bytes rest e) ∙ sym (ap is_ended e)
    by Unended e = ap is_ended (clipped-unended limit bytes e) ∙ sym (ap is_ended e)

-- The front of more bytes, for which there is room, is held after those that are held.
held-appended : (limit n : ℕ) (held bytes front : List ℕ) → length held ≤ limit → n ≡ min (length bytes) (limit - length held) → front ≡ take n bytes → held ++ front ≡ held_of limit (held ++ bytes)
held-appended limit n held bytes front fits is part =
    let room : ℕ = limit - length held in
    let all : limit ≡ length held + room = omega (arith, fits) in
    let some : n ≡ min room (length bytes) = omega (arith, is) in
    ap (λ (x : List ℕ). held ++ x) (part ∙ ap (λ (k : ℕ). take k bytes) some ∙ take_min room bytes)
    ∙ sym (ap (λ (k : ℕ). take k (held ++ bytes)) all ∙ take-append-add held bytes room)

-- What the array of held bytes has at its front after such a write.
pub held-written : (limit n len k : ℕ) (array held bytes front new : List ℕ) → len ≤ limit → limit ≤ length array → held ≡ take len array → n ≡ min (length bytes) (limit - len) → front ≡ take n bytes → new ≡ front
    → take (len + length front) (put_mid len k array new) ≡ held_of limit (held ++ bytes)
held-written limit n len k array held bytes front new fits long is count part same =
    let size : length held ≡ len = ap length is ∙ length-take-le len array (omega (arith, fits, long)) in
    take-put_mid len k array new (len + length front) (omega (arith, ap length same)) (omega (arith, fits, long))
    ∙ ap (λ (x : List ℕ). x ++ new) (sym is)
    ∙ ap (λ (x : List ℕ). held ++ x) same
    ∙ held-appended limit n held bytes front (omega (arith, size, fits)) (count ∙ ap (λ (x : ℕ). min (length bytes) (limit - x)) (sym size)) part

pub clipped_laws : ClippedLaw
clipped_laws = record {
  taken = λ limit bytes line rest e. clipped-taken limit bytes line rest e;
  skipped = λ limit bytes rest e. clipped-skipped limit bytes rest e;
  part = λ limit bytes e. clipped-part limit bytes e;
  unended = λ limit bytes e. clipped-unended limit bytes e;
  again = λ limit bytes more. clipped-again limit bytes more;
}
