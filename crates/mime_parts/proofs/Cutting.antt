-- The law that the parts of a body, with their delimiter lines, are the body.
use Rattle.std.proofs.Common.{◌≡◌, ◌⊎◌, inl, inr, ℕ, ◌+◌, ◌-◌, ◌≤◌, Bool, true, false, eqb, max, List, [], ◌∷◌, ◌++◌, length, take, drop, refl, sym, ap, ◌∙◌, subst, append_assoc, arith, length-append}
use Rattle.std.specs.List.{concat, onto_first, slice_range}
use Rattle.std.proofs.lemmas.Bool.{eqb-true}
use Rattle.std.proofs.lemmas.List.{take-append-le, take-append-drop, length-take-le}
use Rattle.std.proofs.lemmas.List.Elements.{All-nil}
use Rattle.std.proofs.lemmas.List.Folds.{drop_split}
use Rattle.std.proofs.Math.Seq.{take-length, drop-append_seam}
use Rattle.mail_reader.specs.Lines.{lines_of}
use Rattle.mail_reader.proofs.LineEnds.{concat-lines_of}
use Rattle.mime_parts.specs.declared.delimiters.LineKind.{LineKind}
use Rattle.mime_parts.specs.declared.delimiters.LineKind.TheVariants.{Plain, Delimiter, Closing}
use Rattle.mime_parts.specs.Delimiters.{kind_of, Cuts, cuts_by, cuts_from}
use Rattle.mime_parts.specs.Trees.{bytes_at}
use Rattle.mime_parts.specs.Laws.{HasNoDelimiter, AreCut, BodiesAreDivided}
use Rattle.mime_parts.proofs.Spanning.{length-bytes_at}
use Rattle.mime_parts.proofs.Feeding.{EndsFed, AllLines, all_lines, plain_push, plain_unfed}

-- The middle of three pieces.
slice_mid : (a b c : List ℕ) → slice_range (a ++ (b ++ c)) (length a) (length a + length b) ≡ b
slice_mid a b c =
    let len : (length a + length b) - length a ≡ length b = omega arith in
    ap (λ n. take n (drop (length a) (a ++ (b ++ c)))) len ∙ ap (take (length b)) (drop-append_seam a (b ++ c))
    ∙ take-append-le (length b) b c (omega arith) ∙ take-length b

-- No bytes.
slice_none : (text : List ℕ) (n : ℕ) → slice_range text n n ≡ []
slice_none text n = let none : n - n ≡ 0 = omega arith in ap (λ k. take k (drop n text)) none

-- Each line but the last ends with a line feed.
abbrev AllEnded : List (List ℕ) → Type 0
AllEnded [] = Unit {0}
AllEnded (l ∷ []) = Unit {0}
AllEnded (l ∷ m ∷ ls) = EndsFed l × AllEnded (m ∷ ls)

ended_onto : (b : ℕ) (ls : List (List ℕ)) → AllEnded ls → AllEnded (onto_first b ls)
ended_onto b [] e = tt
ended_onto b (l ∷ []) e = tt
ended_onto b (l ∷ m ∷ ls) e = (record { before = b ∷ e.0.before; is = ap (λ xs. b ∷ xs) e.0.is }, e.1)

ended_feed : (ls : List (List ℕ)) → AllEnded ls → AllEnded ((10 ∷ []) ∷ ls)
ended_feed [] e = tt
ended_feed (l ∷ ls) e = (record { before = []; is = refl }, e)

all_ended : (bytes : List ℕ) → AllEnded (lines_of bytes)
all_ended [] = tt
all_ended (b ∷ bs) = step (eqb b 10) refl (all_ended bs)
  where
    step : (t : Bool) → eqb b 10 ≡ t → AllEnded (lines_of bs) → AllEnded (lines_of (b ∷ bs))
    step true e i = rw (eqb-true b 10 e) (ended_feed (lines_of bs) i)
    step false e i = rw e (ended_onto b (lines_of bs) i)

-- What stood before the lines and goes on with them, and the parts that start among them.
record Cut (boundary text : List ℕ) (offset end : ℕ) (c : Cuts) : Type 0 where
  ordered : offset ≤ max offset c.stop
  within : max offset c.stop ≤ end
  plain : HasNoDelimiter boundary (slice_range text offset (max offset c.stop))
  parts : AreCut boundary text (max offset c.stop) end c.parts

-- A line, with the line feed before it where it isn't at the offset, and what stands before both.
record Led (boundary text line : List ℕ) (offset at next : ℕ) : Type 0 where
  lead : List ℕ
  feed : (lead ≡ []) ⊎ (lead ≡ 10 ∷ [])
  joined : slice_range text (max offset (at - 1)) next ≡ lead ++ line
  plain : HasNoDelimiter boundary (slice_range text offset (max offset (at - 1)))

cut_step : (k : LineKind) (boundary text line : List ℕ) (offset at next end : ℕ) (later : Cuts) → kind_of boundary line ≡ k
    → offset ≤ at → at ≤ next → next ≤ end → Led boundary text line offset at next
    → (kind_of boundary line ≡ Plain → Cut boundary text offset end later) → Cut boundary text next end later
    → Cut boundary text offset end (cuts_by k at next later)
cut_step Plain boundary text line offset at next end later e h i j led before after = before e
cut_step Delimiter boundary text line offset at next end later e h i j led before after = record {
  ordered = omega arith;
  within = omega arith;
  plain = led.plain;
  parts = (omega arith, (record { lead = led.lead; line = line; joined = led.joined; is = e; feed = led.feed }, (after.ordered, (after.plain, after.parts))));
}
cut_step Closing boundary text line offset at next end later e h i j led before after = record {
  ordered = omega arith;
  within = omega arith;
  plain = led.plain;
  parts = inr (record {
    close = next;
    ordered = omega arith;
    within = j;
    gap = record { lead = led.lead; line = line; joined = led.joined; is = e; feed = led.feed };
  });
}

-- Nothing, or bytes that end with a line feed where lines follow them.
abbrev FedIf : List (List ℕ) → List ℕ → Type 0
FedIf [] mid = Unit {0}
FedIf (l ∷ ls) mid = (mid ≡ []) ⊎ EndsFed mid

fed_more : (line : List ℕ) (lines : List (List ℕ)) (mid : List ℕ) → AllEnded (line ∷ lines) → FedIf lines (mid ++ line)
fed_more line [] mid e = tt
fed_more line (m ∷ ls) mid e =
    inr (record { before = mid ++ e.0.before; is = ap (λ xs. mid ++ xs) e.0.is ∙ sym (append_assoc mid e.0.before (10 ∷ [])) })

fed_none : (lines : List (List ℕ)) → FedIf lines []
fed_none [] = tt
fed_none (l ∷ ls) = inl refl

ended_rest : (line : List ℕ) (lines : List (List ℕ)) → AllEnded (line ∷ lines) → AllEnded lines
ended_rest line [] e = tt
ended_rest line (m ∷ ls) e = e.1

led : (boundary text pre mid line rest : List ℕ) → text ≡ pre ++ (mid ++ (line ++ rest)) → (mid ≡ []) ⊎ EndsFed mid → HasNoDelimiter boundary mid
    → Led boundary text line (length pre) (length pre + length mid) ((length pre + length mid) + length line)
led boundary text pre mid line rest e (inl none) p =
    let empty : length mid ≡ 0 = ap length none in
    let from : max (length pre) ((length pre + length mid) - 1) ≡ length pre = omega arith in
    let to : (length pre + length mid) + length line ≡ length pre + length line = omega arith in
    let split : text ≡ pre ++ (line ++ rest) = e ∙ ap (λ xs. pre ++ (xs ++ (line ++ rest))) none in
    let nothing : slice_range text (length pre) (max (length pre) ((length pre + length mid) - 1)) ≡ [] =
    ap (slice_range text (length pre)) from ∙ slice_none text (length pre) in
    record {
      lead = [];
      feed = inl refl;
      joined =
          ap (λ n. slice_range text n ((length pre + length mid) + length line)) from
          ∙ ap (slice_range text (length pre)) to
          ∙ ap (λ xs. slice_range xs (length pre) (length pre + length line)) split
          ∙ slice_mid pre line rest;
      plain = subst (HasNoDelimiter boundary) (sym nothing) (All-nil _);
    }
led boundary text pre mid line rest e (inr f) p =
    let size : length mid ≡ length f.before + 1 = ap length f.is ∙ length-append f.before (10 ∷ []) in
    let front : length (pre ++ f.before) ≡ length pre + length f.before = length-append pre f.before in
    let from : max (length pre) ((length pre + length mid) - 1) ≡ length (pre ++ f.before) = omega arith in
    let to : (length pre + length mid) + length line ≡ length (pre ++ f.before) + length (10 ∷ line) = omega arith in
    let split : text ≡ pre ++ (f.before ++ ((10 ∷ line) ++ rest)) =
    e ∙ ap (λ xs. pre ++ (xs ++ (line ++ rest))) f.is ∙ ap (λ xs. pre ++ xs) (append_assoc f.before (10 ∷ []) (line ++ rest)) in
    let joined : text ≡ (pre ++ f.before) ++ ((10 ∷ line) ++ rest) = split ∙ sym (append_assoc pre f.before ((10 ∷ line) ++ rest)) in
    let some : slice_range text (length pre) (max (length pre) ((length pre + length mid) - 1)) ≡ f.before =
    ap (slice_range text (length pre)) (from ∙ front) ∙ ap (λ xs. slice_range xs (length pre) (length pre + length f.before)) split
    ∙ slice_mid pre f.before ((10 ∷ line) ++ rest) in
    record {
      lead = 10 ∷ [];
      feed = inr refl;
      joined =
          ap (λ n. slice_range text n ((length pre + length mid) + length line)) from
          ∙ ap (slice_range text (length (pre ++ f.before))) to
          ∙ ap (λ xs. slice_range xs (length (pre ++ f.before)) (length (pre ++ f.before) + length (10 ∷ line))) joined
          ∙ slice_mid (pre ++ f.before) (10 ∷ line) rest;
      plain = subst (HasNoDelimiter boundary) (sym some) (plain_unfed boundary f.before (subst (HasNoDelimiter boundary) f.is p));
    }

cut_lines : (boundary text pre mid : List ℕ) (lines : List (List ℕ)) (after : List ℕ) (offset at : ℕ) → offset ≡ length pre → at ≡ length pre + length mid
    → text ≡ pre ++ (mid ++ (concat lines ++ after)) → FedIf lines mid → AllEnded lines → AllLines lines → HasNoDelimiter boundary mid
    → Cut boundary text offset (at + length (concat lines)) (cuts_from boundary at lines)
cut_lines boundary text pre mid [] after offset at b a e fed ended are p =
    let whole : max offset at ≡ length pre + length mid = omega arith in
    let bytes : slice_range text offset (max offset at) ≡ mid =
    ap (λ n. slice_range text n (max offset at)) b ∙ ap (slice_range text (length pre)) whole
    ∙ ap (λ xs. slice_range xs (length pre) (length pre + length mid)) e ∙ slice_mid pre mid after in
    record {
      ordered = omega arith;
      within = omega arith;
      plain = subst (HasNoDelimiter boundary) (sym bytes) p;
      parts = inl (omega arith);
    }
cut_lines boundary text pre mid (line ∷ lines) after offset at b a e fed ended are p =
    let next = at + length line in
    let rest = concat lines ++ after in
    let split : text ≡ pre ++ (mid ++ (line ++ rest)) = e ∙ ap (λ xs. pre ++ (mid ++ xs)) (append_assoc line (concat lines) after) in
    let longer : text ≡ pre ++ ((mid ++ line) ++ rest) = split ∙ ap (λ xs. pre ++ xs) (sym (append_assoc mid line rest)) in
    let anew : text ≡ (pre ++ (mid ++ line)) ++ ([] ++ rest) = longer ∙ sym (append_assoc pre (mid ++ line) rest) in
    let total : next + length (concat lines) ≡ at + length (concat (line ∷ lines)) = omega (arith, length-append line (concat lines)) in
    let size : length (mid ++ line) ≡ length mid + length line = length-append mid line in
    let all : length (pre ++ (mid ++ line)) ≡ length pre + length (mid ++ line) = length-append pre (mid ++ line) in
    let end = at + length (concat (line ∷ lines)) in
    let goes = λ (k : kind_of boundary line ≡ Plain).
    subst (λ (n : ℕ). Cut boundary text offset n (cuts_from boundary next lines)) total
    (cut_lines boundary text pre (mid ++ line) lines after offset next b (omega arith) longer
    (fed_more line lines mid ended) (ended_rest line lines ended) are.1 (plain_push boundary mid line fed are.0 k p)) in
    let starts =
    subst (λ (n : ℕ). Cut boundary text next n (cuts_from boundary next lines)) total
    (cut_lines boundary text (pre ++ (mid ++ line)) [] lines after next next (omega arith) (omega arith) anew
    (fed_none lines) (ended_rest line lines ended) are.1 (All-nil _)) in
    let here : Led boundary text line offset at next =
    subst (λ (n : ℕ). Led boundary text line n at next) (sym b)
    (subst (λ (n : ℕ). Led boundary text line (length pre) n (n + length line)) (sym a)
    (led boundary text pre mid line rest split fed p)) in
    cut_step (kind_of boundary line) boundary text line offset at next end (cuts_from boundary next lines) refl
    (omega arith) (omega arith) (omega (arith, length-append line (concat lines))) here goes starts

pub divides : BodiesAreDivided
divides boundary text body i =
    let lines = lines_of (bytes_at text body) in
    let all : concat lines ≡ bytes_at text body = concat-lines_of (bytes_at text body) in
    let len = length-bytes_at text body i in
    let ordered = i.ordered in
    let within = i.within in
    let pre = take body.start text in
    let at : body.start ≡ length pre = sym (length-take-le body.start text (omega arith)) in
    let split : text ≡ pre ++ (concat lines ++ drop body.end text) =
    sym (take-append-drop body.start text)
    ∙ ap (λ xs. pre ++ xs) (drop_split text body.start body.end ordered ∙ ap (λ xs. xs ++ drop body.end text) (sym all)) in
    let total : body.start + length (concat lines) ≡ body.end = omega (arith, ap length all) in
    let c = subst (λ (n : ℕ). Cut boundary text body.start n (cuts_from boundary body.start lines)) total
    (cut_lines boundary text pre [] lines (drop body.end text) body.start body.start at (omega arith) split
    (fed_none lines) (all_ended (bytes_at text body)) (all_lines (bytes_at text body)) (All-nil _)) in
    record {
      from = max body.start (cuts_from boundary body.start lines).stop;
      ordered = c.ordered;
      within = c.within;
      before = c.plain;
      parts = c.parts;
    }
