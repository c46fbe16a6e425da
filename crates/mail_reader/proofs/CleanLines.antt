-- The lines of a storage form: each ends with a line feed and has no carriage return before it.
use Rattle.std.proofs.Common.{◌≡◌, ℕ, ◌+◌, ◌-◌, ◌<◌, ◌≤◌, zero, suc, Bool, true, false, cond, eqb, ◌&&◌, ◌||◌, List, [], ◌∷◌, ◌++◌, Option, None, Some, length, take, get_or, refl, sym, ap, ◌∙◌, ◌⊎◌, inl, inr, append_assoc, arith, length-take}
use Rattle.std.specs.List.{concat}
use Rattle.std.proofs.lemmas.Bool.{eqb-true, eq-eqb, both_ways, cases_order}
use Rattle.std.proofs.lemmas.List.{get_or_append_left, get_or-append_right, append-nil, nil_from_length}
use Rattle.mail_reader.specs.Lines.{lines_of, is_field_line, is_continuation, is_empty_line, after_front, after_header, after_empty}
use Rattle.mail_reader.specs.Stored.{all_of, content_of, clean_lines, is_mailbox_line, after_mailbox_line, body_lines}
use Rattle.mail_reader.specs.Keeping.{next_place}
use Rattle.mail_reader.specs.declared.storing.Place.{Place}
use Rattle.mail_reader.specs.declared.storing.Place.TheVariants.{Start, Kept, Dropped}
use Rattle.mail_reader.proofs.Trims.{NoFeed, NoByte-without_end, without_end-twice, without_end-push, front_and_last}
use Rattle.mail_reader.proofs.LineEnds.{lines_of-at, clean_lines-at, clean_lines-last, clean_lines-none}
use Rattle.mail_reader.proofs.KeptLines.{kept_at, kept_from}

-- A line that a storage form may have.
pub record CleanLine (line : List ℕ) : Type 0 where
  pub content : List ℕ
  pub is : line ≡ content ++ 10 ∷ []
  pub no_feed : NoFeed content
  pub no_return : content_of content ≡ content

-- Each line is clean.
abbrev pub AllClean : List (List ℕ) → Type 0
AllClean [] = Unit {0}
AllClean (l ∷ ls) = CleanLine l × AllClean ls

pub AllClean-append : (xs ys : List (List ℕ)) → AllClean xs → AllClean ys → AllClean (xs ++ ys)
AllClean-append [] ys h k = k
AllClean-append (x ∷ xs) ys h k = (h.0, AllClean-append xs ys h.1 k)

-- The empty line is clean.
pub clean_empty : CleanLine (10 ∷ [])
clean_empty = record { content = []; is = refl; no_feed = tt; no_return = refl }

clean_content : (xs : List ℕ) → NoFeed xs → CleanLine (content_of xs ++ 10 ∷ [])
clean_content xs h = record { content = content_of xs; is = refl; no_feed = NoByte-without_end 10 13 xs h; no_return = without_end-twice 13 xs }

-- The bytes before the first line feed and after it.
record SplitsAt (xs : List ℕ) : Type 0 where
  before : List ℕ
  after : List ℕ
  free : NoFeed before
  is : xs ≡ before ++ 10 ∷ after
  shorter : length after < length xs

split_at_feed : (xs : List ℕ) → NoFeed xs ⊎ SplitsAt xs
split_at_feed [] = inl tt
split_at_feed (x ∷ xs) = step (eqb x 10) x refl (split_at_feed xs)
  where
    step : (t : Bool) (x : ℕ) → eqb x 10 ≡ t → NoFeed xs ⊎ SplitsAt xs → NoFeed (x ∷ xs) ⊎ SplitsAt (x ∷ xs)
    step true x e h = inr record { before = []; after = xs; free = tt; is = ap (λ b. b ∷ xs) (eqb-true x 10 e); shorter = omega arith }
    step false x e (inl h) = inl (e, h)
    step false x e (inr s) = inr record { before = x ∷ s.before; after = s.after; free = (e, s.free); is = ap (λ t. x ∷ t) s.is; shorter = omega (arith, s.shorter) }

-- The lines of a message are clean.
all_clean : (n : ℕ) (bytes : List ℕ) → length bytes ≤ n → AllClean (clean_lines bytes)
all_clean zero bytes h =
    let nil : bytes ≡ [] = nil_from_length bytes (omega arith) in
    rw (nil, clean_lines-none) tt
all_clean (suc n) bytes h = step bytes h (all_clean n) (split_at_feed bytes)
  where
    last : (xs : List ℕ) → NoFeed xs → AllClean (clean_lines xs)
    last [] free = rw clean_lines-none tt
    last (x ∷ xs) free = rw (clean_lines-last (x ∷ xs) free (omega arith)) (clean_content (x ∷ xs) free, tt)

    step : (bytes : List ℕ) → length bytes ≤ suc n → ((later : List ℕ) → length later ≤ n → AllClean (clean_lines later)) → NoFeed bytes ⊎ SplitsAt bytes → AllClean (clean_lines bytes)
    step bytes h ih (inl free) = last bytes free
    step bytes h ih (inr s) =
        let lines : clean_lines bytes ≡ (content_of s.before ++ 10 ∷ []) ∷ clean_lines s.after = ap clean_lines s.is ∙ clean_lines-at s.before s.after s.free in
        rw lines (clean_content s.before s.free, ih s.after (omega (arith, s.shorter)))

pub AllClean-lines : (bytes : List ℕ) → AllClean (clean_lines bytes)
AllClean-lines bytes = all_clean (length bytes) bytes (omega arith)

-- Clean lines that are joined have the same lines again.
pub clean_lines-concat : (ls : List (List ℕ)) → AllClean ls → clean_lines (concat ls) ≡ ls
clean_lines-concat [] h = clean_lines-none
clean_lines-concat (l ∷ ls) h =
    ap clean_lines (ap (λ t. t ++ concat ls) h.0.is ∙ append_assoc h.0.content (10 ∷ []) (concat ls))
    ∙ clean_lines-at h.0.content (concat ls) h.0.no_feed ∙ rw (h.0.no_return, clean_lines-concat ls h.1) (ap (λ t. t ∷ ls) (sym h.0.is))

pub lines_of-concat : (ls : List (List ℕ)) → AllClean ls → lines_of (concat ls) ≡ ls
lines_of-concat [] h = refl
lines_of-concat (l ∷ ls) h =
    ap lines_of (ap (λ t. t ++ concat ls) h.0.is ∙ append_assoc h.0.content (10 ∷ []) (concat ls))
    ∙ lines_of-at h.0.content (concat ls) h.0.no_feed ∙ rw (lines_of-concat ls h.1) (ap (λ t. t ∷ ls) (sym h.0.is))

-- The lines that are kept of clean lines are clean.
pub AllClean-kept : (place : Place) (ls : List (List ℕ)) → AllClean ls → AllClean (kept_from place ls)
AllClean-kept place [] h = tt
AllClean-kept place (l ∷ ls) h = step (next_place place l) l (λ next. kept_from next ls) h.0 (λ next. AllClean-kept next ls h.1)
  where
    step : (o : Option Place) (l : List ℕ) (later : Place → List (List ℕ)) → CleanLine l → ((next : Place) → AllClean (later next)) → AllClean (kept_at o l later)
    step None l later h k = tt
    step (Some Start) l later h k = k Start
    step (Some Kept) l later h k = (h, k Kept)
    step (Some Dropped) l later h k = k Dropped

AllClean-cond : (t : Bool) (xs ys : List (List ℕ)) → AllClean xs → AllClean ys → AllClean (cond t xs ys)
AllClean-cond true xs ys h k = h
AllClean-cond false xs ys h k = k

AllClean-after_front : (ls : List (List ℕ)) → AllClean ls → AllClean (after_front ls)
AllClean-after_front [] h = tt
AllClean-after_front (l ∷ ls) h = AllClean-cond (is_field_line l || is_continuation l) (after_front ls) (l ∷ ls) (AllClean-after_front ls h.1) h

AllClean-after_header : (ls : List (List ℕ)) → AllClean ls → AllClean (after_header ls)
AllClean-after_header [] h = tt
AllClean-after_header (l ∷ ls) h = AllClean-cond (is_field_line l) (after_front ls) (l ∷ ls) (AllClean-after_front ls h.1) h

AllClean-after_empty : (ls : List (List ℕ)) → AllClean ls → AllClean (after_empty ls)
AllClean-after_empty [] h = tt
AllClean-after_empty (l ∷ ls) h = AllClean-cond (is_empty_line l) ls (l ∷ ls) h.1 h

pub AllClean-body : (ls : List (List ℕ)) → AllClean ls → AllClean (body_lines ls)
AllClean-body ls h = AllClean-after_empty (after_header ls) (AllClean-after_header ls h)

pub AllClean-after_mailbox : (ls : List (List ℕ)) → AllClean ls → AllClean (after_mailbox_line ls)
AllClean-after_mailbox [] h = tt
AllClean-after_mailbox (l ∷ ls) h = AllClean-cond (is_mailbox_line l) ls (l ∷ ls) h.1 h

-- Clean lines end with a line feed.
pub ended-clean : (l : List ℕ) (ls : List (List ℕ)) → AllClean (l ∷ ls) → (front : List ℕ) × (concat (l ∷ ls) ≡ front ++ 10 ∷ [])
ended-clean l [] h = (h.0.content, append-nil l ∙ h.0.is)
ended-clean l (m ∷ ls) h =
    let later = ended-clean m ls h.1 in
    (l ++ later.0, ap (λ t. l ++ t) later.1 ∙ sym (append_assoc l later.0 (10 ∷ [])))

-- The content of a line has no line feed.
pub no_feed_at : (xs : List ℕ) (k : ℕ) → NoFeed xs → get_or xs k 0 ≡ 10 → ⊥
no_feed_at [] k h e = absurd (omega arith)
no_feed_at (x ∷ xs) zero h e = both_ways (eqb x 10) h.0 (eq-eqb x 10 e)
no_feed_at (x ∷ xs) (suc k) h e = no_feed_at xs k h.1 e

-- It has no carriage return at its end.
no_return_last : (xs : List ℕ) (k : ℕ) → k + 1 ≡ length xs → content_of xs ≡ xs → get_or xs k 0 ≡ 13 → ⊥
no_return_last xs k l e last =
    let place : length xs - 1 ≡ k = omega arith in
    let at : get_or xs (length xs - 1) 0 ≡ 13 = ap (λ i. get_or xs i 0) place ∙ last in
    let split : xs ≡ take (length xs - 1) xs ++ 13 ∷ [] = front_and_last xs (omega arith) ∙ ap (λ b. take (length xs - 1) xs ++ b ∷ []) at in
    let same : content_of xs ≡ content_of (take (length xs - 1) xs) = ap content_of split ∙ without_end-push 13 (take (length xs - 1) xs) in
    absurd (omega (arith, ap length (sym e ∙ same), length-content (take (length xs - 1) xs), length-take (length xs - 1) xs))
  where
    length-content : (ys : List ℕ) → length (content_of ys) ≤ length ys
    length-content [] = omega arith
    length-content (y ∷ ys) = step (eqb y 13 && all_of 13 ys) y (content_of ys) (length ys) (length-content ys)
      where
        step : (t : Bool) (y : ℕ) (w : List ℕ) (n : ℕ) → length w ≤ n → length (cond t [] (y ∷ w)) ≤ suc n
        step true y w n h = omega arith
        step false y w n h = omega arith

-- Clean lines have no carriage return directly before a line feed.
pub no_returns-clean : (ls : List (List ℕ)) → AllClean ls → (k : ℕ) → get_or (concat ls) k 0 ≡ 13 → get_or (concat ls) (k + 1) 0 ≡ 10 → ⊥
no_returns-clean [] h k r f = absurd (omega arith)
no_returns-clean (l ∷ ls) h k r f =
    let content = h.0.content in
    let is : concat (l ∷ ls) ≡ content ++ (10 ∷ concat ls) = ap (λ t. t ++ concat ls) h.0.is ∙ append_assoc content (10 ∷ []) (concat ls) in
    let r' : get_or (content ++ (10 ∷ concat ls)) k 0 ≡ 13 = ap (λ t. get_or t k 0) (sym is) ∙ r in
    let f' : get_or (content ++ (10 ∷ concat ls)) (k + 1) 0 ≡ 10 = ap (λ t. get_or t (k + 1) 0) (sym is) ∙ f in
    by_place content (concat ls) k h.0.no_feed h.0.no_return r' f' (no_returns-clean ls h.1)
  where
    by_place : (content rest : List ℕ) (k : ℕ) → NoFeed content → content_of content ≡ content → get_or (content ++ (10 ∷ rest)) k 0 ≡ 13
        → get_or (content ++ (10 ∷ rest)) (k + 1) 0 ≡ 10 → ((j : ℕ) → get_or rest j 0 ≡ 13 → get_or rest (j + 1) 0 ≡ 10 → ⊥) → ⊥
    by_place content rest k free same r f later = elim (cases_order (k + 1) (length content)) [
      | inl last ↦ no_return_last content k last same (sym (get_or_append_left content (10 ∷ rest) 0 k (omega arith)) ∙ r)
      | inr (inl within) ↦ no_feed_at content (k + 1) free (sym (get_or_append_left content (10 ∷ rest) 0 (k + 1) within) ∙ f)
      | inr (inr past) ↦ by_rest (k - length content) (sym (get_or-append_right content (10 ∷ rest) (length content) k 0 refl (omega arith)) ∙ r)
          (let same : k - length content + 1 ≡ k + 1 - length content = omega arith in
          ap (λ i. get_or (10 ∷ rest) i 0) same ∙ sym (get_or-append_right content (10 ∷ rest) (length content) (k + 1) 0 refl (omega arith)) ∙ f)
    ]
      where
        by_rest : (i : ℕ) → get_or (10 ∷ rest) i 0 ≡ 13 → get_or (10 ∷ rest) (i + 1) 0 ≡ 10 → ⊥
        by_rest zero r f = absurd (omega arith)
        by_rest (suc i) r f = let same : suc (i + 1) ≡ suc i + 1 = omega arith in later i r (ap (λ j. get_or (10 ∷ rest) j 0) same ∙ f)
