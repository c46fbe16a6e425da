-- The lengths of pieces of a mailbox file.
use Rattle.std.proofs.Common.{◌≡◌, ℕ, ◌+◌, ◌≤◌, suc, Bool, true, false, cond, eqb, List, [], ◌∷◌, ◌++◌, length, take, drop, refl, ap, ◌∙◌, arith, length-append}
use Rattle.std.specs.List.{flat_map, concat, count_by, onto_first}
use Rattle.std.proofs.lemmas.List.Sums.{sum_by-cons, count_by-le-length}
use Rattle.mail_reader.specs.Lines.{lines_of}
use Rattle.mail_reader.proofs.LineEnds.{concat-lines_of}
use Rattle.mail_forms.specs.Mailboxes.{is_from_line, quoted, separator, mbox_of}

length-quoted : (from : Bool) (line : List ℕ) → length (cond from (62 ∷ line) line) ≡ cond from 1 0 + length line
length-quoted true line = omega arith
length-quoted false line = omega arith

-- One more line that may be quoted.
count-line : (line : List ℕ) (lines : List (List ℕ)) → count_by is_from_line (line ∷ lines) ≡ cond (is_from_line line) 1 0 + count_by is_from_line lines
count-line line lines = sum_by-cons (λ l. cond (is_from_line l) 1 0) line lines

length-lines : (lines : List (List ℕ)) → length (flat_map quoted lines) ≡ length (concat lines) + count_by is_from_line lines
length-lines [] = refl
length-lines (line ∷ lines) =
    let here : length (quoted line) ≡ cond (is_from_line line) 1 0 + length line = length-quoted (is_from_line line) line in
    omega (arith, length-append (quoted line) (flat_map quoted lines), length-append line (concat lines), here, count-line line lines, length-lines lines)

-- The length of a piece: of its text, a mark for each line that is quoted, and 40 bytes around it.
pub length-mbox : (text : List ℕ) → length (mbox_of text) ≡ length text + count_by is_from_line (lines_of text) + 40
unfolding mbox_of
length-mbox text =
    let inner = length-lines (lines_of text) in
    let whole : length (concat (lines_of text)) ≡ length text = ap length (concat-lines_of text) in
    omega (arith, length-append separator (flat_map quoted (lines_of text) ++ 10 ∷ []), length-append (flat_map quoted (lines_of text)) (10 ∷ []), inner, whole)

-- There are no more lines than bytes.
short_first : (b : ℕ) (lines : List (List ℕ)) (n : ℕ) → length lines ≤ n → length (onto_first b lines) ≤ suc n
short_first b [] n h = omega arith
short_first b (l ∷ ls) n h = omega arith

lines-short : (text : List ℕ) → length (lines_of text) ≤ length text
lines-short [] = omega arith
lines-short (b ∷ bs) = step (eqb b 10) (lines-short bs)
  where
    step : (t : Bool) → length (lines_of bs) ≤ length bs → length (cond t ((b ∷ []) ∷ lines_of bs) (onto_first b (lines_of bs))) ≤ suc (length bs)
    step true h = omega arith
    step false h = short_first b (lines_of bs) (length bs) h

-- There are no more quoted lines than bytes.
pub few_quoted : (text : List ℕ) → count_by is_from_line (lines_of text) ≤ length text
few_quoted text = omega (arith, count_by-le-length is_from_line (lines_of text), lines-short text)

-- One line more was counted.
pub counted_more : (found n : ℕ) (text line rest after : List ℕ) (marks : ℕ) → line ≡ take n rest → after ≡ drop n rest → lines_of rest ≡ take n rest ∷ lines_of (drop n rest)
    → marks ≡ cond (is_from_line line) 1 0 → found + count_by is_from_line (lines_of rest) ≡ count_by is_from_line (lines_of text)
    → (found + marks) + count_by is_from_line (lines_of after) ≡ count_by is_from_line (lines_of text)
counted_more found n text line rest after marks l a e m h =
    let first : count_by is_from_line (lines_of rest) ≡ cond (is_from_line line) 1 0 + count_by is_from_line (lines_of after) =
    ap (count_by is_from_line) e ∙ count-line (take n rest) (lines_of (drop n rest)) ∙ rw (l, a) refl in
    omega (arith, first, m, h)
