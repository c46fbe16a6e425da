-- The body, and the form, by the bytes after the header.
use Rattle.std.proofs.Common.{◌≡◌, ℕ, ◌<◌, Bool, true, false, cond, eqb, List, [], ◌∷◌, ◌++◌, length, drop, get_or, None, Some, refl, ap, ◌∙◌, arith, length-append}
use Rattle.std.specs.List.{concat, filter, onto_first}
use Rattle.std.proofs.lemmas.Bool.{eqb-true, false_from_ne_true, eq-eqb}
use Rattle.mail_reader.specs.Lines.{lines_of, is_field_line, header_lines, after_empty}
use Rattle.mail_reader.specs.Fields.{parts_of}
use Rattle.mail_reader.specs.Stored.{clean_lines, after_mailbox_line, kept_fields, body_lines, form_of, storage_form}
use Rattle.mail_reader.proofs.LineEnds.{concat-lines_of}
use Rattle.mail_reader.proofs.FieldNames.{name_within}
use Rattle.mail_reader.proofs.FirstFields.{parts_by}
use Rattle.mail_reader.proofs.KeptLines.{stays}

-- An empty line at the front is removed.
pub body-empty : (rest : List ℕ) → 0 < length rest → get_or rest 0 0 ≡ 10 → concat (after_empty (lines_of rest)) ≡ drop 1 rest
body-empty [] l h = absurd (omega arith)
body-empty (x ∷ xs) l h = rw (eq-eqb x 10 h, eq-eqb x 10 h) (concat-lines_of xs)

-- Any other line stays.
pub body-other : (rest : List ℕ) → (0 < length rest → get_or rest 0 0 ≡ 10 → ⊥) → concat (after_empty (lines_of rest)) ≡ rest
body-other [] h = refl
body-other (x ∷ xs) h =
    let ne : eqb x 10 ≡ false = false_from_ne_true (eqb x 10) (λ t. h (omega arith) (eqb-true x 10 t)) in
    let same : after_empty (lines_of (x ∷ xs)) ≡ lines_of (x ∷ xs) = rw ne (stays_first x ne (lines_of xs)) in
    ap concat same ∙ concat-lines_of (x ∷ xs)
  where
    stays_first : (b : ℕ) → eqb b 10 ≡ false → (ls : List (List ℕ)) → after_empty (onto_first b ls) ≡ onto_first b ls
    stays_first b ne [] = rw ne refl
    stays_first b ne ([] ∷ ls) = rw ne refl
    stays_first b ne ((c ∷ cs) ∷ ls) = refl

-- Each of the lists has an element.
abbrev pub AllSome : List (List ℕ) → Type 0
AllSome [] = Unit {0}
AllSome (x ∷ xs) = (0 < length x) × AllSome xs

pub AllSome-parts : (ls : List (List ℕ)) → AllSome (parts_of ls).1
AllSome-parts [] = tt
AllSome-parts (l ∷ ls) = step (is_field_line l) l (parts_of ls) refl (AllSome-parts ls)
  where
    step : (f : Bool) (l : List ℕ) (p : List ℕ × List (List ℕ)) → is_field_line l ≡ f → AllSome p.1 → AllSome (parts_by f l p).1
    step true l p e h =
        let w = name_within l e in
        (omega (arith, length-append l p.0), h)
    step false l p e h = h

AllSome-filter : (p : List ℕ → Bool) (xs : List (List ℕ)) → AllSome xs → AllSome (filter p xs)
AllSome-filter p [] h = tt
AllSome-filter p (x ∷ xs) h = step (p x) x (filter p xs) h.0 (AllSome-filter p xs h.1)
  where
    step : (t : Bool) (x : List ℕ) (ys : List (List ℕ)) → 0 < length x → AllSome ys → AllSome (cond t (x ∷ ys) ys)
    step true x ys l h = (l, h)
    step false x ys l h = h

pub AllSome-kept : (lines : List (List ℕ)) → AllSome (kept_fields lines)
unfolding kept_fields
AllSome-kept lines = AllSome-filter stays (parts_of (header_lines lines)).1 (AllSome-parts (header_lines lines))

-- The form, by the bytes of its fields.
pub form_of-none : (fields : List (List ℕ)) (body : List ℕ) → AllSome fields → length (concat fields) ≡ 0 → form_of fields body ≡ None
form_of-none [] body h e = refl
form_of-none (x ∷ xs) body h e = absurd (omega (arith, h.0, length-append x (concat xs)))

pub form_of-some : (fields : List (List ℕ)) (body : List ℕ) → 0 < length (concat fields) → form_of fields body ≡ Some (concat fields ++ (10 ∷ body))
form_of-some [] body h = absurd (omega arith)
form_of-some (x ∷ xs) body h = refl

pub storage_form-none : (bytes : List ℕ) → length (concat (kept_fields (after_mailbox_line (clean_lines bytes)))) ≡ 0 → storage_form bytes ≡ None
unfolding storage_form
storage_form-none bytes e =
    form_of-none (kept_fields (after_mailbox_line (clean_lines bytes))) (concat (body_lines (after_mailbox_line (clean_lines bytes)))) (AllSome-kept (after_mailbox_line (clean_lines bytes))) e

pub storage_form-some : (bytes : List ℕ) → 0 < length (concat (kept_fields (after_mailbox_line (clean_lines bytes))))
    → storage_form bytes ≡ Some (concat (kept_fields (after_mailbox_line (clean_lines bytes))) ++ (10 ∷ concat (body_lines (after_mailbox_line (clean_lines bytes)))))
unfolding storage_form
storage_form-some bytes h =
    form_of-some (kept_fields (after_mailbox_line (clean_lines bytes))) (concat (body_lines (after_mailbox_line (clean_lines bytes)))) h
