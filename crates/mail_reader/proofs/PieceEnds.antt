-- The rest of a text after pieces at its front.
use Rattle.std.proofs.Common.{◌≡◌, ℕ, List, [], ◌∷◌, ◌++◌, Option, None, Some, ◌<◌, ◌≤◌, Bool, eqb, length, take, drop, true, false, ⊎_elim, arith, length-append, refl, sym, ap, ◌∙◌, append_assoc}
use Rattle.std.specs.List.{concat}
use Rattle.std.proofs.lemmas.List.{append_cancel_left, append-nil, nil_from_length, take-append-drop, take_at}
use Rattle.std.specs.Borrow.{Bor}
use Rattle.std.specs.Str.{bytes_eq}
use Rattle.std.proofs.lemmas.Bool.{both_ways, eqb-true, false≢true, cases_lt}
use Rattle.std.proofs.lemmas.Slice.Eq.{bytes_eq-Decides}
use Rattle.mail_reader.specs.Checking.{NotBegun, IsRestAfter, piece_at}
use Rattle.std.specs.Prelude.{IsTrue, ◌↔◌}
use Rattle.mail_reader.specs.Stored.{clean_lines, after_mailbox_line, kept_fields, body_lines, storage_form}
use Rattle.mail_reader.specs.Keeping.{next_place}
use Rattle.mail_reader.specs.declared.storing.Place.{Place}
use Rattle.mail_reader.specs.declared.storing.Place.TheVariants.{Start, Kept, Dropped}
use Rattle.mail_reader.proofs.KeptLines.{kept_at, kept_from, after_at, after_from}
use Rattle.mail_reader.proofs.Bodied.{storage_form-none, storage_form-some}

-- The text is all pieces and something more exactly if the rest of it is the remaining pieces and
-- the same.
pub record Ahead (text all left rest : List ℕ) : Type 0 where
  pub on : (more : List ℕ) → text ≡ all ++ more → left ≡ rest ++ more
  pub back : (more : List ℕ) → left ≡ rest ++ more → text ≡ all ++ more

pub Ahead-none : (text all rest : List ℕ) → rest ≡ all → Ahead text all text rest
Ahead-none text all rest e = record {
  on = λ more h. h ∙ ap (λ t. t ++ more) (sym e);
  back = λ more h. h ∙ ap (λ t. t ++ more) e;
}

-- One piece further.
pub Ahead-more : (text all left piece after rest later : List ℕ) → Ahead text all left rest → rest ≡ piece ++ later → left ≡ piece ++ after → Ahead text all after later
Ahead-more text all left piece after rest later h split e = record {
  on = λ more k. append_cancel_left piece after (later ++ more) (sym e ∙ h.on more k ∙ ap (λ t. t ++ more) split ∙ append_assoc piece later more);
  back = λ more k. h.back more (e ∙ ap (λ t. piece ++ t) k ∙ sym (append_assoc piece later more) ∙ ap (λ t. t ++ more) (sym split));
}

-- The piece isn't there.
pub Ahead-not : (text all left piece rest later : List ℕ) → Ahead text all left rest → rest ≡ piece ++ later → NotBegun left piece → NotBegun text all
Ahead-not text all left piece rest later h split not_there more k =
    not_there (later ++ more) (h.on more k ∙ ap (λ t. t ++ more) split ∙ append_assoc piece later more)

-- No pieces remain.
pub Ahead-all : (text all left rest : List ℕ) → Ahead text all left rest → rest ≡ [] → text ≡ all ++ left
Ahead-all text all left rest h e = h.back left (ap (λ t. t ++ left) (sym e))

-- What is kept of a line, and of those after it.
pub kept_more : (place next : Place) (line : List ℕ) (lines : List (List ℕ)) → next_place place line ≡ Some next
    → concat (kept_from place (line ∷ lines)) ≡ piece_at next line ++ concat (kept_from next lines)
kept_more place next line lines e =
    ap (λ o. concat (kept_at o line (λ n. kept_from n lines))) e ∙ by_place next
  where
    by_place : (next : Place) → concat (kept_at (Some next) line (λ n. kept_from n lines)) ≡ piece_at next line ++ concat (kept_from next lines)
    by_place Start = refl
    by_place Kept = refl
    by_place Dropped = refl

-- A line feed after a piece.
pub feed_after : (text content rest : List ℕ) (r : Option (Bor (List ℕ))) → text ≡ content ++ rest → IsRestAfter rest (10 ∷ []) r → IsRestAfter text (content ++ 10 ∷ []) r
feed_after text content rest None e h =
    λ more k. h more (append_cancel_left content rest ((10 ∷ []) ++ more) (sym e ∙ k ∙ append_assoc content (10 ∷ []) more))
feed_after text content rest (Some found) e h =
    e ∙ ap (λ t. content ++ t) h ∙ sym (append_assoc content (10 ∷ []) found.now)

-- The result of a comparison with a piece.
pub piece_there : (text content rest : List ℕ) → bytes_eq (take (length content) text) content ≡ true → rest ≡ drop (length content) text → text ≡ content ++ rest
piece_there text content rest h e =
    sym (take-append-drop (length content) text) ∙ ap (λ t. t ++ drop (length content) text) ((bytes_eq-Decides (take (length content) text) content).0 h) ∙ ap (λ t. content ++ t) (sym e)

pub piece_not_there : (text content : List ℕ) → bytes_eq (take (length content) text) content ≡ false → NotBegun text (content ++ 10 ∷ [])
piece_not_there text content h more k =
    let same : take (length content) text ≡ content = ap (take (length content)) (k ∙ append_assoc content (10 ∷ []) more) ∙ take_at content ((10 ∷ []) ++ more) (length content) refl in
    both_ways (bytes_eq (take (length content) text) content) h ((bytes_eq-Decides (take (length content) text) content).1 same)

-- The lines after the header, one line further.
pub after_more : (place next : Place) (line : List ℕ) (lines : List (List ℕ)) → next_place place line ≡ Some next → after_from place (line ∷ lines) ≡ after_from next lines
after_more place next line lines e = ap (λ o. after_at o (line ∷ lines) (λ n. after_from n lines)) e

-- The text ends here exactly if nothing is left.
pub ends_there : (text all left : List ℕ) (b : Bool) → text ≡ all ++ left → b ≡ eqb (length left) 0 → IsTrue b ↔ (text ≡ all)
ends_there text all left b is e = (
  λ t. let none : left ≡ [] = nil_from_length left (eqb-true (length left) 0 (sym e ∙ t)) in
      is ∙ ap (λ l. all ++ l) none ∙ append-nil all,
  λ same. let none : left ≡ [] = append_cancel_left all left [] (sym is ∙ same ∙ sym (append-nil all)) in
      e ∙ ap (λ l. eqb (length l) 0) none,
)

-- A text that doesn't start with all isn't all.
pub never : (text all : List ℕ) → NotBegun text all → IsTrue false ↔ (text ≡ all)
never text all h = (λ t. absurd (false≢true t), λ same. absurd (h [] (same ∙ sym (append-nil all))))

-- The kept fields of bytes, and the body, as the form has them.
abbrev pub form_fields : List ℕ → List ℕ
form_fields bytes = concat (kept_fields (after_mailbox_line (clean_lines bytes)))

abbrev pub form_body : List ℕ → List ℕ
form_body bytes = concat (body_lines (after_mailbox_line (clean_lines bytes)))

-- A text that starts with the fields is the form exactly if the body follows.
pub is_form-some : (bytes text left : List ℕ) (b : Bool) → text ≡ form_fields bytes ++ left → length left < length text → IsTrue b ↔ (left ≡ 10 ∷ form_body bytes)
    → IsTrue b ↔ (storage_form bytes ≡ Some text)
is_form-some bytes text left b is shorter h =
    let some : 0 < length (form_fields bytes) = omega (arith, ap length is, length-append (form_fields bytes) left) in
    let form = storage_form-some bytes some in (
      λ t. form ∙ ap Some (ap (λ l. form_fields bytes ++ l) (sym (h.0 t)) ∙ sym is),
      λ e. h.1 (append_cancel_left (form_fields bytes) left (10 ∷ form_body bytes) (sym is ∙ same_some text (form_fields bytes ++ (10 ∷ form_body bytes)) (sym e ∙ form))),
    )
  where
    same_some : (xs ys : List ℕ) → Some xs ≡ Some ys → xs ≡ ys
    same_some xs ys k = cc

-- Without a field there is no form.
pub is_form-none : (bytes text left : List ℕ) → text ≡ form_fields bytes ++ left → length text ≤ length left → IsTrue false ↔ (storage_form bytes ≡ Some text)
is_form-none bytes text left is longer =
    let none : length (form_fields bytes) ≡ 0 = omega (arith, ap length is, length-append (form_fields bytes) left) in
    (λ t. absurd (false≢true t), λ e. absurd (apart (sym (storage_form-none bytes none) ∙ e)))
  where
    apart : None ≡ Some text → ⊥
    apart k = cc

-- A text that doesn't start with the fields isn't the form.
pub is_form-not : (bytes text : List ℕ) → NotBegun text (form_fields bytes) → IsTrue false ↔ (storage_form bytes ≡ Some text)
is_form-not bytes text h = (
  λ t. absurd (false≢true t),
  λ e. absurd (⊎_elim (λ (some : 0 < length (form_fields bytes)). h (10 ∷ form_body bytes) (same_some text (form_fields bytes ++ (10 ∷ form_body bytes)) (sym e ∙ storage_form-some bytes some)))
      (λ (none : length (form_fields bytes) ≤ 0). apart (sym (storage_form-none bytes (omega arith)) ∙ e)) (cases_lt 0 (length (form_fields bytes)))),
)
  where
    apart : None ≡ Some text → ⊥
    apart k = cc

    same_some : (xs ys : List ℕ) → Some xs ≡ Some ys → xs ≡ ys
    same_some xs ys k = cc
