-- The laws of storage forms, and the law that the fields of a text are its front.
use Rattle.std.proofs.Common.{◌≡◌, ℕ, ◌+◌, ◌<◌, ◌≤◌, suc, Bool, true, false, cond, eqb, ◌&&◌, ◌||◌, List, [], ◌∷◌, ◌++◌, Option, None, Some, length, map, get_or, refl, sym, ap, ◌∙◌, append_assoc, arith, length-append, ⊎_elim}
use Rattle.std.specs.List.{concat}
use Rattle.std.proofs.lemmas.Bool.{eqb-true, cases_lt}
use Rattle.mail_reader.specs.Lines.{lines_of, is_field_line, is_continuation, is_empty_line, front, after_front, header_lines, after_header, after_empty}
use Rattle.mail_reader.specs.Fields.{parts_of, field_of, fields_of}
use Rattle.mail_reader.specs.Stored.{ended, ends_line, without_returns, clean_lines, is_mailbox_line, after_mailbox_line, kept_fields, body_lines, storage_form}
use Rattle.mail_reader.specs.Bodies.{body_of}
use Rattle.mail_reader.specs.Keeping.{next_place}
use Rattle.mail_reader.specs.Laws.{StoredOnce, FormsAreClean, wholes, FieldsAreFront, FormIsParts, IsKeptLine, FieldInFront, FormsAreShort}
use Rattle.mail_reader.specs.declared.storing.Place.{Place}
use Rattle.mail_reader.specs.declared.storing.Place.TheVariants.{Start, Kept, Dropped}
use Rattle.mail_reader.proofs.Trims.{NoByte-all}
use Rattle.mail_reader.proofs.LineEnds.{concat-lines_of}
use Rattle.mail_reader.proofs.FirstFields.{parts_by}
use Rattle.mail_reader.proofs.KeptLines.{kept_at, kept_from, after_at, after_from, kept_from-start, after_from-start}
use Rattle.mail_reader.proofs.Bodied.{storage_form-none, storage_form-some}
use Rattle.mail_reader.proofs.CleanLines.{CleanLine, AllClean, AllClean-append, clean_empty, lines_of-concat, ended-clean, no_returns-clean}
use Rattle.mail_reader.proofs.FormLines.{Again, again_more, form_at, FormLines, form_lines}

pub once : StoredOnce
once bytes text e =
    let f = form_lines bytes text e in
    ap storage_form f.is ∙ form_at f.first f.kept f.rest f.clean f.clean_rest f.field f.again ∙ ap Some (sym f.is)

-- The lines of a form are clean, and are its lines.
all_clean : (text : List ℕ) (f : FormLines text) → AllClean (f.first ∷ (f.kept ++ (10 ∷ []) ∷ f.rest))
all_clean text f = AllClean-append (f.first ∷ f.kept) ((10 ∷ []) ∷ f.rest) f.clean (clean_empty, f.clean_rest)

all_lines : (text : List ℕ) (f : FormLines text) → lines_of text ≡ f.first ∷ (f.kept ++ (10 ∷ []) ∷ f.rest)
all_lines text f = ap lines_of f.is ∙ lines_of-concat (f.first ∷ (f.kept ++ (10 ∷ []) ∷ f.rest)) (all_clean text f)

-- A text whose first line starts a field has a field.
some_fields : (text l : List ℕ) (ls : List (List ℕ)) → lines_of text ≡ l ∷ ls → is_field_line l ≡ true → 0 < length (fields_of text)
unfolding fields_of
some_fields text l ls e h = rw (e, h, h) (omega arith)

pub clean : FormsAreClean
clean bytes text e =
    let f = form_lines bytes text e in
    let lines = f.first ∷ (f.kept ++ (10 ∷ []) ∷ f.rest) in
    let end = ended-clean f.first (f.kept ++ (10 ∷ []) ∷ f.rest) (all_clean text f) in
    record {
      field = some_fields text f.first (f.kept ++ (10 ∷ []) ∷ f.rest) (all_lines text f) f.field;
      ended = (end.0, f.is ∙ end.1);
      no_returns = λ k r g. no_returns-clean lines (all_clean text f) k (ap (λ t. get_or t k 0) (sym f.is) ∙ r) (ap (λ t. get_or t (k + 1) 0) (sym f.is) ∙ g);
    }

-- The bytes of fields are the fields.
wholes-fields : (xs : List (List ℕ)) → wholes (map field_of xs) ≡ concat xs
unfolding field_of
wholes-fields [] = refl
wholes-fields (x ∷ xs) = ap (λ t. x ++ t) (wholes-fields xs)

-- The parts, joined, are the lines.
concat-parts : (ls : List (List ℕ)) → concat ls ≡ (parts_of ls).0 ++ concat (parts_of ls).1
concat-parts [] = refl
concat-parts (l ∷ ls) = step (is_field_line l) l (parts_of ls) (concat ls) (concat-parts ls)
  where
    step : (f : Bool) (l : List ℕ) (p : List ℕ × List (List ℕ)) (c : List ℕ) → c ≡ p.0 ++ concat p.1 → l ++ c ≡ (parts_by f l p).0 ++ concat (parts_by f l p).1
    step true l p c e = ap (λ t. l ++ t) e ∙ sym (append_assoc l p.0 (concat p.1))
    step false l p c e = ap (λ t. l ++ t) e ∙ sym (append_assoc l p.0 (concat p.1))

-- A header has nothing before its first field.
header-first : (ls : List (List ℕ)) → (parts_of (header_lines ls)).0 ≡ []
header-first [] = refl
header-first (l ∷ ls) = step (is_field_line l) l refl
  where
    step : (f : Bool) (l : List ℕ) → is_field_line l ≡ f → (parts_of (cond f (l ∷ front ls) [])).0 ≡ []
    step true l e = rw e refl
    step false l e = refl

-- The header and the lines after it are all the lines.
concat-front : (ls : List (List ℕ)) → concat ls ≡ concat (front ls) ++ concat (after_front ls)
concat-front [] = refl
concat-front (l ∷ ls) = step (is_field_line l || is_continuation l) l (front ls) (after_front ls) ls (concat-front ls)
  where
    step : (t : Bool) (l : List ℕ) (xs ys ls : List (List ℕ)) → concat ls ≡ concat xs ++ concat ys → concat (l ∷ ls) ≡ concat (cond t (l ∷ xs) []) ++ concat (cond t ys (l ∷ ls))
    step true l xs ys ls e = ap (λ t. l ++ t) e ∙ sym (append_assoc l (concat xs) (concat ys))
    step false l xs ys ls e = refl

concat-header : (ls : List (List ℕ)) → concat ls ≡ concat (header_lines ls) ++ concat (after_header ls)
concat-header [] = refl
concat-header (l ∷ ls) = step (is_field_line l) l (concat-front ls)
  where
    step : (f : Bool) (l : List ℕ) → concat ls ≡ concat (front ls) ++ concat (after_front ls) → concat (l ∷ ls) ≡ concat (cond f (l ∷ front ls) []) ++ concat (cond f (after_front ls) (l ∷ ls))
    step true l e = ap (λ t. l ++ t) e ∙ sym (append_assoc l (concat (front ls)) (concat (after_front ls)))
    step false l e = refl

pub fields_front : FieldsAreFront
unfolding fields_of
fields_front text =
    let lines = lines_of text in
    let header : concat (header_lines lines) ≡ wholes (map field_of (parts_of (header_lines lines)).1) =
    concat-parts (header_lines lines) ∙ ap (λ t. t ++ concat (parts_of (header_lines lines)).1) (header-first lines) ∙ sym (wholes-fields (parts_of (header_lines lines)).1) in
    sym (concat-lines_of text) ∙ concat-header lines ∙ ap (λ t. t ++ concat (after_header lines)) header

pub parts : FormIsParts
unfolding body_of
parts bytes text e =
    let f = form_lines bytes text e in
    let after : after_header (lines_of text) ≡ (10 ∷ []) ∷ f.rest =
    ap after_header (all_lines text f) ∙ sym (after_from-start (f.first ∷ (f.kept ++ (10 ∷ []) ∷ f.rest))) ∙ f.again.after in
    let rest : concat (after_header (lines_of text)) ≡ 10 ∷ concat (after_empty (after_header (lines_of text))) = rw after refl in
    fields_front text ∙ ap (λ t. wholes (fields_of text) ++ t) rest

-- A field line has the same place whatever precedes it.
same_again : (l : List ℕ) (kept rest : List (List ℕ)) → is_field_line l ≡ true → Again Start (l ∷ kept) rest → Again Kept (l ∷ kept) rest
same_again l kept rest h a =
    let same : next_place Kept l ≡ next_place Start l = rw h refl in
    record {
      kept = ap (λ o. kept_at o l (λ next. kept_from next (kept ++ (10 ∷ []) ∷ rest))) same ∙ a.kept;
      after = ap (λ o. after_at o (l ∷ (kept ++ (10 ∷ []) ∷ rest)) (λ next. after_from next (kept ++ (10 ∷ []) ∷ rest))) same ∙ a.after;
    }

kept_clean : (line : List ℕ) → IsKeptLine line → CleanLine line
kept_clean line k = record {
  content = k.content;
  is = k.is;
  no_feed = NoByte-all 10 k.content (λ i low high e. k.no_feed i (eqb-true (get_or k.content i 0) 10 e));
  no_return = k.no_return;
}

pub in_front : FieldInFront
in_front bytes text line e k =
    let f = form_lines bytes text e in
    let more = again_more Start line (f.first ∷ f.kept) f.rest (rw (k.field, k.stays) refl) (same_again f.first f.kept f.rest f.field f.again) in
    ap (λ t. storage_form (line ++ t)) f.is ∙ form_at line (f.first ∷ f.kept) f.rest (kept_clean line k, f.clean) f.clean_rest k.field more
    ∙ ap (λ t. Some (line ++ t)) (sym f.is)

-- A form, by the lines of which it is made.
form_bytes : (bytes text : List ℕ) → storage_form bytes ≡ Some text
    → length text ≡ length (concat (kept_from Start (after_mailbox_line (clean_lines bytes)))) + (1 + length (concat (body_lines (after_mailbox_line (clean_lines bytes)))))
form_bytes bytes text e =
    let lines = after_mailbox_line (clean_lines bytes) in
    let fields : concat (kept_from Start (after_mailbox_line (clean_lines bytes))) ≡ concat (kept_fields (after_mailbox_line (clean_lines bytes))) = kept_from-start lines in
    ⊎_elim (λ (some : 0 < length (concat (kept_fields (after_mailbox_line (clean_lines bytes))))).
    ap length (some_is (sym e ∙ storage_form-some bytes some)) ∙ length-append (concat (kept_fields lines)) (10 ∷ concat (body_lines lines)) ∙ omega (arith, ap length fields))
    (λ (none : length (concat (kept_fields (after_mailbox_line (clean_lines bytes)))) ≤ 0). none_some (sym (storage_form-none bytes (omega arith)) ∙ e))
    (cases_lt 0 (length (concat (kept_fields lines))))
  where
    none_some : {X : Type 0} → None ≡ Some text → X
    none_some h = cc

    some_is : {xs : List ℕ} → Some text ≡ Some xs → text ≡ xs
    some_is h = cc

-- The kept lines and those after the header together are no longer than the lines.
short_kept : (place : Place) (ls : List (List ℕ)) → length (concat (kept_from place ls)) + length (concat (after_from place ls)) ≤ length (concat ls)
short_kept place [] = omega arith
short_kept place (l ∷ ls) = step (next_place place l) l ls (λ next. kept_from next ls) (λ next. after_from next ls) (λ next. short_kept next ls)
  where
    step : (o : Option Place) (l : List ℕ) (ls : List (List ℕ)) (ks bs : Place → List (List ℕ)) → ((next : Place) → length (concat (ks next)) + length (concat (bs next)) ≤ length (concat ls))
        → length (concat (kept_at o l ks)) + length (concat (after_at o (l ∷ ls) bs)) ≤ length (concat (l ∷ ls))
    step None l ls ks bs h = omega arith
    step (Some Start) l ls ks bs h = omega (arith, h Start, length-append l (concat ls))
    step (Some Kept) l ls ks bs h = omega (arith, h Kept, length-append l (concat ls), length-append l (concat (ks Kept)))
    step (Some Dropped) l ls ks bs h = omega (arith, h Dropped, length-append l (concat ls))

short_cond : (t : Bool) (l : List ℕ) (ls : List (List ℕ)) → length (concat (cond t ls (l ∷ ls))) ≤ length (concat (l ∷ ls))
short_cond true l ls = omega (arith, length-append l (concat ls))
short_cond false l ls = omega arith

short_empty : (ls : List (List ℕ)) → length (concat (after_empty ls)) ≤ length (concat ls)
short_empty [] = omega arith
short_empty (l ∷ ls) = short_cond (is_empty_line l) l ls

short_mailbox : (ls : List (List ℕ)) → length (concat (after_mailbox_line ls)) ≤ length (concat ls)
short_mailbox [] = omega arith
short_mailbox (l ∷ ls) = short_cond (is_mailbox_line l) l ls

short_ended : (xs : List ℕ) → length (ended xs) ≤ length xs + 1
short_ended [] = omega arith
short_ended (x ∷ []) = step (eqb x 10) x
  where
    step : (t : Bool) (x : ℕ) → length (cond t (x ∷ []) (x ∷ 10 ∷ [])) ≤ 1 + 1
    step true x = omega arith
    step false x = omega arith
short_ended (x ∷ y ∷ ys) = let h = short_ended (y ∷ ys) in omega (arith, h)

short_returns : (xs : List ℕ) → length (without_returns xs) ≤ length xs
short_returns [] = omega arith
short_returns (x ∷ xs) = step (eqb x 13 && ends_line xs) x (without_returns xs) (length xs) (short_returns xs)
  where
    step : (t : Bool) (x : ℕ) (w : List ℕ) (n : ℕ) → length w ≤ n → length (cond t w (x ∷ w)) ≤ suc n
    step true x w n h = omega arith
    step false x w n h = omega arith

short_clean : (bytes : List ℕ) → length (concat (clean_lines bytes)) ≤ length bytes + 1
unfolding clean_lines
short_clean bytes =
    omega (arith, ap length (concat-lines_of (without_returns (ended bytes))), short_returns (ended bytes), short_ended bytes)

pub short : FormsAreShort
short bytes text e =
    let lines = after_mailbox_line (clean_lines bytes) in
    let after : length (concat (after_from Start lines)) ≡ length (concat (after_header lines)) = ap (λ ls. length (concat ls)) (after_from-start lines) in
    omega (arith, form_bytes bytes text e, short_kept Start lines, after, short_empty (after_header lines), short_mailbox (clean_lines bytes), short_clean bytes)
