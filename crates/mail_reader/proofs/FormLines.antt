-- A storage form as lines: those of its fields, an empty line, and those of its body.
use Rattle.std.proofs.Common.{◌≡◌, ℕ, ◌<◌, Bool, true, false, List, [], ◌∷◌, ◌++◌, None, Some, length, take, drop, refl, sym, ap, ◌∙◌, arith, length-append, codes}
use Rattle.std.specs.List.{concat, prefix_len}
use Rattle.std.proofs.lemmas.List.{take-append-drop}
use Rattle.std.proofs.lemmas.List.Folds.{concat-append}
use Rattle.std.proofs.lemmas.Bool.{false_from_ne_true, both_ways}
use Rattle.std.proofs.lemmas.Slice.Eq.{bytes_eq-Decides}
use Rattle.mail_reader.specs.Lines.{is_name_byte, is_field_line, is_continuation, after_empty}
use Rattle.mail_reader.specs.Stored.{clean_lines, is_dropped, is_mailbox_line, after_mailbox_line, kept_fields, body_lines, storage_form}
use Rattle.mail_reader.specs.Keeping.{next_place}
use Rattle.mail_reader.specs.declared.storing.Place.{Place}
use Rattle.mail_reader.specs.declared.storing.Place.TheVariants.{Start, Kept, Dropped}
use Rattle.mail_reader.proofs.FieldNames.{name_within}
use Rattle.mail_reader.proofs.KeptLines.{kept_at, kept_from, after_at, after_from, place_by, kept_from-start, after_from-start}
use Rattle.mail_reader.proofs.Bodied.{storage_form-none, storage_form-some}
use Rattle.mail_reader.proofs.CleanLines.{AllClean, AllClean-append, AllClean-lines, AllClean-kept, AllClean-body, AllClean-after_mailbox, clean_empty, clean_lines-concat}

-- An empty line doesn't start a field.
pub empty_no_field : is_field_line (10 ∷ []) ≡ false
unfolding is_field_line
empty_no_field = refl

-- The header of the lines is kept whole, and after it are an empty line and the rest.
pub record Again (place : Place) (lines rest : List (List ℕ)) : Type 0 where
  pub kept : kept_from place (lines ++ (10 ∷ []) ∷ rest) ≡ lines
  pub after : after_from place (lines ++ (10 ∷ []) ∷ rest) ≡ (10 ∷ []) ∷ rest

again_none : (place : Place) (rest : List (List ℕ)) → Again place [] rest
again_none place rest = record { kept = rw empty_no_field refl; after = rw empty_no_field refl }

-- The place of a line among the kept lines, by its place before: dropped lines are as if they
-- weren't there.
abbrev Follows : Place → Place → Type 0
Follows Start Start = Unit {0}
Follows Start Kept = ⊥
Follows Start Dropped = ⊥
Follows Kept Start = ⊥
Follows Kept Kept = Unit {0}
Follows Kept Dropped = ⊥
Follows Dropped Start = Unit {0}
Follows Dropped Kept = Unit {0}
Follows Dropped Dropped = ⊥

drop_follows : (p q : Place) → Follows p q → Follows Dropped q
drop_follows Start Start h = tt
drop_follows Start Kept h = tt
drop_follows Start Dropped h = h
drop_follows Kept Start h = tt
drop_follows Kept Kept h = tt
drop_follows Kept Dropped h = h
drop_follows Dropped Start h = tt
drop_follows Dropped Kept h = tt
drop_follows Dropped Dropped h = h

-- A line that is kept is kept again.
pub again_more : (q : Place) (line : List ℕ) (kept rest : List (List ℕ)) → next_place q line ≡ Some Kept → Again Kept kept rest → Again q (line ∷ kept) rest
again_more q line kept rest e h = record {
  kept = ap (λ o. kept_at o line (λ next. kept_from next (kept ++ (10 ∷ []) ∷ rest))) e ∙ ap (λ ls. line ∷ ls) h.kept;
  after = ap (λ o. after_at o (line ∷ (kept ++ (10 ∷ []) ∷ rest)) (λ next. after_from next (kept ++ (10 ∷ []) ∷ rest))) e ∙ h.after;
}

again : (p q : Place) → Follows p q → (lines rest : List (List ℕ)) → Again q (kept_from p lines) rest
again p q h [] rest = again_none q rest
again p q h (line ∷ lines) rest =
    step (is_field_line line) (is_dropped line) (is_continuation line) p q h refl refl refl (λ next. kept_from next lines) (λ next from follows. again next from follows lines rest)
  where
    step : (f d c : Bool) (p q : Place) → Follows p q → is_field_line line ≡ f → is_dropped line ≡ d → is_continuation line ≡ c
        → (later : Place → List (List ℕ)) → ((next from : Place) → Follows next from → Again from (later next) rest)
        → Again q (kept_at (place_by p f d c) line later) rest
    step true true c p q h ef ed ec later ih = ih Dropped q (drop_follows p q h)
    step true false c p q h ef ed ec later ih = again_more q line (later Kept) rest (rw (ef, ed) refl) (ih Kept Kept tt)
    step false d false p q h ef ed ec later ih = again_none q rest
    step false d true Start q h ef ed ec later ih = again_none q rest
    step false d true Kept Start h ef ed ec later ih = absurd h
    step false d true Kept Kept h ef ed ec later ih = again_more Kept line (later Kept) rest (rw (ef, ec) refl) (ih Kept Kept tt)
    step false d true Kept Dropped h ef ed ec later ih = absurd h
    step false d true Dropped q h ef ed ec later ih = ih Dropped q h

-- Lines of which the first starts a field.
abbrev pub StartsField : List (List ℕ) → Type 0
StartsField [] = Unit {0}
StartsField (l ∷ ls) = is_field_line l ≡ true

starts_field : (lines : List (List ℕ)) → StartsField (kept_from Start lines) × StartsField (kept_from Dropped lines)
starts_field [] = (tt, tt)
starts_field (line ∷ lines) = step (is_field_line line) (is_dropped line) (is_continuation line) refl (λ next. kept_from next lines) (starts_field lines).1
  where
    step : (f d c : Bool) → is_field_line line ≡ f → (later : Place → List (List ℕ)) → StartsField (later Dropped)
        → StartsField (kept_at (place_by Start f d c) line later) × StartsField (kept_at (place_by Dropped f d c) line later)
    step true true c e later h = (h, h)
    step true false c e later h = (e, e)
    step false d true e later h = (tt, h)
    step false d false e later h = (tt, tt)

-- A mailbox's line doesn't start a field.
pub mailbox_no_field : (line : List ℕ) → is_mailbox_line line ≡ true → is_field_line line ≡ false
unfolding is_field_line
mailbox_no_field line h =
    let from : codes "From " ≡ take 5 line = (bytes_eq-Decides (codes "From ") (take 5 line)).0 h in
    let split : line ≡ codes "From " ++ drop 5 line = sym (take-append-drop 5 line) ∙ ap (λ t. t ++ drop 5 line) (sym from) in
    ap is_field_line split

-- Lines of which the first starts a field have no mailbox's line at the front.
pub same_mailbox : (l : List ℕ) (ls : List (List ℕ)) → is_field_line l ≡ true → after_mailbox_line (l ∷ ls) ≡ l ∷ ls
same_mailbox l ls h =
    let is_not : is_mailbox_line l ≡ false = false_from_ne_true (is_mailbox_line l) (λ e. both_ways (is_field_line l) (mailbox_no_field l e) h) in
    rw is_not refl

-- A field line isn't empty.
pub some_field : (line : List ℕ) → is_field_line line ≡ true → 0 < length line
some_field line h = let w : prefix_len is_name_byte line < length line = name_within line h in omega arith

-- The form of clean lines whose header is kept whole.
pub form_at : (l : List ℕ) (kept rest : List (List ℕ)) → AllClean (l ∷ kept) → AllClean rest → is_field_line l ≡ true → Again Start (l ∷ kept) rest
    → storage_form (concat ((l ∷ kept) ++ (10 ∷ []) ∷ rest)) ≡ Some (concat ((l ∷ kept) ++ (10 ∷ []) ∷ rest))
form_at l kept rest clean clean_rest field h =
    let lines = (l ∷ kept) ++ (10 ∷ []) ∷ rest in
    let is : after_mailbox_line (clean_lines (concat lines)) ≡ lines =
    ap after_mailbox_line (clean_lines-concat lines (AllClean-append (l ∷ kept) ((10 ∷ []) ∷ rest) clean (clean_empty, clean_rest)))
    ∙ same_mailbox l (kept ++ (10 ∷ []) ∷ rest) field in
    let fields : concat (kept_fields (after_mailbox_line (clean_lines (concat lines)))) ≡ concat (l ∷ kept) =
    ap (λ ls. concat (kept_fields ls)) is ∙ sym (kept_from-start lines) ∙ ap concat h.kept in
    let body : concat (body_lines (after_mailbox_line (clean_lines (concat lines)))) ≡ concat rest =
    ap (λ ls. concat (body_lines ls)) is ∙ ap (λ ls. concat (after_empty ls)) (sym (after_from-start lines) ∙ h.after) in
    let some : 0 < length (concat (kept_fields (after_mailbox_line (clean_lines (concat lines))))) =
    omega (arith, ap length fields, length-append l (concat kept), some_field l field) in
    storage_form-some (concat lines) some ∙ rw (fields, body) (ap Some (sym (concat-append (l ∷ kept) ((10 ∷ []) ∷ rest))))

-- A storage form, split into its lines.
pub record FormLines (text : List ℕ) : Type 0 where
  pub first : List ℕ
  pub kept : List (List ℕ)
  pub rest : List (List ℕ)
  pub is : text ≡ concat ((first ∷ kept) ++ (10 ∷ []) ∷ rest)
  pub clean : AllClean (first ∷ kept)
  pub clean_rest : AllClean rest
  pub field : is_field_line first ≡ true
  pub again : Again Start (first ∷ kept) rest

-- Each storage form can be split so.
pub form_lines : (bytes text : List ℕ) → storage_form bytes ≡ Some text → FormLines text
form_lines bytes text e =
    let lines = after_mailbox_line (clean_lines bytes) in
    let clean : AllClean (after_mailbox_line (clean_lines bytes)) = AllClean-after_mailbox (clean_lines bytes) (AllClean-lines bytes) in
    let fields : concat (kept_from Start (after_mailbox_line (clean_lines bytes))) ≡ concat (kept_fields (after_mailbox_line (clean_lines bytes))) = kept_from-start lines in
    from_kept (kept_from Start lines) (body_lines lines) (AllClean-kept Start lines clean) (AllClean-body lines clean) (starts_field lines).0 (again Start Start tt lines (body_lines lines))
    (λ none. none_some (sym (storage_form-none bytes (ap length (sym fields ∙ ap concat none))) ∙ e))
    (λ some. some_is (sym e ∙ storage_form-some bytes (omega (arith, ap length fields, some)) ∙ rw (sym fields) (ap Some (sym (concat-append (kept_from Start lines) ((10 ∷ []) ∷ body_lines lines))))))
  where
    none_some : None ≡ Some text → ⊥
    none_some h = cc

    some_is : {xs : List ℕ} → Some text ≡ Some xs → text ≡ xs
    some_is h = cc

    from_kept : (kept rest : List (List ℕ)) → AllClean kept → AllClean rest → StartsField kept → Again Start kept rest
        → (kept ≡ [] → ⊥) → (0 < length (concat kept) → text ≡ concat (kept ++ (10 ∷ []) ∷ rest)) → FormLines text
    from_kept [] rest clean clean_rest field h none is = absurd (none refl)
    from_kept (l ∷ kept) rest clean clean_rest field h none is =
        record { first = l; kept = kept; rest = rest; is = is (omega (arith, length-append l (concat kept), some_field l field)); clean = clean; clean_rest = clean_rest; field = field; again = h }
