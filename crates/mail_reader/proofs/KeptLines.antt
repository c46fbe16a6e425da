-- The lines of a header one after another, and those of them that are kept.
use Rattle.std.proofs.Common.{◌≡◌, ℕ, Bool, true, false, cond, not, ◌||◌, List, [], ◌∷◌, ◌++◌, Option, None, Some, refl, sym, ap, ◌∙◌, append_assoc}
use Rattle.std.specs.List.{concat, filter}
use Rattle.mail_reader.specs.Lines.{is_field_line, is_continuation, front, after_front, after_header}
use Rattle.mail_reader.specs.Fields.{parts_of}
use Rattle.mail_reader.specs.Stored.{is_dropped, kept_fields}
use Rattle.mail_reader.specs.Keeping.{next_place, continued}
use Rattle.mail_reader.specs.declared.storing.Place.{Place}
use Rattle.mail_reader.specs.declared.storing.Place.TheVariants.{Start, Kept, Dropped}
use Rattle.mail_reader.proofs.FieldNames.{is_dropped-within}
use Rattle.mail_reader.proofs.FirstFields.{parts_by}

-- The lines that are kept from a line on, by its place.
abbrev pub kept_at : Option Place → List ℕ → (Place → List (List ℕ)) → List (List ℕ)
kept_at None line later = []
kept_at (Some Start) line later = later Start
kept_at (Some Kept) line later = line ∷ later Kept
kept_at (Some Dropped) line later = later Dropped

-- The lines that are kept from some line on, by the place of the line before it.
abbrev pub kept_from : Place → List (List ℕ) → List (List ℕ)
kept_from place [] = []
kept_from place (line ∷ lines) = kept_at (next_place place line) line (λ next. kept_from next lines)

-- The lines after the header, by the place of a line.
abbrev pub after_at : Option Place → List (List ℕ) → (Place → List (List ℕ)) → List (List ℕ)
after_at None lines later = lines
after_at (Some place) lines later = later place

abbrev pub after_from : Place → List (List ℕ) → List (List ℕ)
after_from place [] = []
after_from place (line ∷ lines) = after_at (next_place place line) (line ∷ lines) (λ next. after_from next lines)

-- The place of a line, by what it is: `f` starts a field, `d` a field that is dropped, and `c`
-- continues one.
abbrev pub place_by : Place → Bool → Bool → Bool → Option Place
place_by place f d c = cond f (cond d (Some Dropped) (Some Kept)) (cond c (continued place) None)

-- The field is one that stays.
abbrev pub stays : List ℕ → Bool
stays field = not (is_dropped field)

-- What stays of the parts if the lines that continue the field before are kept, or dropped.
abbrev pub kept_parts : List ℕ × List (List ℕ) → List ℕ
kept_parts parts = parts.0 ++ concat (filter stays parts.1)

abbrev pub later_parts : List ℕ × List (List ℕ) → List ℕ
later_parts parts = concat (filter stays parts.1)

-- A field starts.
begun : (d : Bool) (line : List ℕ) (parts : List ℕ × List (List ℕ)) (later : Place → List (List ℕ)) → concat (later Kept) ≡ kept_parts parts
    → concat (later Dropped) ≡ later_parts parts → stays (line ++ parts.0) ≡ not d
    → concat (kept_at (cond d (Some Dropped) (Some Kept)) line later) ≡ concat (filter stays ((line ++ parts.0) ∷ parts.1))
begun true line parts later k e same = rw same e
begun false line parts later k e same =
    rw same (ap (λ t. line ++ t) k ∙ sym (append_assoc line parts.0 (concat (filter stays parts.1))))

-- One line, if the field before it is kept.
kept_step : (f d c : Bool) (line : List ℕ) (parts : List ℕ × List (List ℕ)) (later : Place → List (List ℕ)) → concat (later Kept) ≡ kept_parts parts
    → concat (later Dropped) ≡ later_parts parts → (f ≡ true → stays (line ++ parts.0) ≡ not d)
    → concat (kept_at (place_by Kept f d c) line later) ≡ kept_parts (cond (f || c) (parts_by f line parts) ([], []))
kept_step true d c line parts later k e same = begun d line parts later k e (same refl)
kept_step false d true line parts later k e same =
    ap (λ t. line ++ t) k ∙ sym (append_assoc line parts.0 (concat (filter stays parts.1)))
kept_step false d false line parts later k e same = refl

-- One line, if the field before it is dropped.
dropped_step : (f d c : Bool) (line : List ℕ) (parts : List ℕ × List (List ℕ)) (later : Place → List (List ℕ)) → concat (later Kept) ≡ kept_parts parts
    → concat (later Dropped) ≡ later_parts parts → (f ≡ true → stays (line ++ parts.0) ≡ not d)
    → concat (kept_at (place_by Dropped f d c) line later) ≡ later_parts (cond (f || c) (parts_by f line parts) ([], []))
dropped_step true d c line parts later k e same = begun d line parts later k e (same refl)
dropped_step false d true line parts later k e same = e
dropped_step false d false line parts later k e same = refl

-- One line, if no field has started.
start_step : (f d c : Bool) (line : List ℕ) (parts : List ℕ × List (List ℕ)) (later : Place → List (List ℕ)) → concat (later Kept) ≡ kept_parts parts
    → concat (later Dropped) ≡ later_parts parts → (f ≡ true → stays (line ++ parts.0) ≡ not d)
    → concat (kept_at (place_by Start f d c) line later) ≡ later_parts (cond f (parts_by f line parts) ([], []))
start_step true d c line parts later k e same = begun d line parts later k e (same refl)
start_step false d true line parts later k e same = refl
start_step false d false line parts later k e same = refl

-- The parts of a run of lines that may end at once.
parts_of-front : (t : Bool) (line : List ℕ) (lines : List (List ℕ)) → parts_of (cond t (line ∷ lines) []) ≡ cond t (parts_by (is_field_line line) line (parts_of lines)) ([], [])
parts_of-front true line lines = refl
parts_of-front false line lines = refl

same_stay : (line more : List ℕ) → is_field_line line ≡ true → stays (line ++ more) ≡ not (is_dropped line)
same_stay line more h = ap not (is_dropped-within line more h)

-- What is kept after a field, by whether that field is kept or dropped.
record FromBegun (lines : List (List ℕ)) : Type 0 where
  kept : concat (kept_from Kept lines) ≡ kept_parts (parts_of (front lines))
  dropped : concat (kept_from Dropped lines) ≡ later_parts (parts_of (front lines))

from_begun : (lines : List (List ℕ)) → FromBegun lines
from_begun [] = record { kept = refl; dropped = refl }
from_begun (line ∷ lines) =
    let ih = from_begun lines in
    let by_front = parts_of-front (is_field_line line || is_continuation line) line (front lines) in
    record {
      kept = kept_step (is_field_line line) (is_dropped line) (is_continuation line) line (parts_of (front lines)) (λ next. kept_from next lines) ih.kept ih.dropped (same_stay line (parts_of (front lines)).0) ∙ sym (ap kept_parts by_front);
      dropped = dropped_step (is_field_line line) (is_dropped line) (is_continuation line) line (parts_of (front lines)) (λ next. kept_from next lines) ih.kept ih.dropped (same_stay line (parts_of (front lines)).0) ∙ sym (ap later_parts by_front);
    }

-- What is kept of a header, by its fields.
pub kept_from-start : (lines : List (List ℕ)) → concat (kept_from Start lines) ≡ concat (kept_fields lines)
unfolding kept_fields
kept_from-start [] = refl
kept_from-start (line ∷ lines) =
    let ih = from_begun lines in
    start_step (is_field_line line) (is_dropped line) (is_continuation line) line (parts_of (front lines)) (λ next. kept_from next lines) ih.kept ih.dropped (same_stay line (parts_of (front lines)).0)
    ∙ sym (ap later_parts (parts_of-front (is_field_line line) line (front lines)))

-- The lines after a header.
after_step : (f d c : Bool) (lines : List (List ℕ)) (later : Place → List (List ℕ)) (rest : List (List ℕ)) → later Kept ≡ rest → later Dropped ≡ rest
    → (after_at (place_by Kept f d c) lines later ≡ cond (f || c) rest lines) × (after_at (place_by Dropped f d c) lines later ≡ cond (f || c) rest lines) × (after_at (place_by Start f d c) lines later ≡ cond f rest lines)
after_step true true c lines later rest k e = (e, e, e)
after_step true false c lines later rest k e = (k, k, k)
after_step false d true lines later rest k e = (k, e, refl)
after_step false d false lines later rest k e = (refl, refl, refl)

after_begun : (lines : List (List ℕ)) → (after_from Kept lines ≡ after_front lines) × (after_from Dropped lines ≡ after_front lines)
after_begun [] = (refl, refl)
after_begun (line ∷ lines) =
    let ih = after_begun lines in
    let steps = after_step (is_field_line line) (is_dropped line) (is_continuation line) (line ∷ lines) (λ next. after_from next lines) (after_front lines) ih.0 ih.1 in
    (steps.0, steps.1)

pub after_from-start : (lines : List (List ℕ)) → after_from Start lines ≡ after_header lines
after_from-start [] = refl
after_from-start (line ∷ lines) =
    let ih = after_begun lines in
    (after_step (is_field_line line) (is_dropped line) (is_continuation line) (line ∷ lines) (λ next. after_from next lines) (after_front lines) ih.0 ih.1).2
