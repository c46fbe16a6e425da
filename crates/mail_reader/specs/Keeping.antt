-- Private: the places of the lines of a header, one after another.
use Rattle.std.specs.Prelude.{ℕ, List, Option, None, Some, if◌then◌else◌}
use Rattle.mail_reader.specs.Lines.{is_field_line, is_continuation}
use Rattle.mail_reader.specs.Stored.{is_dropped}
use Rattle.mail_reader.specs.declared.storing.Place.{Place}
use Rattle.mail_reader.specs.declared.storing.Place.TheVariants.{Start, Kept, Dropped}

-- The place of a continuation line, which is that of the line before it if a field has started.
abbrev pub continued : Place → Option Place
continued Start = None
continued Kept = Some Kept
continued Dropped = Some Dropped

-- The place of a line, by the place of the line before it. `None` if it is after the header.
abbrev pub next_place : Place → List ℕ → Option Place
next_place place line =
    if is_field_line line then (if is_dropped line then Some Dropped else Some Kept)
    else if is_continuation line then continued place
    else None
