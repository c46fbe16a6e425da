-- The parts of a body while they are found, and the room for them.
use Rattle.std.specs.Prelude.{ℕ, max, nat_le, List, [], ◌∷◌, length, Option, Some, None, if◌then◌else◌}
use Rattle.mime_parts.specs.declared.part.Span.{Span}
use Rattle.mime_parts.specs.Delimiters.{span_of}

-- A list, or nothing if it is longer than `room`.
abbrev pub at_most : ℕ → List Span → List Span
at_most room spans = if nat_le (length spans) room then spans else []

-- The part that begins at an offset, if one has begun, and ends at another.
abbrev pub ended : Option ℕ → ℕ → List Span
ended None end = []
ended (Some start) end = span_of start (max start end) ∷ []
