-- The parts of a body while its lines are read.
use Rattle.std.proofs.Common.{ℕ, ◌+◌, List, ◌++◌, Option, None, Some}
use Rattle.mime_parts.specs.declared.part.Span.{Span}
use Rattle.mime_parts.specs.Delimiters.{cuts_from}
use Rattle.mime_parts.specs.Dividing.{ended}

-- One part, if one has begun.
abbrev pub begun_count : Option ℕ → ℕ
begun_count None = 0
begun_count (Some start) = 1

-- The part that has begun, and those that start in lines from an offset on.
abbrev pub all_from : List ℕ → Option ℕ → ℕ → List (List ℕ) → List Span
all_from boundary begun at lines =
    ended begun (cuts_from boundary at lines).stop ++ (cuts_from boundary at lines).parts
