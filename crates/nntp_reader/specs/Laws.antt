-- The replies to a reader do not depend on how the bytes are cut.
use Rattle.std.specs.Prelude.{ℕ}
use Rattle.line_door.specs.Clipped.{longest_line}
use Rattle.line_door.specs.Readers.{LineReaderLaws}
use Rattle.nntp_reader.specs.Replies.{line_answered, too_long}

-- At every moment: feeding `p` and then `q` says and leaves what feeding both at once does. The acts
-- of one piece and then of another are acts of both, even if allocations, the disk or sends fail.
-- Acts without such failures are the plain function, in both directions.
abbrev pub ReaderLaws : Type 0
ReaderLaws = (moment : ℕ) → LineReaderLaws longest_line (line_answered moment) too_long
