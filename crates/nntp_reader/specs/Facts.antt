-- The lines that are made of rows, without a text (RFC 3977, sections 7.4, 8.3 and 8.5).
use Rattle.std.specs.Prelude.{ℕ, nat_le, List, [], ◌∷◌, ◌++◌, decimal, Option, Some, None, if◌then◌else◌}
use Rattle.std.specs.List.{flat_map}
use Rattle.mail_forms.specs.declared.row.Row.{Row}
use Rattle.arch_model.specs.Archives.{Archive, live}
use Rattle.arch_model.specs.Listings.{row_in}
use Rattle.wire_replies.specs.Blocks.{crlf_line}
use Rattle.shelf_doors.specs.Numbers.{live_in}
use Rattle.nntp_reader.specs.declared.fact.Fact.{Fact}
use Rattle.nntp_reader.specs.declared.fact.Fact.TheVariants as fact

-- What a row gives, or nothing without one.
abbrev pub from_row : (Row → List ℕ) → Option Row → List ℕ
from_row line None = []
from_row line (Some row) = line row

-- A number that is shown, and the overview line of a row.
abbrev pub over_line : ℕ → Row → List ℕ
over_line shown row = decimal shown ++ 9 ∷ crlf_line row.over

-- A number that is shown, and a value of HDR.
abbrev pub header_line : ℕ → List ℕ → List ℕ
header_line shown value = decimal shown ++ 32 ∷ crlf_line value

-- The id of a row that arrived at a moment or later.
abbrev pub new_line : ℕ → Row → List ℕ
new_line moment row = if nat_le moment row.arrived then crlf_line row.id else []

-- The line of a message by its row: a number that is shown, and what is asked of the row; or the id
-- alone.
abbrev pub fact_line : Fact → ℕ → Option Row → List ℕ
fact_line fact.Number shown row = crlf_line (decimal shown)
fact_line fact.Overview shown row = from_row (over_line shown) row
fact_line fact.Bytes shown row = from_row (λ r. header_line shown (decimal r.wire)) row
fact_line fact.Lines shown row = from_row (λ r. header_line shown (decimal r.lines)) row
fact_line (fact.ArrivedSince moment) shown row = from_row (new_line moment) row

-- The line of a number.
abbrev pub line_at : Fact → Archive → ℕ → List ℕ
line_at what a n = fact_line what n (row_in a.config.form (live a.entries) n)

-- The lines of the live numbers from `first` to `last`, in order.
unfoldable pub fact_lines : Fact → Archive → ℕ → ℕ → List ℕ
fact_lines what a first last = flat_map (line_at what a) (live_in (live a.entries) first last)
