-- The rows of live messages, how they are found, and the order in which they are listed.
use Rattle.std.specs.Prelude.{◌==◌, ℕ, List, [], ◌∷◌, map, reverse, Option, Some, None, if◌then◌else◌}
use Rattle.std.specs.declared.cmp.Ordering.{Ordering}
use Rattle.std.specs.BTreeSet.{insert_key}
use Rattle.std.specs.Ordering.{nat_cmp, ordering_then}
use Rattle.arch_base.specs.declared.ids.Form.{Form}
use Rattle.mail_commits.specs.Commits.{written_at}
use Rattle.mail_commits.specs.Facts.{date_fact}
use Rattle.mail_date.specs.declared.moment.Moment.{Moment}
use Rattle.mail_forms.specs.declared.row.Row.{Row}
use Rattle.mail_reader.specs.Ids.{own_id}
use Rattle.arch_model.specs.Archives.{Entry, is_id}
use Rattle.arch_model.specs.Rows.{row_of}

-- The row of a message in a form, which arrived at the moment of its entry.
abbrev pub row_at : Form → Entry → Row
row_at form e = row_of form e.number e.text e.moment

-- The rows of messages by their numbers, in order.
abbrev pub rows_of : Form → List Entry → List (ℕ × Row)
rows_of form [] = []
rows_of form (e ∷ es) = (e.number, row_at form e) ∷ rows_of form es

-- The row of the first of some messages with a number, if there is one.
abbrev pub row_in : Form → List Entry → ℕ → Option Row
row_in form [] n = None
row_in form (e ∷ es) n = if e.number == n then Some (row_at form e) else row_in form es n

-- The number of the first of some messages with this own id (RFC 5322, section 3.6.4), if there is
-- one.
abbrev pub number_of_id : List Entry → List ℕ → Option ℕ
number_of_id [] id = None
number_of_id (e ∷ es) id = if is_id id (own_id e.text) then Some e.number else number_of_id es id

-- The date of a message: the one that its text names, or else the moment of its entry.
abbrev pub date_at : Entry → Moment
date_at e = written_at (date_fact e.text) e.moment

-- The seconds of a message's date, since 1970 in UTC, and its number.
abbrev pub dated : Entry → ℕ × ℕ
dated e = ((date_at e).secs, e.number)

-- The order of dates, and of numbers if the dates are the same.
abbrev pub date_cmp : ℕ × ℕ → ℕ × ℕ → Ordering
date_cmp a b = ordering_then (nat_cmp a.0 b.0) (nat_cmp a.1 b.1)

-- The dates and numbers of messages, oldest first.
abbrev pub by_date : List Entry → List (ℕ × ℕ)
by_date [] = []
by_date (e ∷ es) = insert_key date_cmp (by_date es) (dated e)

-- The number beside a date.
abbrev pub number_beside : ℕ × ℕ → ℕ
number_beside p = p.1

-- The numbers of messages, newest first: by the seconds of their dates, and then by number, both
-- falling.
unfoldable pub listing : List Entry → List ℕ
listing entries = map number_beside (reverse (by_date entries))
