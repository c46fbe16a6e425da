-- What views hold of live messages: their rows, and their words.
use Rattle.std.specs.Prelude.{◌≡◌, ℕ, List, [], ◌∷◌, take}
use Rattle.std.specs.List.{filter}
use Rattle.std.specs.BTreeMap.{insert_entry, is_at}
use Rattle.std.specs.Map.{keys_of, remove_entry}
use Rattle.std.specs.Ordering.{nat_cmp}
use Rattle.arch_base.specs.declared.ids.Form.{Form}
use Rattle.arch_model.specs.Archives.{Entry}
use Rattle.arch_model.specs.Listings.{date_at, rows_of}
use Rattle.mail_forms.specs.declared.row.Row.{Row}
use Rattle.mime_parts.specs.Words.{mail_words}
use Rattle.overview_index.specs.Listings.{with_row, without, rows_numbered, listing}
use Rattle.query_lang.specs.Dates.{utc_day}
use Rattle.query_lang.specs.declared.query.Query.{Query}
use Rattle.text_words.specs.declared.word_lists.WordLists.{WordLists}
use Rattle.word_index.specs.Rows.{WordRow as Worded, matching, found}

-- The rows of messages, and their words with the days of their dates, both by number.
pub record Viewed : Type 0 where
  pub rows : List (ℕ × Row)
  pub words : List (ℕ × Worded)

-- No messages.
abbrev pub no_mails : Viewed
no_mails = record { rows = []; words = [] }

-- The words of a message with a row, and the day of its date in UTC.
abbrev pub worded_by : Row → WordLists → Worded
worded_by row words = record { words = words; day = utc_day row.date }

-- One message more, by its row and its words.
abbrev pub with_mail : Viewed → Row → WordLists → Viewed
with_mail v row words = record {
  rows = with_row v.rows row;
  words = insert_entry nat_cmp v.words row.number (worded_by row words);
}

-- One message less.
abbrev pub without_mail : Viewed → ℕ → Viewed
without_mail v n = record {
  rows = without v.rows n;
  words = remove_entry (is_at (nat_cmp n)) v.words;
}

-- The words of a message, and the day of its date in UTC.
abbrev pub worded_at : Entry → Worded
worded_at e = record { words = mail_words e.text; day = utc_day (date_at e) }

-- The words of messages, by number.
abbrev pub worded_of : List Entry → List (ℕ × Worded)
worded_of [] = []
worded_of (e ∷ es) = (e.number, worded_at e) ∷ worded_of es

-- What views hold of these messages, whose blob ids are of a form.
abbrev pub views_of : Form → List Entry → Viewed
views_of form es = record { rows = rows_of form es; words = worded_of es }

-- The numbers of the rows whose words and days match a query, newest first.
abbrev pub searched : Query → Viewed → List ℕ
searched query v = listing (rows_numbered v.rows (found query v.words))

-- The numbers of the newest rows, of some first ones of the listing, whose words and days match a query.
pub record IsFrontFound (query : Query) (v : Viewed) (numbers : List ℕ) : Type 0 where
  pub count : ℕ
  pub are : numbers ≡ filter (matching query v.words) (take count (listing v.rows))

-- There are words of just the numbers that have a row.
abbrev pub AreWorded : List (ℕ × Row) → List (ℕ × Worded) → Type 0
AreWorded rows words = keys_of words ≡ keys_of rows
