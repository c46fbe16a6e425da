-- The keys of SEARCH (RFC 3501, section 6.4.4).
use Rattle.std.specs.Prelude.{ℕ, nat_lt, Bool, true, false, ◌&&◌, ◌||◌, not, List, codes}
use Rattle.std.specs.List.{list_any}
use Rattle.std.specs.Str.{str_eq_ignore_ascii_case}
use Rattle.mail_date.specs.declared.moment.CivilDate.{CivilDate}
use Rattle.mail_reader.specs.Fields.{FieldText, fields_of}
use Rattle.mail_reader.specs.Values.{flat_of}
use Rattle.mail_reader.specs.Laws.{wholes}
use Rattle.mail_forms.specs.declared.row.Row.{Row}
use Rattle.mail_forms.specs.WireForms.{wire_of}
use Rattle.mime_words.specs.Decoding.{decoded}
use Rattle.mime_parts.specs.Texts.{body_text_of}
use Rattle.imap_syntax.specs.declared.keys.Date.{Date}
use Rattle.imap_syntax.specs.declared.key_names.DayKey.{DayKey}
use Rattle.imap_syntax.specs.declared.key_names.DayKey.TheVariants as day
use Rattle.imap_syntax.specs.declared.key_names.FlagKey.{FlagKey}
use Rattle.imap_syntax.specs.declared.key_names.FlagKey.TheVariants as flag
use Rattle.imap_syntax.specs.declared.key_names.PlainKey.{PlainKey}
use Rattle.imap_syntax.specs.declared.key_names.PlainKey.TheVariants as plain
use Rattle.imap_syntax.specs.declared.key_names.SizeKey.{SizeKey}
use Rattle.imap_syntax.specs.declared.key_names.SizeKey.TheVariants as size
use Rattle.imap_syntax.specs.declared.key_names.TextKey.{TextKey}
use Rattle.imap_syntax.specs.declared.key_names.TextKey.TheVariants as text
use Rattle.imap_syntax.specs.Sets.{in_set}
use Rattle.imap_syntax.specs.Trees.{KeyTest, Plain, Text, Header, Flag, Day, Size, Uid, Numbers, KeyTree, Single, Opposite, Either, Every, KeyTrees, no_tree, one_tree}
use Rattle.imap_items.specs.Searching.{is_found}
use Rattle.imap_items.specs.Days.{arrival_day, day_shown, is_day_before, is_day}

-- A message, as keys are asked of it: its text and its row, its sequence number, the greatest
-- sequence number and UID, the day of its arrival in UTC, and its own day in its own zone.
pub record MessageText : Type 0 where
  pub text : List ℕ
  pub row : Row
  pub sequence : ℕ
  pub greatest : ℕ
  pub uids : ℕ
  pub arrived : CivilDate
  pub sent : CivilDate

-- The field has a name, and another text is found in its value, unfolded and decoded.
abbrev pub is_found_in : List ℕ → List ℕ → FieldText → Bool
is_found_in name piece field =
    str_eq_ignore_ascii_case field.name name && is_found piece (decoded (flat_of field.value))

-- It is found in one of the fields with a name.
abbrev pub in_field : List ℕ → List ℕ → List ℕ → Bool
in_field name piece text = list_any (is_found_in name piece) (fields_of text)

-- It is found in the body's text.
abbrev pub in_body : List ℕ → List ℕ → Bool
in_body piece text = is_found piece (body_text_of text)

-- It is found in the header as it is sent, without its empty line.
abbrev pub found_in_header : List ℕ → List ℕ → Bool
found_in_header piece text = is_found piece (wire_of (wholes (fields_of text)))

-- It is found there, or in the body's text.
abbrev pub in_text : List ℕ → List ℕ → Bool
in_text piece text = found_in_header piece text || in_body piece text

-- A message with a text and a row, and these numbers.
abbrev pub message_of : List ℕ → Row → ℕ → ℕ → ℕ → MessageText
message_of text row sequence greatest uids = record {
  text = text;
  row = row;
  sequence = sequence;
  greatest = greatest;
  uids = uids;
  arrived = arrival_day row.arrived;
  sent = day_shown row.date;
}

-- A message matches a key without arguments. It has none of the flags, and is old.
abbrev pub plain_matches : PlainKey → Bool
plain_matches plain.All = true
plain_matches plain.Answered = false
plain_matches plain.Deleted = false
plain_matches plain.Draft = false
plain_matches plain.Flagged = false
plain_matches plain.New = false
plain_matches plain.Recent = false
plain_matches plain.Seen = false
plain_matches plain.Old = true
plain_matches plain.Unanswered = true
plain_matches plain.Undeleted = true
plain_matches plain.Undraft = true
plain_matches plain.Unflagged = true
plain_matches plain.Unseen = true

-- The message matches a key with a text.
abbrev pub text_matches : MessageText → TextKey → List ℕ → Bool
text_matches m text.Bcc piece = in_field (codes "Bcc") piece m.text
text_matches m text.Body piece = in_body piece m.text
text_matches m text.Cc piece = in_field (codes "Cc") piece m.text
text_matches m text.From piece = in_field (codes "From") piece m.text
text_matches m text.Subject piece = in_field (codes "Subject") piece m.text
text_matches m text.Text piece = in_text piece m.text
text_matches m text.To piece = in_field (codes "To") piece m.text

-- A message matches a key with a flag. It has none.
abbrev pub flag_matches : FlagKey → Bool
flag_matches flag.Keyword = false
flag_matches flag.Unkeyword = true

-- The message matches a key with a date.
abbrev pub day_matches : MessageText → DayKey → Date → Bool
day_matches m day.Before date = is_day_before m.arrived date
day_matches m day.On date = is_day m.arrived date
day_matches m day.Since date = not (is_day_before m.arrived date)
day_matches m day.SentBefore date = is_day_before m.sent date
day_matches m day.SentOn date = is_day m.sent date
day_matches m day.SentSince date = not (is_day_before m.sent date)

-- The message matches a key with a number of octets.
abbrev pub size_matches : MessageText → SizeKey → ℕ → Bool
size_matches m size.Larger n = nat_lt n m.row.wire
size_matches m size.Smaller n = nat_lt m.row.wire n

-- The message matches a key that has no keys within it.
abbrev pub test_matches : MessageText → KeyTest → Bool
test_matches m (Plain name) = plain_matches name
test_matches m (Text name piece) = text_matches m name piece
test_matches m (Header field piece) = in_field field piece m.text
test_matches m (Flag name word) = flag_matches name
test_matches m (Day name date) = day_matches m name date
test_matches m (Size name n) = size_matches m name n
test_matches m (Uid set) = in_set m.row.number m.uids set
test_matches m (Numbers set) = in_set m.sequence m.greatest set

unfoldable mutual
  -- The message matches a key.
  pub tree_matches : MessageText → KeyTree → Bool
  tree_matches m (Single test) = test_matches m test
  tree_matches m (Opposite t) = not (tree_matches m t)
  tree_matches m (Either t u) = tree_matches m t || tree_matches m u
  tree_matches m (Every ts) = trees_match m ts

  -- The message matches each of these keys.
  pub trees_match : MessageText → KeyTrees → Bool
  trees_match m no_tree = true
  trees_match m (one_tree t ts) = tree_matches m t && trees_match m ts

-- A key that has no keys within it reads the text of a message: those of fields and of the body do.
abbrev pub test_reads : KeyTest → Bool
test_reads (Plain name) = false
test_reads (Text name piece) = true
test_reads (Header field piece) = true
test_reads (Flag name word) = false
test_reads (Day name date) = false
test_reads (Size name n) = false
test_reads (Uid set) = false
test_reads (Numbers set) = false

unfoldable mutual
  -- A key reads the text of a message: one within it does.
  pub tree_reads : KeyTree → Bool
  tree_reads (Single test) = test_reads test
  tree_reads (Opposite t) = tree_reads t
  tree_reads (Either t u) = tree_reads t || tree_reads u
  tree_reads (Every ts) = trees_read ts

  -- One of these keys reads it.
  pub trees_read : KeyTrees → Bool
  trees_read no_tree = false
  trees_read (one_tree t ts) = tree_reads t || trees_read ts
