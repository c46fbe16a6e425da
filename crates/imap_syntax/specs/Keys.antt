-- The grammar of search keys (RFC 3501, section 9, search-key).
use Rattle.std.specs.Prelude.{◌≡◌, ℕ, zero, suc, ◌||◌, ◌==◌, List, length, map, slice_index, codes, Option, Some, None, Result, Ok, Err, if◌then◌else◌}
use Rattle.std.specs.Global.{Vec}
use Rattle.std.specs.Option.{option_or}
use Rattle.imap_words.specs.Kinds.{is_digit}
use Rattle.imap_words.specs.Numbers.{number_at}
use Rattle.imap_words.specs.Reading.{◌>>=◌, Refuses, with_rest, byte_at, many_at, word_of, behind_word}
use Rattle.imap_words.specs.Strings.{argument_at, atom_argument_at}
use Rattle.imap_words.specs.Words.{is_keyword}
use Rattle.imap_words.specs.declared.stop.Stop.{Stop}
use Rattle.imap_syntax.specs.Dates.{date_argument_at}
use Rattle.imap_syntax.specs.Sets.{set_at, set_argument_at}
use Rattle.imap_syntax.specs.Trees.{KeyTest, Plain, Text, Header, Flag, Day, Size, Uid, Numbers, KeyTree, Single, Opposite, Either, Every, trees, tree_of}
use Rattle.imap_syntax.specs.declared.key_names.DayKey.{DayKey}
use Rattle.imap_syntax.specs.declared.key_names.DayKey.TheVariants as day
use Rattle.imap_syntax.specs.declared.key_names.FlagKey.TheVariants as flag
use Rattle.imap_syntax.specs.declared.key_names.KeyName.{KeyName}
use Rattle.imap_syntax.specs.declared.key_names.KeyName.TheVariants as name
use Rattle.imap_syntax.specs.declared.key_names.PlainKey.{PlainKey}
use Rattle.imap_syntax.specs.declared.key_names.PlainKey.TheVariants as plain
use Rattle.imap_syntax.specs.declared.key_names.SizeKey.TheVariants as size
use Rattle.imap_syntax.specs.declared.key_names.TextKey.{TextKey}
use Rattle.imap_syntax.specs.declared.key_names.TextKey.TheVariants as text
use Rattle.imap_syntax.specs.declared.keys.Key.{Key}

-- The key without arguments that a keyword names, of those on what messages have.
abbrev pub having_key_of : List ℕ → Option PlainKey
having_key_of word =
    if is_keyword (codes "ALL") word then Some plain.All
    else if is_keyword (codes "ANSWERED") word then Some plain.Answered
    else if is_keyword (codes "DELETED") word then Some plain.Deleted
    else if is_keyword (codes "DRAFT") word then Some plain.Draft
    else if is_keyword (codes "FLAGGED") word then Some plain.Flagged
    else if is_keyword (codes "NEW") word then Some plain.New
    else if is_keyword (codes "RECENT") word then Some plain.Recent
    else if is_keyword (codes "SEEN") word then Some plain.Seen
    else None

-- The same of those on what messages lack.
abbrev pub lacking_key_of : List ℕ → Option PlainKey
lacking_key_of word =
    if is_keyword (codes "OLD") word then Some plain.Old
    else if is_keyword (codes "UNANSWERED") word then Some plain.Unanswered
    else if is_keyword (codes "UNDELETED") word then Some plain.Undeleted
    else if is_keyword (codes "UNDRAFT") word then Some plain.Undraft
    else if is_keyword (codes "UNFLAGGED") word then Some plain.Unflagged
    else if is_keyword (codes "UNSEEN") word then Some plain.Unseen
    else None

-- The key without arguments that a keyword names.
abbrev pub plain_key_of : List ℕ → Option PlainKey
plain_key_of word = option_or (having_key_of word) (lacking_key_of word)

-- The key with a text that a keyword names.
abbrev pub text_key_of : List ℕ → Option TextKey
text_key_of word =
    if is_keyword (codes "BCC") word then Some text.Bcc
    else if is_keyword (codes "BODY") word then Some text.Body
    else if is_keyword (codes "CC") word then Some text.Cc
    else if is_keyword (codes "FROM") word then Some text.From
    else if is_keyword (codes "SUBJECT") word then Some text.Subject
    else if is_keyword (codes "TEXT") word then Some text.Text
    else if is_keyword (codes "TO") word then Some text.To
    else None

-- The key with a date that a keyword names.
abbrev pub day_key_of : List ℕ → Option DayKey
day_key_of word =
    if is_keyword (codes "BEFORE") word then Some day.Before
    else if is_keyword (codes "ON") word then Some day.On
    else if is_keyword (codes "SINCE") word then Some day.Since
    else if is_keyword (codes "SENTBEFORE") word then Some day.SentBefore
    else if is_keyword (codes "SENTON") word then Some day.SentOn
    else if is_keyword (codes "SENTSINCE") word then Some day.SentSince
    else None

-- Any other key that a keyword names.
abbrev pub other_key_of : List ℕ → Option KeyName
other_key_of word =
    if is_keyword (codes "NOT") word then Some name.Not
    else if is_keyword (codes "OR") word then Some name.Or
    else if is_keyword (codes "UID") word then Some name.Uid
    else if is_keyword (codes "HEADER") word then Some name.Header
    else if is_keyword (codes "KEYWORD") word then Some (name.Flag flag.Keyword)
    else if is_keyword (codes "UNKEYWORD") word then Some (name.Flag flag.Unkeyword)
    else if is_keyword (codes "LARGER") word then Some (name.Size size.Larger)
    else if is_keyword (codes "SMALLER") word then Some (name.Size size.Smaller)
    else None

-- The key that a keyword names: without arguments, with a text, with a date, or another one.
abbrev pub name_by : Option PlainKey → Option TextKey → Option DayKey → Option KeyName → Option KeyName
name_by (Some found) t d o = Some (name.Plain found)
name_by None (Some found) d o = Some (name.Text found)
name_by None None (Some found) o = Some (name.Day found)
name_by None None None o = o

-- The key that a keyword names.
unfoldable pub key_name_of : List ℕ → Option KeyName
key_name_of word = name_by (plain_key_of word) (text_key_of word) (day_key_of word) (other_key_of word)

-- The keyword at the front.
unfoldable pub key_name_at : List ℕ → Option (KeyName × List ℕ)
key_name_at octets = with_rest (behind_word octets) (key_name_of (word_of octets))

-- The arguments of a test, by its keyword.
unfoldable pub test_at : KeyName → List ℕ → Option (KeyTest × List ℕ)
test_at (name.Plain found) octets = Some (Plain found, octets)
test_at (name.Text found) octets = do
  piece ← argument_at octets
  Some (Text found piece.0, piece.1)
test_at name.Header octets = do
  field ← argument_at octets
  piece ← argument_at field.1
  Some (Header field.0 piece.0, piece.1)
test_at (name.Flag found) octets = do
  word ← atom_argument_at octets
  Some (Flag found word.0, word.1)
test_at (name.Day found) octets = do
  date ← date_argument_at octets
  Some (Day found date.0, date.1)
test_at (name.Size found) octets = do
  rest ← byte_at 32 octets
  n ← number_at rest
  Some (Size found n.0, n.1)
test_at name.Uid octets = do
  set ← set_argument_at octets
  Some (Uid set.0, set.1)
test_at name.Not octets = None
test_at name.Or octets = None

-- A test as a key.
abbrev pub single_at : KeyName → List ℕ → Option (KeyTree × List ℕ)
single_at word octets = do
  found ← test_at word octets
  Some (Single found.0, found.1)

-- The key of which NOT is the opposite. Keys within a key are read by `inner`.
abbrev pub opposite_at : (List ℕ → Option (KeyTree × List ℕ)) → List ℕ → Option (KeyTree × List ℕ)
opposite_at inner octets = do
  rest ← byte_at 32 octets
  key ← inner rest
  Some (Opposite key.0, key.1)

-- The two keys of OR.
abbrev pub either_at : (List ℕ → Option (KeyTree × List ℕ)) → List ℕ → Option (KeyTree × List ℕ)
either_at inner octets = do
  rest ← byte_at 32 octets
  key ← inner rest
  behind ← byte_at 32 key.1
  other ← inner behind
  Some (Either key.0 other.0, other.1)

-- A key after its keyword.
abbrev pub behind_name : (List ℕ → Option (KeyTree × List ℕ)) → KeyName → List ℕ → Option (KeyTree × List ℕ)
behind_name inner name.Not octets = opposite_at inner octets
behind_name inner name.Or octets = either_at inner octets
behind_name inner word octets = single_at word octets

-- A key that begins with a keyword.
abbrev pub named_at : (List ℕ → Option (KeyTree × List ℕ)) → List ℕ → Option (KeyTree × List ℕ)
named_at inner octets = do
  word ← key_name_at octets
  behind_name inner word.0 word.1

-- A set of sequence numbers.
abbrev pub numbers_at : List ℕ → Option (KeyTree × List ℕ)
numbers_at octets = do
  set ← set_at octets
  Some (Single (Numbers set.0), set.1)

-- Keys in parentheses.
abbrev pub key_list_at : (List ℕ → Option (KeyTree × List ℕ)) → List ℕ → Option (KeyTree × List ℕ)
key_list_at inner octets = do
  inside ← byte_at 40 octets
  keys ← many_at inner (length inside) inside
  rest ← byte_at 41 keys.1
  Some (Every (trees keys.0), rest)

-- A key: a set, keys in parentheses, or one that begins with a keyword.
unfoldable pub key_by : (List ℕ → Option (KeyTree × List ℕ)) → List ℕ → Option (KeyTree × List ℕ)
key_by inner octets =
    if is_digit (slice_index octets 0) || (slice_index octets 0 == 42) then numbers_at octets
    else if slice_index octets 0 == 40 then key_list_at inner octets
    else named_at inner octets

-- A key in which keys are nested at most `depth` deep, itself included.
abbrev pub key_at : ℕ → List ℕ → Option (KeyTree × List ℕ)
key_at zero octets = None
key_at (suc depth) octets = key_by (key_at depth) octets

-- One or more keys with spaces between them.
abbrev pub keys_at : ℕ → List ℕ → Option (List KeyTree × List ℕ)
keys_at depth octets = many_at (key_at depth) (length octets) octets

-- An attempt to read a key gave what can be read, and left the octets after it, unless memory ran out.
abbrev pub ObtainsKey : List ℕ → Result Key Stop → Option (KeyTree × List ℕ) → Type 0
ObtainsKey rest (Ok key) read = read ≡ Some (tree_of key, rest)
ObtainsKey rest (Err e) read = Refuses e read

-- The same of keys.
abbrev pub ObtainsKeys : List ℕ → Result (Vec Key) Stop → Option (List KeyTree × List ℕ) → Type 0
ObtainsKeys rest (Ok keys) read = read ≡ Some (map tree_of keys.items, rest)
ObtainsKeys rest (Err e) read = Refuses e read
