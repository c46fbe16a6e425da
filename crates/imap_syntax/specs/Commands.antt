-- The grammar of commands (RFC 3501, section 9, command).
use Rattle.std.specs.Prelude.{◌≡◌, ℕ, Bool, true, false, ◌==◌, List, length, take, drop, slice_index, codes, Option, Some, None, is_some, Result, Ok, Err, if◌then◌else◌}
use Rattle.std.specs.List.{prefix_len}
use Rattle.imap_words.specs.Kinds.{is_tag_byte, is_pattern_byte}
use Rattle.imap_words.specs.Reading.{◌>>=◌, Refuses, with_rest, byte_at, many_at, word_of, behind_word, line_end_at, end_at}
use Rattle.imap_words.specs.Strings.{argument_at, atom_argument_at, string_at, literal_at}
use Rattle.imap_words.specs.Words.{is_keyword}
use Rattle.imap_words.specs.declared.stop.Stop.{Stop}
use Rattle.imap_syntax.specs.Dates.{date_time_at}
use Rattle.imap_syntax.specs.Flags.{flag_list_at, stored_flags_at, store_item_at}
use Rattle.imap_syntax.specs.Items.{items_at}
use Rattle.imap_syntax.specs.Keys.{keys_at}
use Rattle.imap_syntax.specs.Requests.{ImapCommand, Plain, OnMailbox, Lists, Login, Authenticate, Rename, Status, Append, Copy, Fetch, Store, Search, WholeCommand, Untagged, Faulty, Understood, meant, command_name_of, numbered_command_of, status_item_of}
use Rattle.imap_syntax.specs.Sets.{set_argument_at}
use Rattle.imap_syntax.specs.declared.asks.Ask.{Ask}
use Rattle.imap_syntax.specs.declared.asks.AskRefusal.{AskRefusal}
use Rattle.imap_syntax.specs.declared.asks.AskRefusal.TheVariants as refusal
use Rattle.imap_syntax.specs.declared.asks.StatusItem.{StatusItem}
use Rattle.imap_syntax.specs.declared.command_names.CommandName.{CommandName}
use Rattle.imap_syntax.specs.declared.command_names.CommandName.TheVariants as name
use Rattle.imap_syntax.specs.declared.command_names.ListCommand.{ListCommand}
use Rattle.imap_syntax.specs.declared.command_names.MailboxCommand.{MailboxCommand}
use Rattle.imap_syntax.specs.declared.command_names.NumberedCommand.{NumberedCommand}
use Rattle.imap_syntax.specs.declared.command_names.NumberedCommand.TheVariants as numbered
use Rattle.imap_syntax.specs.declared.dates.DateTime.{DateTime}

-- A command whose arguments end with the command.
abbrev pub ends_with : ImapCommand → List ℕ → Option (ImapCommand × List ℕ)
ends_with command octets = do
  rest ← end_at octets
  Some (command, rest)

-- The mailbox of a command.
unfoldable pub on_mailbox_at : MailboxCommand → List ℕ → Option (ImapCommand × List ℕ)
on_mailbox_at command octets = do
  mailbox ← argument_at octets
  ends_with (OnMailbox command mailbox.0) mailbox.1

-- The user and the password (login).
unfoldable pub login_at : List ℕ → Option (ImapCommand × List ℕ)
login_at octets = do
  user ← argument_at octets
  password ← argument_at user.1
  ends_with (Login user.0 password.0) password.1

-- The mechanism (authenticate, without its lines of base64).
unfoldable pub authenticate_at : List ℕ → Option (ImapCommand × List ℕ)
authenticate_at octets = do
  mechanism ← atom_argument_at octets
  ends_with (Authenticate mechanism.0) mechanism.1

-- The names of a mailbox, the old one and the new one (rename).
unfoldable pub rename_at : List ℕ → Option (ImapCommand × List ℕ)
rename_at octets = do
  mailbox ← argument_at octets
  other ← argument_at mailbox.1
  ends_with (Rename mailbox.0 other.0) other.1

-- The reference and the pattern (list and lsub).
unfoldable pub lists_at : ListCommand → List ℕ → Option (ImapCommand × List ℕ)
lists_at command octets = do
  reference ← argument_at octets
  rest ← byte_at 32 reference.1
  pattern ← string_at is_pattern_byte rest
  ends_with (Lists command reference.0 pattern.0) pattern.1

-- The item of STATUS at the front.
unfoldable pub status_item_at : List ℕ → Option (StatusItem × List ℕ)
status_item_at octets = with_rest (behind_word octets) (status_item_of (word_of octets))

-- Items of STATUS in parentheses after a space.
unfoldable pub status_items_at : List ℕ → Option (List StatusItem × List ℕ)
status_items_at octets = do
  rest ← byte_at 32 octets
  inside ← byte_at 40 rest
  items ← many_at status_item_at (length inside) inside
  behind ← byte_at 41 items.1
  Some (items.0, behind)

-- The mailbox and the items (status).
unfoldable pub status_at : List ℕ → Option (ImapCommand × List ℕ)
status_at octets = do
  mailbox ← argument_at octets
  items ← status_items_at mailbox.1
  ends_with (Status mailbox.0 items.0) items.1

-- Flags and a space after them.
abbrev pub spaced_flags_at : List ℕ → Option (Option (List (List ℕ)) × List ℕ)
spaced_flags_at octets = do
  flags ← flag_list_at octets
  rest ← byte_at 32 flags.1
  Some (Some flags.0, rest)

-- The flags of a message, if a parenthesis comes next.
unfoldable pub message_flags_at : List ℕ → Option (Option (List (List ℕ)) × List ℕ)
message_flags_at octets = if slice_index octets 0 == 40 then spaced_flags_at octets else Some (None, octets)

-- A date and a space after it.
abbrev pub spaced_date_at : List ℕ → Option (Option DateTime × List ℕ)
spaced_date_at octets = do
  date ← date_time_at octets
  rest ← byte_at 32 date.1
  Some (Some date.0, rest)

-- The date of a message, if a quote comes next.
unfoldable pub message_date_at : List ℕ → Option (Option DateTime × List ℕ)
message_date_at octets = if slice_index octets 0 == 34 then spaced_date_at octets else Some (None, octets)

-- The mailbox, flags, a date, and the message (append).
unfoldable pub append_at : List ℕ → Option (ImapCommand × List ℕ)
append_at octets = do
  mailbox ← argument_at octets
  rest ← byte_at 32 mailbox.1
  flags ← message_flags_at rest
  date ← message_date_at flags.1
  message ← literal_at date.1
  ends_with (Append mailbox.0 flags.0 date.0 message.0) message.1

-- The set and the mailbox (copy).
unfoldable pub copy_at : Bool → List ℕ → Option (ImapCommand × List ℕ)
copy_at by_uid octets = do
  set ← set_argument_at octets
  mailbox ← argument_at set.1
  ends_with (Copy by_uid set.0 mailbox.0) mailbox.1

-- The set and the items (fetch).
unfoldable pub fetch_at : Bool → List ℕ → Option (ImapCommand × List ℕ)
fetch_at by_uid octets = do
  set ← set_argument_at octets
  rest ← byte_at 32 set.1
  items ← items_at rest
  ends_with (Fetch by_uid set.0 items.0) items.1

-- The set, the change and the flags (store).
unfoldable pub store_at : Bool → List ℕ → Option (ImapCommand × List ℕ)
store_at by_uid octets = do
  set ← set_argument_at octets
  rest ← byte_at 32 set.1
  change ← store_item_at rest
  behind ← byte_at 32 change.1
  flags ← stored_flags_at behind
  ends_with (Store by_uid set.0 change.0 flags.0) flags.1

-- The keys of a search with a charset or without one, after a space. They are nested at most 64 deep.
unfoldable pub search_keys_at : Bool → Option (List ℕ) → List ℕ → Option (ImapCommand × List ℕ)
search_keys_at by_uid charset octets = do
  rest ← byte_at 32 octets
  keys ← keys_at 64 rest
  ends_with (Search by_uid charset keys.0) keys.1

-- The octets after `CHARSET`, if that keyword comes first.
abbrev pub behind_charset : List ℕ → Option (List ℕ)
behind_charset octets = if is_keyword (codes "CHARSET") (word_of octets) then Some (behind_word octets) else None

-- The same after a space.
unfoldable pub charset_word_at : List ℕ → Option (List ℕ)
charset_word_at octets = do
  rest ← byte_at 32 octets
  behind_charset rest

-- A charset and keys if `CHARSET` came first, and keys otherwise.
abbrev pub search_by : Bool → List ℕ → Option (List ℕ) → Option (ImapCommand × List ℕ)
search_by by_uid octets None = search_keys_at by_uid None octets
search_by by_uid octets (Some behind) = do
  charset ← argument_at behind
  search_keys_at by_uid (Some charset.0) charset.1

-- The charset and the keys (search).
unfoldable pub search_at : Bool → List ℕ → Option (ImapCommand × List ℕ)
search_at by_uid octets = search_by by_uid octets (charset_word_at octets)

-- The arguments of a command on messages.
abbrev pub numbered_at : Bool → NumberedCommand → List ℕ → Option (ImapCommand × List ℕ)
numbered_at by_uid numbered.Copy octets = copy_at by_uid octets
numbered_at by_uid numbered.Fetch octets = fetch_at by_uid octets
numbered_at by_uid numbered.Store octets = store_at by_uid octets
numbered_at by_uid numbered.Search octets = search_at by_uid octets

-- A command on messages whose numbers are UIDs: its name after a space, and its arguments (uid).
unfoldable pub uid_at : List ℕ → Option (ImapCommand × List ℕ)
uid_at octets = do
  rest ← byte_at 32 octets
  found ← numbered_command_of (word_of rest)
  numbered_at true found (behind_word rest)

-- The arguments of a command, up to its end.
abbrev pub command_by : CommandName → List ℕ → Option (ImapCommand × List ℕ)
command_by (name.Plain found) octets = ends_with (Plain found) octets
command_by (name.Mailbox found) octets = on_mailbox_at found octets
command_by (name.List found) octets = lists_at found octets
command_by (name.Numbered found) octets = numbered_at false found octets
command_by name.Uid octets = uid_at octets
command_by name.Login octets = login_at octets
command_by name.Authenticate octets = authenticate_at octets
command_by name.Rename octets = rename_at octets
command_by name.Status octets = status_at octets
command_by name.Append octets = append_at octets

-- A command without its tag: its name and its arguments.
unfoldable pub command_at : List ℕ → Option (ImapCommand × List ℕ)
command_at octets = do
  found ← command_name_of (word_of octets)
  command_by found (behind_word octets)

-- A command with this tag, if what follows the tag is one.
abbrev pub told_by : List ℕ → Option (ImapCommand × List ℕ) → WholeCommand
told_by tag None = Faulty tag
told_by tag (Some p) = Understood tag p.0

-- A tag with no space after it is readable where a line end follows it.
abbrev pub tag_alone : List ℕ → Bool → WholeCommand
tag_alone tag ends = if ends then Faulty tag else Untagged

-- What a tag and the octets after it are.
abbrev pub behind_tag : List ℕ → List ℕ → Option (List ℕ) → WholeCommand
behind_tag tag octets None = tag_alone tag (is_some (line_end_at octets))
behind_tag tag octets (Some rest) = told_by tag (command_at rest)

-- The same where the tag has so many octets.
abbrev pub whole_by : ℕ → List ℕ → WholeCommand
whole_by len octets =
    if len == 0 then Untagged
    else behind_tag (take len octets) (drop len octets) (byte_at 32 (drop len octets))

-- What the octets of a whole command are (RFC 3501, section 9, command). A tag is readable where a
-- space or a line end follows it.
unfoldable pub whole_of : List ℕ → WholeCommand
whole_of octets = whole_by (prefix_len is_tag_byte octets) octets

-- A refusal is right, unless memory ran out.
abbrev pub RefusesWhole : AskRefusal → WholeCommand → Type 0
RefusesWhole refusal.NoTag whole = whole ≡ Untagged
RefusesWhole (refusal.Bad tag) whole = whole ≡ Faulty tag
RefusesWhole refusal.NoMemory whole = Unit {0}

-- What reading a whole command gives.
abbrev pub ReadsWhole : Result Ask AskRefusal → WholeCommand → Type 0
ReadsWhole (Ok found) whole = whole ≡ meant found
ReadsWhole (Err e) whole = RefusesWhole e whole

-- An attempt to read a command after its tag gave what can be read, unless memory ran out.
abbrev pub ObtainsAsk : List ℕ → Result Ask Stop → Option (ImapCommand × List ℕ) → Type 0
ObtainsAsk tag (Ok found) read = told_by tag read ≡ meant found
ObtainsAsk tag (Err e) read = Refuses e read

-- The keyword CHARSET was read, if it came next.
abbrev pub SkipsCharset : List ℕ → List ℕ → Bool → Type 0
SkipsCharset old new true = charset_word_at old ≡ Some new
SkipsCharset old new false = (charset_word_at old ≡ None) × (new ≡ old)
