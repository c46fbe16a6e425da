-- An archive as one list of entries, without files.
use Rattle.std.specs.Prelude.{◌≡◌, ◌+◌, ℕ, Bool, true, false, not, ◌&&◌, ◌||◌, ◌==◌, List, [], ◌∷◌, ◌++◌, Option, Some, None, if◌then◌else◌}
use Rattle.std.specs.Str.{bytes_eq}
use Rattle.std.specs.List.{filter}
use Rattle.arch_base.specs.declared.config.Config.{Config}
use Rattle.arch_base.specs.Ids.{id_eq}
use Rattle.arch_base.specs.declared.ids.Form.{Form}
use Rattle.arch_base.specs.declared.ids.ObjectId.{ObjectId}
use Rattle.git_objects.specs.Objects.{blob_id_of}
use Rattle.git_objects.specs.declared.entry_kind.EntryKind.{EntryKind}
use Rattle.git_objects.specs.declared.entry_kind.EntryKind.TheVariants.{Message, Deletion}
use Rattle.mail_reader.specs.Ids.{own_id}

-- A message, or the deletion of one: the number of the message, the epoch of the entry, the text of
-- the message, and the moment of the delivery or of the removal (public-inbox-v2-format).
pub record Entry : Type 0 where
  pub kind : EntryKind
  pub number : ℕ
  pub epoch : ℕ
  pub text : List ℕ
  pub moment : ℕ

-- The settings, the entries in the order in which they came, and the number of the next message, at
-- first 1.
pub record Archive : Type 0 where
  pub config : Config
  pub entries : List Entry
  pub next : ℕ

-- A new archive, without entries.
abbrev pub empty_archive : Config → Archive
empty_archive config = record { config = config; entries = []; next = 1 }

-- The entry of a message with a number.
abbrev pub message : ℕ → ℕ → List ℕ → ℕ → Entry
message number epoch text moment =
    record { kind = Message; number = number; epoch = epoch; text = text; moment = moment }

-- The entry that ends the message with a number and a text.
abbrev pub deletion : ℕ → ℕ → List ℕ → ℕ → Entry
deletion number epoch text moment =
    record { kind = Deletion; number = number; epoch = epoch; text = text; moment = moment }

-- The archive with one more message, which gets the next number.
abbrev pub with_entry : Archive → ℕ → List ℕ → ℕ → Archive
with_entry a epoch text moment = record {
  config = a.config;
  entries = a.entries ++ message a.next epoch text moment ∷ [];
  next = a.next + 1;
}

-- The archive with one more deletion. No number is taken.
abbrev pub with_deletion : Archive → ℕ → ℕ → List ℕ → ℕ → Archive
with_deletion a number epoch text moment = record {
  config = a.config;
  entries = a.entries ++ deletion number epoch text moment ∷ [];
  next = a.next;
}

-- The entries whose text is another one than this.
abbrev pub without_text : List Entry → List ℕ → List Entry
without_text entries text = filter (λ (e : Entry). not (bytes_eq text e.text)) entries

-- The archive without the entries of a text: its messages and their deletions, in all epochs. No
-- number is taken, and none is given back.
abbrev pub without_entries : Archive → List ℕ → Archive
without_entries a text = record {
  config = a.config;
  entries = without_text a.entries text;
  next = a.next;
}

-- The kind of an entry is that of a message.
abbrev pub is_message : EntryKind → Bool
is_message Message = true
is_message Deletion = false

-- One of these entries is the deletion of a number.
abbrev pub is_ended : List Entry → ℕ → Bool
is_ended [] n = false
is_ended (e ∷ es) n = (not (is_message e.kind) && e.number == n) || is_ended es n

-- The live entries in order: the messages that no later entry ends.
abbrev pub live : List Entry → List Entry
live [] = []
live (e ∷ es) = if is_message e.kind && not (is_ended es e.number) then e ∷ live es else live es

-- The messages in order, live or not.
abbrev pub messages : List Entry → List Entry
messages [] = []
messages (e ∷ es) = if is_message e.kind then e ∷ messages es else messages es

-- The text of the first of some entries with a number, if there is one. Of the live entries it is
-- the text that is shown, and of all messages the text that was delivered.
abbrev pub text_of : List Entry → ℕ → Option (List ℕ)
text_of [] n = None
text_of (e ∷ es) n = if e.number == n then Some e.text else text_of es n

-- The own id is this one.
abbrev pub is_id : List ℕ → Option (List ℕ) → Bool
is_id id None = false
is_id id (Some own) = bytes_eq id own

-- The first of some entries with this own id (RFC 5322, section 3.6.4), if there is one.
abbrev pub owner : List Entry → List ℕ → Option Entry
owner [] id = None
owner (e ∷ es) id = if is_id id (own_id e.text) then Some e else owner es id

-- The text has an own id that none of these entries has.
abbrev pub IsFree : List Entry → List ℕ → Type 0
IsFree entries text = (id : List ℕ) × (own_id text ≡ Some id) × (owner entries id ≡ None)

-- The number of the first entry with a blob id of a form.
abbrev pub blob_number : Form → List Entry → ObjectId → Option ℕ
blob_number form [] blob = None
blob_number form (e ∷ es) blob =
    if id_eq blob (blob_id_of form e.text) then Some e.number else blob_number form es blob

-- The entries of an epoch, in order.
abbrev pub in_epoch : List Entry → ℕ → List Entry
in_epoch entries epoch = filter (λ (e : Entry). e.epoch == epoch) entries

-- There is an entry.
abbrev pub has_entry : List Entry → Bool
has_entry [] = false
has_entry (e ∷ es) = true
