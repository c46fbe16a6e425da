-- The valid archives.
use Rattle.std.specs.Prelude.{◌≡◌, ◌≢◌, ◌+◌, ◌<◌, ◌≤◌, ℕ, List, [], ◌∷◌, ◌++◌, Some}
use Rattle.std.specs.List.{AllByRecursion}
use Rattle.arch_base.specs.Configs.{IsConfig}
use Rattle.arch_base.specs.Moments.{last_moment}
use Rattle.arch_base.specs.Names.{IsArchiveName}
use Rattle.arch_base.specs.declared.ids.Form.{Form}
use Rattle.mail_reader.specs.StorageTexts.{IsStorageText}
use Rattle.mail_reader.specs.Ids.{own_id}
use Rattle.git_objects.specs.Objects.{blob_id_of}
use Rattle.disk_model.specs.Sizes.{greatest_epoch}
use Rattle.git_objects.specs.declared.entry_kind.EntryKind.{EntryKind}
use Rattle.git_objects.specs.declared.entry_kind.EntryKind.TheVariants.{Message, Deletion}
use Rattle.arch_model.specs.Archives.{Entry, Archive, live, text_of}

-- An entry keeps a storage text in one of the 64 epochs, at a moment from 1970 to 9999.
pub record IsEntry (e : Entry) : Type 0 where
  pub text : IsStorageText e.text
  pub epoch : e.epoch ≤ greatest_epoch
  pub moment : e.moment ≤ last_moment

-- If the entry is a message, its number is at least this one. Of a deletion, which has the number of
-- a message before it, nothing is asked.
abbrev pub NumberIsFrom : EntryKind → ℕ → ℕ → Type 0
NumberIsFrom Message number own = number ≤ own
NumberIsFrom Deletion number own = Unit {0}

-- The least number of a message after an entry with a number.
abbrev pub number_after : EntryKind → ℕ → ℕ → ℕ
number_after Message number own = own + 1
number_after Deletion number own = number

-- Numbers rise from one message to the next, and epochs never fall, from these on
-- (public-inbox-v2-format, "GIT EPOCHS").
abbrev pub Rise : ℕ → ℕ → List Entry → Type 0
Rise number epoch [] = Unit {0}
Rise number epoch (e ∷ es) = NumberIsFrom e.kind number e.number × (epoch ≤ e.epoch)
    × Rise (number_after e.kind number e.number) e.epoch es

-- Each entry, with those before it, has a property.
abbrev pub AtEachPlace : (List Entry → Entry → Type 0) → List Entry → List Entry → Type 0
AtEachPlace P before [] = Unit {0}
AtEachPlace P before (e ∷ es) = P before e × AtEachPlace P (before ++ e ∷ []) es

-- A deletion has the number and the text of a message that is live just before it.
abbrev pub EndsLive : EntryKind → List Entry → Entry → Type 0
EndsLive Message before e = Unit {0}
EndsLive Deletion before e = text_of (live before) e.number ≡ Some e.text

-- No two of these entries have the same own id (RFC 5322, section 3.6.4).
abbrev pub IdsDiffer : List Entry → Type 0
IdsDiffer [] = Unit {0}
IdsDiffer (e ∷ es) = AllByRecursion (λ (f : Entry). own_id f.text ≢ own_id e.text) es × IdsDiffer es

-- Entries with the same blob id of a form have the same text.
abbrev pub BlobsAgree : Form → List Entry → Type 0
BlobsAgree form [] = Unit {0}
BlobsAgree form (e ∷ es) = AllByRecursion (λ (f : Entry). blob_id_of form f.text ≡ blob_id_of form e.text
    → f.text ≡ e.text) es × BlobsAgree form es

-- The ids of the entries that are live after an entry differ.
abbrev pub LiveDiffer : List Entry → Entry → Type 0
LiveDiffer before e = IdsDiffer (live (before ++ e ∷ []))

-- The archive is valid: its settings are in their ranges, its entries are in order, the numbers of
-- messages are at least 1 and below the next one, each deletion ends a live message, the own ids of
-- live messages differ at each place, and each blob id of its form has one text.
pub record IsArchive (a : Archive) : Type 0 where
  pub name : IsArchiveName a.config.name
  pub config : IsConfig a.config
  pub next_least : 1 ≤ a.next
  pub next_most : a.next ≤ 2147483648
  pub entries : AllByRecursion IsEntry a.entries
  pub below : AllByRecursion (λ (e : Entry). e.number < a.next) a.entries
  pub order : Rise 1 0 a.entries
  pub ends : AtEachPlace (λ (before : List Entry) (e : Entry). EndsLive e.kind before e) [] a.entries
  pub ids : AtEachPlace LiveDiffer [] a.entries
  pub blobs : BlobsAgree a.config.form a.entries
