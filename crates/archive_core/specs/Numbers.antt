-- The numbers of the entries that a store keeps.
use Rattle.std.specs.Prelude.{◌≡◌, ◌≢◌, ℕ, Bool, true, false, ◌==◌, List, slice_get, Option, Some, None, Result, Ok, Err}
use Rattle.std.specs.List.{list_any, Contains}
use Rattle.arch_model.specs.declared.text_refusal.TextRefusal.{TextRefusal}
use Rattle.arch_model.specs.declared.text_refusal.TextRefusal.TheVariants as reading
use Rattle.arch_base.specs.declared.ids.Form.{Form}
use Rattle.arch_base.specs.declared.ids.ObjectId.{ObjectId}
use Rattle.disk_model.specs.Disk.{Content, WhereTold}
use Rattle.arch_model.specs.Archives.{Entry, is_message}
use Rattle.arch_model.specs.Shelves.{blob_text}
use Rattle.epoch_store.specs.Reads.{GivesText, FindsText, text_if}
use Rattle.store_finding.specs.Kept.{StoreState}
use Rattle.epoch_store.specs.Commands.{live_kept}
use Rattle.store_finding.specs.declared.entries.StoredEntry.{StoredEntry}

-- Whether an entry has this number.
abbrev pub has_number : List StoredEntry → ℕ → Bool
has_number entries n = list_any (λ (e : StoredEntry). e.number == n) entries

-- Whether a live one of the entries has this number.
abbrev pub has_live : List StoredEntry → ℕ → Bool
has_live entries n = has_number (live_kept entries) n

-- The entry at this index is the message of this number, live or not.
pub record IsMessageAt (entries : List StoredEntry) (n index : ℕ) : Type 0 where
  pub entry : StoredEntry
  pub there : slice_get entries index ≡ Some entry
  pub number_is : entry.number ≡ n
  pub is_one : is_message entry.seen.kind ≡ true

-- The entry at this index is the live message of this number.
pub record IsLiveAt (entries : List StoredEntry) (n index : ℕ) : Type 0 where
  pub message : IsMessageAt entries n index
  pub is_live : Contains (live_kept entries) message.entry

-- The entry at this index has this blob id.
abbrev pub HasBlobAt : List StoredEntry → ObjectId → ℕ → Type 0
HasBlobAt entries id index = (e : StoredEntry) × (slice_get entries index ≡ Some e)
    × (e.seen.blob ≡ id)

-- The entry at this index has the text of a blob id of a form, or no entry has one.
abbrev pub IsBlobIndex : Form → List Entry → ObjectId → Option ℕ → Type 0
IsBlobIndex form entries blob None = blob_text form entries blob ≡ None
IsBlobIndex form entries blob (Some index) =
    blob_text form entries blob ≡ text_if (slice_get entries index)

-- If bytes with another id were found, the two ids differ.
abbrev pub TellsOther : {T : Type 0} → Result T TextRefusal → Type 0
TellsOther (Err (reading.Damaged named found)) = found ≢ named
TellsOther other = Unit {0}

-- If bytes with another id were found, this id is the one that is named.
abbrev pub NamesId : {T : Type 0} → ObjectId → Result T TextRefusal → Type 0
NamesId id (Err (reading.Damaged named found)) = named ≡ id
NamesId id other = Unit {0}

-- The results of reading the text of a kept entry that meets a condition: a text of its size and
-- blob id; or its blob id and the other one that was found. Where the disk tells its content, what was
-- found is what stands at the entry's place.
pub record GivesKept (meets : StoredEntry → Type 0) (v : StoreState) (content : Option Content)
    (old new : List ℕ) (result : Result Unit TextRefusal) : Type 0 where
  pub index : ℕ
  pub entry : StoredEntry
  pub at : slice_get v.entries index ≡ Some entry
  pub met : meets entry
  pub gives : GivesText entry old new result
  pub finds : WhereTold (FindsText v.root entry old new result) content

-- The same for the entry of a number.
abbrev pub GivesTextKept : StoreState → Option Content → ℕ → List ℕ → List ℕ → Result Unit TextRefusal
    → Type 0
GivesTextKept v content n old new result =
    GivesKept (λ (e : StoredEntry). e.number ≡ n) v content old new result

-- The same for an entry with a blob id, if there is one.
abbrev pub GivesBlobKept : StoreState → Option Content → ObjectId → List ℕ → List ℕ → Result Bool TextRefusal
    → Type 0
GivesBlobKept v content id old new (Ok true) =
    GivesKept (λ (e : StoredEntry). e.seen.blob ≡ id) v content old new (Ok tt)
GivesBlobKept v content id old new (Ok false) = new ≡ old
GivesBlobKept v content id old new (Err why) =
    GivesKept (λ (e : StoredEntry). e.seen.blob ≡ id) v content old new (Err why)
