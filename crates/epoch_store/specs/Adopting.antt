-- What is planned of an archive that a store becomes: which of its own entries stay, and which follow.
use Rattle.std.specs.Prelude.{◌≡◌, ◌⊎◌, ◌+◌, ◌<◌, ◌≤◌, ℕ, List, [], ◌∷◌, ◌++◌, length, slice_get, take, drop, Option, Some, None, Result, Ok, Err}
use Rattle.arch_base.specs.declared.ids.ObjectId.{ObjectId}
use Rattle.arch_base.specs.declared.ids.Form.{Form}
use Rattle.disk_model.specs.Disk.{Content, WhereTold}
use Rattle.git_objects.specs.Objects.{blob_id_of}
use Rattle.mail_reader.specs.Content.{content_id_of}
use Rattle.mail_reader.specs.Ids.{own_id}
use Rattle.arch_model.specs.Archives.{Entry, Archive}
use Rattle.arch_model.specs.Validity.{IsArchive}
use Rattle.arch_model.specs.declared.line.EntryLine.{EntryLine}
use Rattle.epoch_file.specs.Planning.{texts_in}
use Rattle.epoch_file.specs.declared.refusal.StoreRefusal.{StoreRefusal}
use Rattle.epoch_file.specs.declared.refusal.StoreRefusal.TheVariants.{Damaged}
use Rattle.store_finding.specs.declared.entries.StoredEntry.{StoredEntry}
use Rattle.store_finding.specs.Kept.{InEpochs, IsDiskWith, StoreState}
use Rattle.store_planning.specs.Epochs.{AreEpochsReady, PlansEpochs}
use Rattle.store_planning.specs.Planning.{ArePlansIn, IsKeptUpTo, IsTakenSo, Planning}

-- What an adoption holds: what is planned, and how many entries of the store were taken, which stay or
-- are left out.
pub record AdoptionState : Type 0 where
  pub planned : Planning
  pub taken : ℕ

-- The entry that a line of a list and its text stand for.
abbrev pub entry_of_line : EntryLine → List ℕ → Entry
entry_of_line line text = record {
  kind = line.kind;
  number = line.number;
  epoch = line.epoch;
  text = text;
  moment = line.secs;
}

-- An entry that is kept has the facts and the blob id of a line.
pub record IsOnLine (s : StoredEntry) (line : EntryLine) : Type 0 where
  pub kind : s.seen.kind ≡ line.kind
  pub number : s.number ≡ line.number
  pub epoch : s.epoch ≡ line.epoch
  pub moment : s.seen.moment ≡ line.secs
  pub blob : s.seen.blob ≡ line.blob

-- None of these entries is on a line, from one index up to another.
abbrev pub NoneOnLine : List StoredEntry → ℕ → ℕ → EntryLine → Type 0
NoneOnLine entries from to line = (i : ℕ) (s : StoredEntry) → from ≤ i → i < to
    → slice_get entries i ≡ Some s → IsOnLine s line → ⊥

-- Of these entries, from an index on, the first one that is on a line was taken, and those before it.
-- If none is on the line, all were taken.
abbrev pub TakesFirst : List StoredEntry → ℕ → EntryLine → Option ObjectId → ℕ → Type 0
TakesFirst entries from line None taken = (length entries ≤ taken)
    × NoneOnLine entries from (length entries) line
TakesFirst entries from line (Some commit) taken = (i : ℕ) × (s : StoredEntry) × (taken ≡ i + 1)
    × (slice_get entries i ≡ Some s) × IsOnLine s line × NoneOnLine entries from i line

-- An entry of an archive has the facts of a line, and its text has the line's blob id.
pub record IsOwnOnLine (a : Archive) (line : EntryLine) (e : Entry) : Type 0 where
  pub before : List Entry
  pub rest : List Entry
  pub is : a.entries ≡ before ++ e ∷ rest
  pub kind : e.kind ≡ line.kind
  pub number : e.number ≡ line.number
  pub epoch : e.epoch ≡ line.epoch
  pub moment : e.moment ≡ line.secs
  pub blob : blob_id_of a.config.form e.text ≡ line.blob

-- Own entries are taken: those before these are planned, and the others lie after them.
pub record IsKeeping (v : StoreState) (s : AdoptionState) : Type 0 where
  pub plans : ArePlansIn v.root s.planned
  pub taken : IsTakenSo v.root (drop s.taken v.entries) s.planned

-- All own entries were taken, and no epoch is current: new entries may follow.
pub record IsAdding (v : StoreState) (s : AdoptionState) : Type 0 where
  pub all : length v.entries ≤ s.taken
  pub none : s.planned.current ≡ None
  pub ready : AreEpochsReady v.root s.planned

-- An adoption is one of a store, whatever the disk holds.
pub record IsAdoptionOf (v : StoreState) (s : AdoptionState) : Type 0 where
  pub low : InEpochs s.planned.entries
  pub most : s.taken ≤ length v.entries
  pub way : IsKeeping v s ⊎ IsAdding v s

-- On the disk of an archive an adoption plans these entries: of those that were taken they stay, or all
-- were taken, and the epochs have just these.
abbrev pub PlansAdopted : StoreState → List ℕ → Archive → Content → List Entry → AdoptionState → Type 0
PlansAdopted v cache a k es s =
    IsKeptUpTo (texts_in k) v.root a (take s.taken a.entries) es s.planned
    ⊎ ((length v.entries ≤ s.taken) × (s.planned.current ≡ None)
    × PlansEpochs v.root cache a es s.planned)

-- On any archive's disk an adoption plans the same entries as another one.
abbrev pub PlansSame : StoreState → AdoptionState → AdoptionState → Type 0
PlansSame v old new = (k : Content) (cache : List ℕ) (a : Archive) (es : List Entry)
    → IsDiskWith v cache a k → PlansAdopted v cache a k es old → PlansAdopted v cache a k es new

-- The entries that an adoption plans after a line: one more, which is the archive's own and on the line,
-- or as before. Nothing is damaged.
abbrev pub GivesOwn : StoreState → List ℕ → Archive → Content → List Entry → EntryLine → AdoptionState
    → Result (Option ObjectId) StoreRefusal → Type 0
GivesOwn v cache a k es line new (Ok (Some commit)) = (e : Entry) × IsOwnOnLine a line e
    × PlansAdopted v cache a k (es ++ e ∷ []) new
GivesOwn v cache a k es line new (Ok None) = PlansAdopted v cache a k es new
GivesOwn v cache a k es line new (Err (Damaged file at)) = ⊥
GivesOwn v cache a k es line new (Err _) = Unit {0}

-- So it is on the disk of any archive, where it tells its content.
abbrev pub KeepsLine : StoreState → EntryLine → AdoptionState → AdoptionState
    → Result (Option ObjectId) StoreRefusal → Option Content → Type 0
KeepsLine v line old new result content = WhereTold (λ (k : Content). (cache : List ℕ) (a : Archive)
    (es : List Entry) → IsDiskWith v cache a k → PlansAdopted v cache a k es old
    → GivesOwn v cache a k es line new result) content

-- What is kept after a line: one entry more, on the line and with this commit, or as before.
abbrev pub IsKeptOn : EntryLine → Option ObjectId → List StoredEntry → List StoredEntry → Type 0
IsKeptOn line None old new = new ≡ old
IsKeptOn line (Some commit) old new = (s : StoredEntry) × IsOnLine s line × (s.seen.commit ≡ commit)
    × (new ≡ old ++ s ∷ [])

-- What is kept after a new entry: one more, with the facts of a line and the ids of a text in a form.
pub record AddsLine (form : Form) (line : EntryLine) (text : List ℕ) (old new : List StoredEntry) : Type 0
  where
    pub stored : StoredEntry
    pub entries : new ≡ old ++ stored ∷ []
    pub kind : stored.seen.kind ≡ line.kind
    pub number : stored.number ≡ line.number
    pub epoch : stored.epoch ≡ line.epoch
    pub moment : stored.seen.moment ≡ line.secs
    pub blob : stored.seen.blob ≡ blob_id_of form text
    pub id : own_id text ≡ Some stored.seen.id
    pub content : stored.seen.content ≡ content_id_of text

-- On any archive's disk an adoption plans one entry more: that of a line and a text.
abbrev pub PlansMore : StoreState → EntryLine → List ℕ → AdoptionState → AdoptionState → Type 0
PlansMore v line text old new = (k : Content) (cache : List ℕ) (a : Archive) (es : List Entry)
    → IsDiskWith v cache a k → PlansAdopted v cache a k es old
    → PlansAdopted v cache a k (es ++ entry_of_line line text ∷ []) new

-- The second archive has the settings of the first, this next number, and the entries that an adoption
-- plans on the disk of the first.
pub record Adopts (v : StoreState) (s : AdoptionState) (next : ℕ) (content : Option Content)
    (a b : Archive) : Type 0 where
  pub valid : IsArchive b
  pub config : b.config ≡ a.config
  pub next_is : b.next ≡ next
  pub planned : WhereTold (λ (k : Content). (cache : List ℕ) → IsDiskWith v cache a k
      → PlansAdopted v cache a k b.entries s) content
