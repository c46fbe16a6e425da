-- Private: what writing an entry appends to the files that a root names, and the root that names it
-- then.
use Rattle.std.specs.Prelude.{◌≡◌, ◌⊎◌, ◌+◌, ◌*◌, ℕ, List, [], ◌∷◌, ◌++◌, length, set, Some}
use Rattle.arch_base.specs.declared.ids.ObjectId.{ObjectId}
use Rattle.arch_model.specs.Archives.{Archive}
use Rattle.arch_model.specs.Delivery.{new_epoch}
use Rattle.arch_model.specs.Validity.{IsArchive}
use Rattle.disk_model.specs.Disk.{Files, Content}
use Rattle.disk_model.specs.Sizes.{record_size}
use Rattle.epoch_file.specs.declared.entry.NewEntry.{NewEntry}
use Rattle.epoch_file.specs.Appending.{appended}
use Rattle.git_objects.specs.Objects.{blob_id_of}
use Rattle.git_objects.specs.declared.entry_kind.EntryKind.{EntryKind}
use Rattle.git_objects.specs.declared.entry_kind.EntryKind.TheVariants.{Message, Deletion}
use Rattle.mail_reader.specs.Content.{content_id_of}
use Rattle.mail_reader.specs.Ids.{own_id}
use Rattle.number_map.specs.Records.{record_bytes}
use Rattle.root_slots.specs.declared.root.Root.{Root}
use Rattle.root_change.specs.Changing.{grown}
use Rattle.root_change.specs.Copying.{Added}
use Rattle.root_change.specs.Names.{epoch_name}
use Rattle.root_change.specs.Parts.{Parts, RecoversPartsBy}
use Rattle.store_planning.specs.declared.next.NextPlace.{NextPlace}
use Rattle.store_finding.specs.declared.entries.StoredEntry.{StoredEntry}
use Rattle.store_finding.specs.Files.{map_file_of}
use Rattle.store_finding.specs.Recovery.{map_bytes}
use Rattle.store_finding.specs.Kept.{StoreState}
use Rattle.epoch_store.specs.Commands.{next_sequence}

-- How many numbers an entry takes: a message the next one, a deletion none.
abbrev pub numbers_by : EntryKind → ℕ
numbers_by Message = 1
numbers_by Deletion = 0

-- The bytes that an entry appends to the map: the record of a message, none of a deletion.
abbrev pub line_by : EntryKind → ℕ → ℕ → ObjectId → List ℕ
line_by Message number epoch blob =
    record_bytes (record { number = number; epoch = epoch; blob = blob })
line_by Deletion number epoch blob = []

-- The same of a new entry, after the records of a root.
abbrev pub line_of : Root → NextPlace → NewEntry → List ℕ
line_of root p e = line_by e.kind root.next p.epoch (blob_id_of e.form e.text.now)

-- The root after an entry of a kind. The epoch's file ends here, and the map has one more record for
-- each number that was taken.
abbrev pub root_after : Root → EntryKind → NextPlace → ℕ → Root
root_after root kind p end_ = record {
  config = root.config;
  sequence = next_sequence root.sequence;
  next = root.next + numbers_by kind;
  map = record {
    generation = root.map.generation;
    length = root.map.length + record_size root.config.form * numbers_by kind;
  };
  epochs = set root.epochs p.epoch (record { generation = p.generation; length = end_ });
  cache = root.cache;
}

-- The root after a new entry.
abbrev pub root_with : Root → NextPlace → NewEntry → Root
root_with root p e = root_after root e.kind p (p.length + length (appended p.length e))

-- The parts after a new entry.
abbrev pub parts_with : Root → NextPlace → NewEntry → Parts → Parts
parts_with root p e parts = grown p.epoch (appended p.length e) (line_of root p e) parts

-- An entry was appended to the file of its epoch, and then its record to that of the map.
pub record Entered (root : Root) (p : NextPlace) (e : NewEntry) (old new : Content) : Type 0 where
  pub crash_between : Content
  pub entry : Added (appended p.length e) (epoch_name p.epoch p.generation) p.length old crash_between
  pub line : Added (line_of root p e) (map_file_of root) root.map.length crash_between new

-- Files stand for parts by a root, or for those with a new entry by the root after it.
abbrev pub RecoversEntered : Root → NextPlace → NewEntry → Parts → Files → Type 0
RecoversEntered root p e parts image = RecoversPartsBy root parts image
    ⊎ ((made : Root) × (made ≡ root_with root p e)
    × RecoversPartsBy made (parts_with root p e parts) image)

-- An archive with one more entry of a kind.
abbrev pub with_new : Archive → EntryKind → ℕ → ℕ → List ℕ → ℕ → Archive
with_new a kind number epoch text moment = record {
  config = a.config;
  entries = a.entries
      ++ record { kind = kind; number = number; epoch = epoch; text = text; moment = moment } ∷ [];
  next = a.next + numbers_by kind;
}

-- The second archive is the first with one more entry in the epoch of the next one.
pub record Enters (kind : EntryKind) (number : ℕ) (text : List ℕ) (arrived : ℕ) (a b : Archive)
    : Type 0 where
  pub valid : IsArchive b
  pub is : b ≡ with_new a kind number (new_epoch a) text arrived
  pub map_is : map_bytes b
      ≡ map_bytes a ++ line_by kind a.next (new_epoch a) (blob_id_of a.config.form text)

-- One more entry follows those that were kept: it has a kind, a number, and the ids of a text. The
-- settings stay.
pub record EntersEntry (kind_ : EntryKind) (number_ : ℕ) (text : List ℕ) (old new : StoreState)
    : Type 0 where
  pub entry : StoredEntry
  pub entries : new.entries ≡ old.entries ++ entry ∷ []
  pub kind : entry.seen.kind ≡ kind_
  pub number : entry.number ≡ number_
  pub id : own_id text ≡ Some entry.seen.id
  pub blob : entry.seen.blob ≡ blob_id_of old.root.config.form text
  pub content : entry.seen.content ≡ content_id_of text
  pub next : new.root.next ≡ old.root.next + numbers_by kind_
  pub config : new.root.config ≡ old.root.config
