-- The result of opening an archive: the entries of the archive that a root's files stand for, or
-- the first offset at which they stand for none.
use Rattle.std.specs.Prelude.{◌≡◌, ◌≢◌, ◌⊎◌, ◌+◌, ◌<◌, ℕ, nat_lt, Bool, List, [], ◌∷◌, ◌++◌, length, take, map, get_or, None}
use Rattle.std.specs.List.{AllByRecursion, filter}
use Rattle.arch_base.specs.declared.ids.Form.{Form}
use Rattle.disk_model.specs.Disk.{Files, bytes_of}
use Rattle.disk_model.specs.Sizes.{epoch_count}
use Rattle.git_objects.specs.Objects.{blob_id_of}
use Rattle.arch_model.specs.Archives.{Entry, in_epoch, messages as delivered}
use Rattle.mail_commits.specs.Entries.{magic}
use Rattle.arch_model.specs.Epochs.{epoch_bytes, entries_bytes, last_commit}
use Rattle.number_map.specs.declared.line.Record.{Record}
use Rattle.epoch_file.specs.Entries.{bytes_after}
use Rattle.epoch_file.specs.Walking.{LacksMagic}
use Rattle.root_slots.specs.declared.root.Root.{Root}
use Rattle.root_slots.specs.Valid.{no_place}
use Rattle.root_change.specs.Texts.{Fronts}
use Rattle.store_finding.specs.Files.{epoch_file_of}
use Rattle.arch_model.specs.Validity.{IsEntry, Rise, AtEachPlace, EndsLive, LiveDiffer, BlobsAgree}
use Rattle.store_finding.specs.Kept.{in_file}

-- Whether the number of a record has a message.
abbrev pub has_message : Record → Bool
has_message r = nat_lt r.epoch epoch_count

-- The records of the numbers that have a message, in order.
abbrev pub messages : List Record → List Record
messages rs = filter has_message rs

-- The record of an entry, whose blob id has a form.
abbrev pub record_of : Form → Entry → Record
record_of form e = record { number = e.number; epoch = e.epoch; blob = blob_id_of form e.text }

-- These may be an archive's entries: numbers rise, each deletion ends a live message, the ids of live
-- messages differ at each place, and each blob id of a form has one text. The records of their
-- messages in the form are the first of a map's that have a message, followed by the others.
pub record AreFirst (form : Form) (rs after : List Record) (entries : List Entry) : Type 0 where
  pub valid : AllByRecursion IsEntry entries
  pub order : Rise 1 0 entries
  pub ends : AtEachPlace (λ (before : List Entry) (e : Entry). EndsLive e.kind before e) [] entries
  pub ids : AtEachPlace LiveDiffer [] entries
  pub blobs : BlobsAgree form entries
  pub records : messages rs ≡ map (record_of form) (delivered entries) ++ after

-- The length of an epoch that a root names.
abbrev pub named_length : Root → ℕ → ℕ
named_length root e = (get_or root.epochs e no_place).length

-- The bytes of an epoch's file, as many as the root names or as there are.
abbrev pub named_bytes : Root → Files → ℕ → List ℕ
named_bytes root files e = take (named_length root e) (bytes_of (files (epoch_file_of root e)))

-- Each epoch below one has exactly the bytes of these entries that are in it, in the form of the
-- root's settings and with the length that the root names.
pub record AreWhole (root : Root) (files : Files) (epoch : ℕ) (entries : List Entry) : Type 0 where
  pub below : AllByRecursion (λ (e : Entry). e.epoch < epoch) entries
  pub lengths : (e : ℕ) → e < epoch
      → named_length root e ≡ length (epoch_bytes root.config.form (in_epoch entries e))
  pub fronts : (e : ℕ) → e < epoch
      → Fronts (epoch_bytes root.config.form (in_epoch entries e)) (files (epoch_file_of root e))

-- The files of all epochs are those of these entries, and they have all records of the map that
-- have a message.
pub record AreOpened (root : Root) (files : Files) (rs : List Record) (entries : List Entry)
    : Type 0 where
  pub first : AreFirst root.config.form rs [] entries
  pub whole : AreWhole root files epoch_count entries

-- The epochs below this one are whole, and have the first entries of the map. This one doesn't
-- start with the magic.
pub record LacksFront (root : Root) (files : Files) (rs : List Record) (epoch offset : ℕ)
    : Type 0 where
  pub before : List Entry
  pub after : List Record
  pub first : AreFirst root.config.form rs after before
  pub whole : AreWhole root files epoch before
  pub some : 0 < named_length root epoch
  pub lacks : LacksMagic root.config.form (named_length root epoch)
      (bytes_of (files (epoch_file_of root epoch)))
  pub offset_is : offset ≡ 0

-- The epochs below this one are whole. This one starts with the magic and some entries, and all of
-- these are the first of the map. There is no next one at the offset after them, although there is
-- none yet or the epoch goes on.
pub record LacksNext (root : Root) (files : Files) (rs : List Record) (epoch offset : ℕ)
    : Type 0 where
  pub before : List Entry
  pub here : List Entry
  pub after : List Record
  pub rest : List ℕ
  pub first : AreFirst root.config.form rs after (before ++ here)
  pub whole : AreWhole root files epoch before
  pub stand : AllByRecursion (λ (e : Entry). e.epoch ≡ epoch) here
  pub spelled : named_bytes root files epoch
      ≡ (magic root.config.form ++ entries_bytes root.config.form None here) ++ rest
  pub offset_is : offset ≡ 8 + length (entries_bytes root.config.form None here)
  pub wanted : (here ≡ []) ⊎ (offset < named_length root epoch)
  pub lacks : (next : Entry) (others : List Record) (more : List ℕ) → next.epoch ≡ epoch
      → AreFirst root.config.form rs others ((before ++ here) ++ next ∷ [])
      → rest ≢ bytes_after root.config.form (last_commit root.config.form None here) (in_file next) ++ more

-- All epochs are whole, and have the first entries of the map. The map has one more record, whose
-- message should be in this epoch, after its end.
pub record LacksLast (root : Root) (files : Files) (rs : List Record) (epoch offset : ℕ)
    : Type 0 where
  pub before : List Entry
  pub next : Record
  pub after : List Record
  pub first : AreFirst root.config.form rs (next ∷ after) before
  pub whole : AreWhole root files epoch_count before
  pub stands : epoch ≡ next.epoch
  pub offset_is : offset ≡ named_length root epoch

-- An epoch is the first one that is damaged, at this offset: 0, or that of the first entry that
-- isn't there or can't be the next one: a message that the map doesn't have next, or whose own id is
-- live, a deletion of what isn't live, or another text of an older blob id. If all epochs are whole,
-- it is the end of the one that should have the map's next message.
abbrev pub IsFirstDamage : Root → Files → List Record → ℕ → ℕ → Type 0
IsFirstDamage root files rs epoch offset =
    ((epoch < epoch_count) × LacksFront root files rs epoch offset) ⊎ (((epoch < epoch_count)
    × LacksNext root files rs epoch offset) ⊎ LacksLast root files rs epoch offset)
