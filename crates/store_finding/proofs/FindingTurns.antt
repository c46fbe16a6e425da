-- The turns of reading an archive's files.
use Rattle.std.specs.Prelude.{◌≡◌, List, [], Result, Ok, Err, refl}
use Rattle.std.proofs.Common.{inl, inr, arith}
use Rattle.disk_model.specs.Disk.{Files}
use Rattle.arch_model.specs.declared.opening.OpenRefusal.{OpenRefusal}
use Rattle.arch_model.specs.declared.opening.OpenRefusal.TheVariants.{NoArchive, Damaged, DiskFault, NoMemory}
use Rattle.number_map.specs.declared.line.Record.{Record}
use Rattle.root_slots.specs.declared.root.Root.{Root}
use Rattle.root_slots.specs.declared.slot.Slot.{Slot}
use Rattle.root_slots.specs.Slots.{slot_number}
use Rattle.root_slots.specs.Valid.{RootFits}
use Rattle.store_finding.specs.declared.entries.StoredEntry.{StoredEntry}
use Rattle.store_finding.specs.Damage.{messages}
use Rattle.store_finding.specs.Joined.{JoinedEntries}
use Rattle.store_finding.specs.Openings.{IsReadUpTo}
use Rattle.store_finding.specs.Finding.{HasRecords, FindsStore, FindsRoot, FindsRecords, FindsEntries, KeepsBy}

-- Nothing is read yet.
pub begun : (root : Root) (files : Files) (rs : List Record) (v : JoinedEntries) → HasRecords root files rs → v.records ≡ messages rs → v.entries ≡ [] → IsReadUpTo root files rs 0 v
begun root files rs v has records entries = record {
  entries = [];
  after = messages rs;
  holds = record { numbered = has.begins.valid; records = records; entries_are = entries; first = record { valid = tt; order = tt; ends = tt; ids = tt; blobs = tt; records = refl } };
  whole = record { below = tt; lengths = λ e less. absurd (omega (arith, less)); fronts = λ e less. absurd (omega (arith, less)) };
}

-- What is found of map and epochs.
pub entries_found : (root : Root) (rs : List Record) (result : Result (List StoredEntry) OpenRefusal) (files : Files) → RootFits root → FindsRecords root files (Ok rs) → KeepsBy root rs result files → FindsEntries root files result
entries_found root rs (Ok kept) files fits has keeps = record { records = rs; has = has; read = keeps fits has }
entries_found root rs (Err NoArchive) files fits has keeps = keeps fits has
entries_found root rs (Err (Damaged file at)) files fits has keeps = inr (record { records = rs; has = has; damage = keeps fits has })
entries_found root rs (Err DiskFault) files fits has keeps = tt
entries_found root rs (Err NoMemory) files fits has keeps = tt

-- What is found of all files.
pub damage_found : (files : Files) (slot : Slot) (root : Root) (refusal : OpenRefusal) → FindsRoot files (Ok (slot, root)) → FindsEntries root files (Err refusal) → FindsStore files (Err refusal)
damage_found files slot root NoArchive is lacks = absurd lacks
damage_found files slot root (Damaged file at) is (inl map) = inr (inl (record { root = root; slot = slot_number slot; current = is; file_is = map.0; damaged = map.1 }))
damage_found files slot root (Damaged file at) is (inr lacks) = inr (inr (record { root = root; slot = slot_number slot; records = lacks.records; epoch = lacks.damage.0; current = is; has = lacks.has; file_is = lacks.damage.1; first = lacks.damage.2 }))
damage_found files slot root DiskFault is lacks = tt
damage_found files slot root NoMemory is lacks = tt

pub no_root : (files : Files) (refusal : OpenRefusal) → FindsRoot files (Err refusal) → FindsStore files (Err refusal)
no_root files NoArchive lacks = lacks
no_root files (Damaged file at) lacks = inl lacks
no_root files DiskFault lacks = tt
no_root files NoMemory lacks = tt
