-- Private: the records of a map by the entries that are kept, one after the other.
use Rattle.std.specs.Prelude.{◌≡◌, ◌+◌, ◌-◌, ◌*◌, ◌<◌, ◌≤◌, ℕ, List, [], ◌∷◌, ◌++◌, drop, length}
use Rattle.std.specs.List.{sum_by}
use Rattle.arch_base.specs.declared.ids.Form.{Form}
use Rattle.arch_base.specs.Ids.{form_of}
use Rattle.disk_model.specs.Sizes.{record_size}
use Rattle.git_objects.specs.declared.entry_kind.EntryKind.{EntryKind}
use Rattle.git_objects.specs.declared.entry_kind.EntryKind.TheVariants.{Message, Deletion}
use Rattle.number_map.specs.declared.line.Record.{Record}
use Rattle.number_map.specs.Records.{size_of_line}
use Rattle.arch_model.specs.Archives.{Entry, messages}
use Rattle.arch_model.specs.Validity.{Rise}
use Rattle.store_finding.specs.declared.entries.StoredEntry.{StoredEntry}
use Rattle.store_finding.specs.Recovery.{records_from}
use Rattle.store_finding.specs.Kept.{stored_after}

-- The record of a message that is kept.
abbrev pub record_of_kept : StoredEntry → Record
record_of_kept e = record { number = e.number; epoch = e.epoch; blob = e.seen.blob }

-- A message's record was added to those up to a number, after those of the numbers before its own.
pub record AddsRecord (form : Form) (next from : ℕ) (e : StoredEntry) (old new : List Record) (after : ℕ)
    : Type 0 where
  pub least : from ≤ e.number
  pub below : e.number < next
  pub form_is : form_of e.seen.blob ≡ form
  pub records : new ≡ old ++ (records_from form [] from (e.number - from) ++ record_of_kept e ∷ [])
  pub after_is : after ≡ e.number + 1

-- The same by what an entry is. A deletion has no record.
abbrev pub AddsByKind : EntryKind → Form → ℕ → ℕ → StoredEntry → List Record → List Record → ℕ → Type 0
AddsByKind Message form next from e old new after = AddsRecord form next from e old new after
AddsByKind Deletion form next from e old new after = (new ≡ old) × (after ≡ from)

-- The records up to a number are those of the first entries, and with those of the others they are all.
pub record AreRecordsTo (form : Form) (entries : List StoredEntry) (next : ℕ) (lines : List Record)
    (index number : ℕ) : Type 0 where
  pub least : 1 ≤ number
  pub most : number ≤ next
  pub size : sum_by size_of_line lines + record_size form ≡ record_size form * number
  pub records : (es : List Entry) → entries ≡ stored_after form [] es → Rise 1 0 es
      → lines ++ records_from form (messages (drop index es)) number (next - number)
      ≡ records_from form (messages es) 1 (next - 1)

-- They are those of all entries.
abbrev pub AreAllRecords : Form → List StoredEntry → ℕ → List Record → ℕ → Type 0
AreAllRecords form entries next lines number = (index : ℕ) × (length entries ≤ index)
    × AreRecordsTo form entries next lines index number
