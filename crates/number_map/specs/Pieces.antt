-- Private: reading a map piece by piece.
use Rattle.std.specs.Prelude.{◌≡◌, ◌≢◌, ◌⊎◌, ◌+◌, ◌*◌, ◌≤◌, ℕ, Result, Ok, Err, List, [], ◌∷◌, ◌++◌, length, take}
use Rattle.std.specs.List.{flat_map}
use Rattle.arch_base.specs.declared.ids.Form.{Form}
use Rattle.disk_model.specs.declared.refusal.WalkRefusal.{WalkRefusal}
use Rattle.disk_model.specs.declared.refusal.WalkRefusal.TheVariants.{DiskFault, Damaged, NoMemory}
use Rattle.disk_model.specs.Sizes.{record_size}
use Rattle.number_map.specs.declared.line.Record.{Record}
use Rattle.number_map.specs.Records.{record_bytes, IsRecord, AreRecordsFrom}
use Rattle.number_map.specs.Walks.{LacksRecord, BeginsWithRecords}

module _ (form : Form) where
  -- The record of the next number was appended to the others.
  pub record IsNextRecord (bytes : List ℕ) (old new : List Record) : Type 0 where
    pub line : Record
    pub valid : IsRecord form (length old + 1) line
    pub spelled : take (record_size form) bytes ≡ record_bytes line
    pub lines : new ≡ old ++ line ∷ []

  -- There is no record of the next number, and this is its offset.
  pub record IsLast (at : ℕ) (bytes : List ℕ) (old new : List Record) : Type 0 where
    pub offset : at ≡ record_size form * length old
    pub none : (line : Record) → IsRecord form (length old + 1) line
        → take (record_size form) bytes ≢ record_bytes line
    pub lines : new ≡ old

  -- The results of reading the next number.
  abbrev pub ReadsNext : {T : Type 0} → Result T WalkRefusal → List ℕ → List Record → List Record
      → Type 0
  ReadsNext (Ok _) bytes old new = IsNextRecord bytes old new
  ReadsNext (Err (Damaged at)) bytes old new = IsLast at bytes old new
  ReadsNext (Err DiskFault) bytes old new = ⊥
  ReadsNext (Err NoMemory) bytes old new = Unit {0}

  -- A map consists of these records, followed by these bytes.
  pub record RecordsStand (lines : List Record) (rest bytes : List ℕ) : Type 0 where
    pub valid : AreRecordsFrom form 1 lines
    pub spelled : bytes ≡ flat_map record_bytes lines ++ rest

  -- The piece has room for this many records, or nothing follows it.
  abbrev pub IsEnough : ℕ → List ℕ → List ℕ → Type 0
  IsEnough wanted bytes after = (record_size form * wanted ≤ length bytes) ⊎ (after ≡ [])

  -- The results of reading the records up to a number.
  abbrev pub ReadsRecords : {T : Type 0} → Result T WalkRefusal → ℕ → List ℕ → List Record → Type 0
  ReadsRecords (Ok _) count bytes new = (length new ≡ count) × BeginsWithRecords form new bytes
  ReadsRecords (Err (Damaged at)) count bytes new = LacksRecord form count at bytes
  ReadsRecords (Err _) count bytes new = Unit {0}
