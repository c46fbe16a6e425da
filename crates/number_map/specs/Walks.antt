-- The results of reading a map.
use Rattle.std.specs.Prelude.{◌≡◌, ◌≢◌, ◌+◌, ◌*◌, ◌<◌, ℕ, Result, Ok, Err, List, length, take, drop}
use Rattle.std.specs.List.{flat_map}
use Rattle.arch_base.specs.declared.ids.Form.{Form}
use Rattle.disk_model.specs.declared.refusal.WalkRefusal.{WalkRefusal}
use Rattle.disk_model.specs.declared.refusal.WalkRefusal.TheVariants.{Damaged}
use Rattle.disk_model.specs.Sizes.{record_size}
use Rattle.number_map.specs.declared.line.Record.{Record}
use Rattle.number_map.specs.Records.{record_bytes, IsRecord, AreRecordsFrom}

module _ (form : Form) where
  -- A map starts with these records, of the numbers from 1 on.
  pub record BeginsWithRecords (lines : List Record) (bytes : List ℕ) : Type 0 where
    pub valid : AreRecordsFrom form 1 lines
    pub spelled : take (record_size form * length lines) bytes ≡ flat_map record_bytes lines

  -- A map has no valid record of some number up to the last one asked for. The offset is that of the
  -- first such number, whose record isn't whole or isn't one of that number.
  pub record LacksRecord (count at : ℕ) (bytes : List ℕ) : Type 0 where
    pub before : List Record
    pub begins : BeginsWithRecords before bytes
    pub fewer : length before < count
    pub offset : at ≡ record_size form * length before
    pub none : (line : Record) → IsRecord form (length before + 1) line
        → take (record_size form) (drop at bytes) ≢ record_bytes line

  -- The results of reading a map with these bytes up to a number.
  abbrev pub WalksMap : ℕ → List ℕ → Result (List Record) WalkRefusal → Type 0
  WalksMap count bytes (Ok lines) = (length lines ≡ count) × BeginsWithRecords lines bytes
  WalksMap count bytes (Err (Damaged at)) = LacksRecord count at bytes
  WalksMap count bytes (Err _) = Unit {0}
