-- Laws of records and of the results of reading a map.
use Rattle.std.specs.Prelude.{◌≡◌, ℕ, Ok, Err, List}
use Rattle.std.specs.List.{flat_map}
use Rattle.arch_base.specs.declared.ids.Form.{Form}
use Rattle.disk_model.specs.declared.refusal.WalkRefusal.TheVariants.{Damaged}
use Rattle.number_map.specs.declared.line.Record.{Record}
use Rattle.number_map.specs.Records.{record_bytes, AreRecordsFrom}
use Rattle.number_map.specs.Walks.{WalksMap}

-- Two lists of records with the same bytes are equal.
abbrev pub RecordsDiffer : Type 0
RecordsDiffer = (form : Form) (a b : List Record) → AreRecordsFrom form 1 a → AreRecordsFrom form 1 b
    → flat_map record_bytes a ≡ flat_map record_bytes b → a ≡ b

-- The records read up to a number are one list.
abbrev pub RecordsAreOne : Type 0
RecordsAreOne = (form : Form) (count : ℕ) (bytes : List ℕ) (a b : List Record)
    → WalksMap form count bytes (Ok a) → WalksMap form count bytes (Ok b) → a ≡ b

-- A map is damaged at one offset at most.
abbrev pub DamageIsOne : Type 0
DamageIsOne = (form : Form) (count : ℕ) (bytes : List ℕ) (a b : ℕ)
    → WalksMap form count bytes (Err (Damaged a)) → WalksMap form count bytes (Err (Damaged b)) → a ≡ b

-- A map whose records up to a number are read isn't damaged up to that number.
abbrev pub ReadOrDamaged : Type 0
ReadOrDamaged = (form : Form) (count : ℕ) (bytes : List ℕ) (lines : List Record) (at : ℕ)
    → WalksMap form count bytes (Ok lines) → WalksMap form count bytes (Err (Damaged at)) → ⊥
