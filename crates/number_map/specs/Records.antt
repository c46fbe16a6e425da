-- Records of numbers, which of them are valid, and their bytes.
use Rattle.std.specs.Prelude.{◌≡◌, ◌⊎◌, ◌+◌, ◌≤◌, ℕ, List, [], ◌∷◌, ◌++◌, replicate}
use Rattle.arch_base.specs.declared.ids.Form.{Form}
use Rattle.arch_base.specs.declared.ids.ObjectId.{ObjectId}
use Rattle.arch_base.specs.Ids.{form_of, id_size, id_bytes, id_with, IsObjectId}
use Rattle.disk_model.specs.BigEndian.{be32}
use Rattle.disk_model.specs.Sizes.{greatest_epoch, record_size}
use Rattle.number_map.specs.declared.line.Record.{Record}

-- The number, the epoch, and the id of the blob: 28 or 40 bytes, by the form of that id, numbers with
-- the highest byte first.
unfoldable pub record_bytes : Record → List ℕ
record_bytes line = be32 line.number ++ be32 line.epoch ++ id_bytes line.blob

-- The size of a record, by the form of its id: 28 or 40.
abbrev pub size_of_line : Record → ℕ
size_of_line line = record_size (form_of line.blob)

-- The number's message is in an epoch, one of 0 to 63.
abbrev pub RecordHasMessage : Record → Type 0
RecordHasMessage line = line.epoch ≤ greatest_epoch

-- The epoch in the record of a number without a message.
abbrev pub no_epoch : ℕ
no_epoch = 4294967295

module _ (form : Form) where
  -- The blob id in the record of a number without a message: zeros.
  abbrev pub zero_id : ObjectId
  zero_id = id_with form (replicate (id_size form) 0)

  -- The number has no message.
  abbrev pub RecordHasNone : Record → Type 0
  RecordHasNone line = (line.epoch ≡ no_epoch) × (line.blob ≡ zero_id)

  -- The valid records of a number, with a message or without one.
  pub record IsRecord (n : ℕ) (line : Record) : Type 0 where
    pub number : line.number ≡ n
    pub blob : IsObjectId form line.blob
    pub message : RecordHasMessage line ⊎ RecordHasNone line

  -- Valid records of the numbers from this one on, in order.
  abbrev pub AreRecordsFrom : ℕ → List Record → Type 0
  AreRecordsFrom n [] = Unit {0}
  AreRecordsFrom n (line ∷ lines) = IsRecord n line × AreRecordsFrom (n + 1) lines
