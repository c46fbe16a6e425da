-- Lemmas for proofs: the lengths of records.
use Rattle.std.specs.Prelude.{◌≡◌, ◌+◌, ◌*◌, ◌<◌, ◌≤◌, ◌^◌, ℕ, suc, List, [], ◌∷◌, ◌++◌, length, refl}
use Rattle.std.specs.List.{flat_map}
use Rattle.std.proofs.Common.{inl, inr, arith, length-append, sym}
use Rattle.arch_base.specs.declared.ids.Form.{Form}
use Rattle.arch_base.specs.declared.ids.Form.TheVariants.{Sha1, Sha256}
use Rattle.arch_base.specs.Ids.{id_size, id_bytes}
use Rattle.disk_model.specs.BigEndian.{be32, be32_length}
use Rattle.disk_model.specs.Sizes.{record_size}
use Rattle.number_map.specs.declared.line.Record.{Record}
use Rattle.number_map.specs.Records.{record_bytes, IsRecord, AreRecordsFrom, no_epoch, zero_id}
use Rattle.number_map.specs.Rewriting.{none_record}

-- The size of a record is that of an id and of two numbers.
pub size_is : (form : Form) → record_size form ≡ id_size form + 8
size_is Sha1 = omega arith
size_is Sha256 = omega arith

-- A record has 28 bytes at least.
pub size_least : (form : Form) → 28 ≤ record_size form
size_least Sha1 = omega arith
size_least Sha256 = omega arith

-- No records have no bytes.
pub sizes_none : (form : Form) → record_size form * 0 ≡ 0
sizes_none Sha1 = omega arith
sizes_none Sha256 = omega arith

-- One record has the size of one.
pub sizes_one : (form : Form) → record_size form * 1 ≡ record_size form
sizes_one Sha1 = omega arith
sizes_one Sha256 = omega arith

-- A record has 40 bytes at most.
pub sizes_most : (form : Form) (n : ℕ) → record_size form * n ≤ 40 * n
sizes_most Sha1 n = omega arith
sizes_most Sha256 n = omega arith

-- The sizes of records, and of more records.
pub sizes_sum : (form : Form) (a b c : ℕ) → a + b ≡ c
    → record_size form * a + record_size form * b ≡ record_size form * c
sizes_sum Sha1 a b c is = omega (arith, is)
sizes_sum Sha256 a b c is = omega (arith, is)

-- The id of zeros has as many bytes as ids of its form.
pub zero_length : (form : Form) → length (id_bytes (zero_id form)) ≡ id_size form
zero_length Sha1 = refl
zero_length Sha256 = refl

module _ (form : Form) where
  -- A record has the size of its form.
  pub record_length : (line : Record) → length (id_bytes line.blob) ≡ id_size form
      → length (record_bytes line) ≡ record_size form
  unfolding record_bytes
  record_length line size =
      let front : List ℕ = be32 line.number ++ be32 line.epoch in
      omega (
        arith,
        size,
        size_is form,
        length-append front (id_bytes line.blob),
        length-append (be32 line.number)
            (be32 line.epoch),
        be32_length line.number,
        be32_length line.epoch,
      )

  -- Each record of a list has that size.
  pub records_length : (n : ℕ) (lines : List Record) → AreRecordsFrom form n lines
      → length (flat_map record_bytes lines) ≡ record_size form * length lines
  records_length n [] valid = sym (sizes_none form)
  records_length n (line ∷ lines) valid =
      let id = valid.0.blob in
      omega (
        arith,
        length-append (record_bytes line) (flat_map record_bytes lines),
        record_length
            line id.len,
        records_length (n + 1) lines valid.1,
        sizes_one form,
        sizes_sum form 1 (length lines) (suc (length lines)) (omega arith),
      )

  -- The record of a number without a message has that size.
  pub none_long : (n : ℕ) → length (record_bytes (none_record form n)) ≡ record_size form
  none_long n = record_length (none_record form n) (zero_length form)

  -- An epoch fits its field.
  pub epoch_fits : (n : ℕ) (line : Record) → IsRecord form n line → line.epoch < 2 ^ 32
  epoch_fits n line valid = elim valid.message [
    | inl low ↦ omega (arith, low)
    | inr none
        ↦ (let is : line.epoch ≡ no_epoch = none.0 in omega (arith, is))
  ]
