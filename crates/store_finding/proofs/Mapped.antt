-- The records of an archive are valid, and fill their map.
use Rattle.std.specs.Prelude.{◌≡◌, ◌+◌, ◌-◌, ◌*◌, ◌<◌, ◌^◌, ◌==◌, ℕ, zero, suc, Bool, true, false, List, [], ◌∷◌, length, replicate, slice_index, Option, Some, None, if◌then◌else◌, unwrap_or, refl}
use Rattle.std.specs.List.{AllByRecursion}
use Rattle.std.proofs.Common.{◌∙◌, ap, subst, inl, inr, arith}
use Rattle.arch_base.specs.Ids.{IsObjectId}
use Rattle.arch_base.specs.declared.ids.Form.{Form}
use Rattle.arch_base.specs.declared.ids.Form.TheVariants.{Sha1, Sha256}
use Rattle.disk_model.specs.Sizes.{record_size}
use Rattle.git_objects.specs.Objects.{blob_spelling}
use Rattle.git_objects.proofs.ObjectIds.{IsObjectId-id_of}
use Rattle.arch_model.specs.Archives.{Entry, Archive, messages}
use Rattle.arch_model.proofs.LiveEntries.{messages-all}
use Rattle.number_map.specs.Records.{IsRecord, AreRecordsFrom, zero_id}
use Rattle.number_map.specs.Sizes.{records_length}
use Rattle.arch_model.specs.Validity.{IsEntry, IsArchive}
use Rattle.store_finding.specs.Recovery.{entry_of, record_for, records_from, records_of, map_bytes}

-- Zeros are an id of each form.
zeros_low : (n k : ℕ) → slice_index (replicate n 0) k < 2 ^ 8
zeros_low zero k = omega arith
zeros_low (suc n) zero = omega arith
zeros_low (suc n) (suc k) = zeros_low n k

zero_valid : (form : Form) → IsObjectId form (zero_id form)
zero_valid Sha1 = record { form_is = refl; len = refl; bytes = zeros_low 20 }
zero_valid Sha256 = record { form_is = refl; len = refl; bytes = zeros_low 32 }

-- What holds of both alternatives holds of the chosen one.
chosen : (P : Entry → Type 0) (f e : Entry) (b : Bool) (rest : Option Entry) → P f → (rest ≡ Some e → P e) → (if b then Some f else rest) ≡ Some e → P e
chosen P f e true rest one other is = subst P (ap (λ (o : Option Entry). unwrap_or o f) is) one
chosen P f e false rest one other is = other is

-- What holds of all entries holds of the entry of a number.
found_entry : (P : Entry → Type 0) (es : List Entry) (n : ℕ) → AllByRecursion P es → (e : Entry) → entry_of es n ≡ Some e → P e
found_entry P [] n all e is = let wrong : None ≡ Some e = is in cc
found_entry P (f ∷ es) n all e is = chosen P f e (f.number == n) (entry_of es n) all.0 (λ rest. found_entry P es n all.1 e rest) is

-- Each record is valid.
record_is_valid : (form : Form) (n : ℕ) (found : Option Entry) → ((e : Entry) → found ≡ Some e → IsEntry e) → IsRecord form n (record_for form n found)
record_is_valid form n None entry = record { number = refl; blob = zero_valid form; message = inr (refl, refl) }
record_is_valid form n (Some e) entry = record { number = refl; blob = IsObjectId-id_of form (blob_spelling e.text); message = inl ((entry e refl).epoch) }

pub records_are_valid : (form : Form) (es : List Entry) (n count : ℕ) → AllByRecursion IsEntry es → AreRecordsFrom form n (records_from form es n count)
records_are_valid form es n zero valid = tt
records_are_valid form es n (suc count) valid = (record_is_valid form n (entry_of es n) (found_entry IsEntry es n valid), records_are_valid form es (n + 1) count valid)

-- There is one record for each number.
pub records_count : (form : Form) (es : List Entry) (n count : ℕ) → length (records_from form es n count) ≡ count
records_count form es n zero = refl
records_count form es n (suc count) = let rest = records_count form es (n + 1) count in omega (arith, rest)

-- The records of an archive are valid, and as many as there are numbers below the next one.
pub records_valid : (a : Archive) → IsArchive a → AreRecordsFrom a.config.form 1 (records_of a)
records_valid a valid = records_are_valid a.config.form (messages a.entries) 1 (a.next - 1) (messages-all IsEntry a.entries valid.entries)

pub records_few : (a : Archive) → length (records_of a) ≡ a.next - 1
records_few a = records_count a.config.form (messages a.entries) 1 (a.next - 1)

-- The map has a record, of 28 or 40 bytes, for each number.
pub map_length : (a : Archive) → IsArchive a → length (map_bytes a) ≡ record_size a.config.form * (a.next - 1)
map_length a valid = records_length a.config.form 1 (records_of a) (records_valid a valid) ∙ ap (λ (n : ℕ). record_size a.config.form * n) (records_few a)
