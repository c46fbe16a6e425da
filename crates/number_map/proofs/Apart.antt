-- Records with the same bytes are equal, and reading a map has one result.
use Rattle.std.specs.Prelude.{◌≡◌, ◌+◌, ◌*◌, ◌<◌, ◌^◌, ℕ, Ok, Err, List, [], ◌∷◌, ◌++◌, length, take, drop, zero, suc, refl}
use Rattle.std.specs.List.{flat_map}
use Rattle.std.proofs.Common.{◌∙◌, sym, ap, subst, inl, inr, arith, append_assoc, length-append}
use Rattle.std.proofs.lemmas.Bool.{cases_lt}
use Rattle.std.proofs.lemmas.List.{take-append-drop}
use Rattle.std.proofs.Math.Seq.{drop-append-add}
use Rattle.arch_base.specs.declared.ids.Form.{Form}
use Rattle.arch_base.specs.Ids.{id_size, id_bytes, IsObjectId}
use Rattle.arch_base.proofs.SameIds.{id-once}
use Rattle.disk_model.specs.declared.refusal.WalkRefusal.TheVariants.{Damaged}
use Rattle.disk_model.specs.BigEndian.{be32, be32_length, front_is, rest_is, apart32}
use Rattle.disk_model.specs.Sizes.{record_size}
use Rattle.number_map.specs.declared.line.Record.{Record}
use Rattle.number_map.specs.Records.{record_bytes, IsRecord, AreRecordsFrom}
use Rattle.number_map.specs.Sizes.{record_length, epoch_fits, size_least, sizes_none, sizes_one, sizes_sum}
use Rattle.number_map.specs.Walks.{BeginsWithRecords, LacksRecord, WalksMap}

-- The three parts of a record, followed by the rest.
record_parts : (line : Record) (rest : List ℕ) → record_bytes line ++ rest ≡ be32 line.number ++ (be32 line.epoch ++ (id_bytes line.blob ++ rest))
unfolding record_bytes
record_parts line rest = append_assoc (be32 line.number ++ be32 line.epoch) (id_bytes line.blob) rest ∙ append_assoc (be32 line.number) (be32 line.epoch) (id_bytes line.blob ++ rest)

-- A record of three values.
pub record_is : (a b : Record) → a.number ≡ b.number → a.epoch ≡ b.epoch → a.blob ≡ b.blob → a ≡ b
record_is a b p q r = λ i. record { number = p i; epoch = q i; blob = r i }

-- What is equal if bytes that start with records are equal: all but the number, which may not fit
-- its field.
pub record SameFront (a b : Record) (x y : List ℕ) : Type 0 where
  pub number : a.number < 2 ^ 32 → b.number < 2 ^ 32 → a.number ≡ b.number
  pub epoch : a.epoch ≡ b.epoch
  pub blob : a.blob ≡ b.blob
  pub rest : x ≡ y

module _ (form : Form) where
  -- Bytes that start with records.
  pub same_front : (a b : Record) (x y : List ℕ) → IsObjectId form a.blob → IsObjectId form b.blob → a.epoch < 2 ^ 32 → b.epoch < 2 ^ 32 → record_bytes a ++ x ≡ record_bytes b ++ y → SameFront a b x y
  same_front a b x y ida idb fita fitb is =
      let left = be32 a.epoch ++ (id_bytes a.blob ++ x) in
      let right = be32 b.epoch ++ (id_bytes b.blob ++ y) in
      let whole : be32 a.number ++ left ≡ be32 b.number ++ right = sym (record_parts a x) ∙ (is ∙ record_parts b y) in
      let after : left ≡ right = sym (rest_is 4 (be32 a.number ++ left) (be32 a.number) left (be32_length a.number) refl) ∙ rest_is 4 (be32 a.number ++ left) (be32 b.number) right (be32_length b.number) whole in
      let epochs = apart32 a.epoch b.epoch (id_bytes a.blob ++ x) (id_bytes b.blob ++ y) fita fitb after in
      let bytes = id_bytes a.blob ++ x in
      record {
        number = λ m n. (apart32 a.number b.number left right m n whole).0;
        epoch = epochs.0;
        blob = id-once a.blob b.blob ida idb (sym (front_is (id_size form) bytes (id_bytes a.blob) x ida.len refl) ∙ front_is (id_size form) bytes (id_bytes b.blob) y idb.len epochs.1);
        rest = sym (rest_is (id_size form) bytes (id_bytes a.blob) x ida.len refl) ∙ rest_is (id_size form) bytes (id_bytes b.blob) y idb.len epochs.1;
      }

  -- Lists of records from one number on.
  same_lists : (n : ℕ) (a b : List Record) → AreRecordsFrom form n a → AreRecordsFrom form n b → flat_map record_bytes a ≡ flat_map record_bytes b → a ≡ b
  same_lists n [] [] va vb is = refl
  same_lists n [] (y ∷ ys) va vb is =
      let id = vb.0.blob in
      absurd (omega (arith, ap (λ (l : List ℕ). length l) is, length-append (record_bytes y) (flat_map record_bytes ys), record_length form y id.len, size_least form))
  same_lists n (x ∷ xs) [] va vb is =
      let id = va.0.blob in
      absurd (omega (arith, ap (λ (l : List ℕ). length l) is, length-append (record_bytes x) (flat_map record_bytes xs), record_length form x id.len, size_least form))
  same_lists n (x ∷ xs) (y ∷ ys) va vb is =
      let ida = va.0.blob in
      let idb = vb.0.blob in
      let both = same_front x y (flat_map record_bytes xs) (flat_map record_bytes ys) ida idb (epoch_fits form n x va.0) (epoch_fits form n y vb.0) is in
      let first : x ≡ y = record_is x y (va.0.number ∙ sym vb.0.number) both.epoch both.blob in
      let others : xs ≡ ys = same_lists (n + 1) xs ys va.1 vb.1 both.rest in
      λ i. first i ∷ others i

  -- Two lists of records with the same bytes are equal.
  pub records_differ : (a b : List Record) → AreRecordsFrom form 1 a → AreRecordsFrom form 1 b → flat_map record_bytes a ≡ flat_map record_bytes b → a ≡ b
  records_differ a b va vb is = same_lists 1 a b va vb is

  -- The records read up to a number are one list.
  pub records_are_one : (count : ℕ) (bytes : List ℕ) (a b : List Record) → WalksMap form count bytes (Ok a) → WalksMap form count bytes (Ok b) → a ≡ b
  records_are_one count bytes a b p q = records_differ a b p.1.valid q.1.valid (sym p.1.spelled ∙ (ap (λ (n : ℕ). take (record_size form * n) bytes) (p.0 ∙ sym q.0) ∙ q.1.spelled))

  -- Bytes that start with a record of this number.
  record HasRecord (n : ℕ) (bytes : List ℕ) : Type 0 where
    line : Record
    valid : IsRecord form n line
    is : take (record_size form) bytes ≡ record_bytes line

  -- A record among others.
  has_record : (n : ℕ) (lines : List Record) (rest bytes : List ℕ) (m : ℕ) → AreRecordsFrom form n lines → bytes ≡ flat_map record_bytes lines ++ rest → m < length lines → HasRecord (n + m) (drop (record_size form * m) bytes)
  has_record n [] rest bytes m valid is below = absurd (omega (arith, below))
  has_record n (x ∷ xs) rest bytes zero valid is below =
      let id = valid.0.blob in
      let split : bytes ≡ record_bytes x ++ (flat_map record_bytes xs ++ rest) = is ∙ append_assoc (record_bytes x) (flat_map record_bytes xs) rest in
      let number : n + 0 ≡ n = omega arith in
      record { line = x; valid = subst (λ (k : ℕ). IsRecord form k x) (sym number) valid.0; is = subst (λ (k : ℕ). take (record_size form) (drop k bytes) ≡ record_bytes x) (sym (sizes_none form)) (front_is (record_size form) bytes (record_bytes x) (flat_map record_bytes xs ++ rest) (record_length form x id.len) split) }
  has_record n (x ∷ xs) rest bytes (suc m) valid is below =
      let id = valid.0.blob in
      let after = flat_map record_bytes xs ++ rest in
      let split : bytes ≡ record_bytes x ++ after = is ∙ append_assoc (record_bytes x) (flat_map record_bytes xs) rest in
      let offset : record_size form * suc m ≡ length (record_bytes x) + record_size form * m = omega (arith, record_length form x id.len, sizes_one form, sizes_sum form 1 m (suc m) (omega arith)) in
      let further : drop (record_size form * suc m) bytes ≡ drop (record_size form * m) after = ap (λ (b : List ℕ). drop (record_size form * suc m) b) split ∙ (ap (λ (k : ℕ). drop k (record_bytes x ++ after)) offset ∙ drop-append-add (record_bytes x) after (record_size form * m)) in
      let other = has_record (n + 1) xs rest after m valid.1 refl (omega (arith, below)) in
      let number : n + 1 + m ≡ n + suc m = omega arith in
      record { line = other.line; valid = subst (λ (k : ℕ). IsRecord form k other.line) number other.valid; is = ap (λ (b : List ℕ). take (record_size form) b) further ∙ other.is }

  -- A map isn't damaged at a record that it has.
  no_damage : (lines : List Record) (bytes : List ℕ) (count at : ℕ) → BeginsWithRecords form lines bytes → (d : LacksRecord form count at bytes) → length d.before < length lines → ⊥
  no_damage lines bytes count at begins d below =
      let m = length d.before in
      let rest = drop (record_size form * length lines) bytes in
      let split : bytes ≡ flat_map record_bytes lines ++ rest = sym (take-append-drop (record_size form * length lines) bytes) ∙ ap (λ (l : List ℕ). l ++ rest) begins.spelled in
      let has = has_record 1 lines rest bytes m begins.valid split below in
      let number : 1 + m ≡ m + 1 = omega arith in
      d.none has.line (subst (λ (k : ℕ). IsRecord form k has.line) number has.valid) (ap (λ (k : ℕ). take (record_size form) (drop k bytes)) d.offset ∙ has.is)

  -- A map is damaged at one offset at most.
  pub damage_is_one : (count : ℕ) (bytes : List ℕ) (a b : ℕ) → WalksMap form count bytes (Err (Damaged a)) → WalksMap form count bytes (Err (Damaged b)) → a ≡ b
  damage_is_one count bytes a b p q =
      elim (cases_lt (length p.before) (length q.before)) [
        | inl low ↦ absurd (no_damage q.before bytes count a q.begins p low)
        | inr rest ↦ elim (cases_lt (length q.before) (length p.before)) [
          | inl low ↦ absurd (no_damage p.before bytes count b p.begins q low)
          | inr other ↦ (let same : length p.before ≡ length q.before = omega (arith, rest, other) in p.offset ∙ (ap (λ (n : ℕ). record_size form * n) same ∙ sym q.offset))
        ]
      ]

  -- A map whose records up to a number are read isn't damaged up to that number.
  pub read_or_damaged : (count : ℕ) (bytes : List ℕ) (lines : List Record) (at : ℕ) → WalksMap form count bytes (Ok lines) → WalksMap form count bytes (Err (Damaged at)) → ⊥
  read_or_damaged count bytes lines at p d = no_damage lines bytes count at p.1 d (omega (arith, p.0, d.fewer))
