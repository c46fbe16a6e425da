-- Records and their bytes, written and read.
use Rattle.std.specs.Prelude.{◌≡◌, ◌⊎◌, ◌<◌, ◌≤◌, ◌^◌, ◌+◌, ◌-◌, ℕ, List, [], ◌++◌, length, take, drop, refl}
use Rattle.std.proofs.Common.{◌∙◌, sym, ap, subst, arith, append_assoc, length-append, length-take}
use Rattle.std.proofs.lemmas.List.{take-append-drop}
use Rattle.std.proofs.lemmas.Slice.{take-put_mid}
use borrow.Rule.Slice.PartMut.{put_mid}
use Rattle.arch_base.specs.declared.ids.Form.{Form}
use Rattle.arch_base.specs.declared.ids.ObjectId.{ObjectId}
use Rattle.arch_base.specs.Ids.{id_bytes, IsObjectId}
use Rattle.disk_model.specs.BigEndian.{be32, be32_length, front_is}
use Rattle.disk_model.specs.Sizes.{record_size}
use Rattle.number_map.specs.declared.line.Record.{Record}
use Rattle.number_map.specs.Records.{record_bytes, RecordHasMessage, RecordHasNone, IsRecord}
use Rattle.number_map.specs.Sizes.{record_length, epoch_fits}
use Rattle.number_map.proofs.Apart.{record_is, same_front}

-- Three parts written over zeros, up to the end of the last one.
pub spelled_is : (line : Record) (a b given c zeros : List ℕ) → a ≡ be32 line.number → b ≡ be32 line.epoch → given ≡ id_bytes line.blob → c ≡ given → length zeros ≡ 36 → take (8 + length given) (put_mid 8 (8 + length given - 8) (put_mid 4 4 (a ++ zeros) b) c) ≡ record_bytes line
unfolding record_bytes
spelled_is line a b given c zeros isa isb isgiven isc size =
    let sa : length a ≡ 4 = ap (λ (l : List ℕ). length l) isa ∙ be32_length line.number in
    let sb : length b ≡ 4 = ap (λ (l : List ℕ). length l) isb ∙ be32_length line.epoch in
    let xs = a ++ zeros in
    let long : length xs ≡ 40 = omega (arith, sa, size, length-append a zeros) in
    let mid = put_mid 4 4 xs b in
    let front : take 8 mid ≡ a ++ b = take-put_mid 4 4 xs b 8 (omega (arith, sb)) (omega (arith, long)) ∙ ap (λ (l : List ℕ). l ++ b) (front_is 4 xs a zeros sa refl) in
    let after = drop (8 + length given - 8) (drop 8 mid) in
    let whole : length (take 8 mid ++ c) ≡ 8 + length given = omega (arith, sa, sb, length-append (take 8 mid) c, length-append a b, ap (λ (l : List ℕ). length l) front, ap (λ (l : List ℕ). length l) isc) in
    front_is (8 + length given) (take 8 mid ++ (c ++ after)) (take 8 mid ++ c) after whole (sym (append_assoc (take 8 mid) c after)) ∙ (ap (λ (l : List ℕ). l ++ c) front ∙ (λ i. isa i ++ isb i ++ (isc ∙ isgiven) i))

-- Three parts, one after the other.
pub parts_are : (number epoch : ℕ) (blob : ObjectId) (bytes : List ℕ) → be32 number ≡ take 4 bytes → be32 epoch ≡ take 4 (drop 4 bytes) → id_bytes blob ≡ drop 4 (drop 4 bytes) → record_bytes (record { number = number; epoch = epoch; blob = blob }) ≡ bytes
unfolding record_bytes
parts_are number epoch blob bytes a b c =
    let rest = drop 4 bytes in
    (λ i. a i ++ b i ++ c i) ∙ (append_assoc (take 4 bytes) (take 4 rest) (drop 4 rest) ∙ (ap (λ (l : List ℕ). take 4 bytes ++ l) (take-append-drop 4 rest) ∙ take-append-drop 4 bytes))

module _ (form : Form) where
  -- A record at the front is whole.
  pub whole_bytes : (n : ℕ) (bytes : List ℕ) (line : Record) → IsRecord form n line → take (record_size form) bytes ≡ record_bytes line → record_size form ≤ length bytes
  whole_bytes n bytes line valid is =
      let id = valid.blob in
      omega (arith, length-take (record_size form) bytes, ap (λ (l : List ℕ). length l) is, record_length form line id.len)

  -- Too few bytes have no record.
  pub none_short : (bytes : List ℕ) (line : Record) (n : ℕ) → length bytes < record_size form → IsRecord form n line → take (record_size form) bytes ≡ record_bytes line → ⊥
  none_short bytes line n short valid is = omega (arith, short, whole_bytes n bytes line valid is)

  -- The record that was read is the one at the front.
  pub read_is : (n : ℕ) (x line : Record) (bytes : List ℕ) → n < 2 ^ 32 → x.number < 2 ^ 32 → x.epoch < 2 ^ 32 → IsObjectId form x.blob → record_bytes x ≡ bytes → IsRecord form n line → bytes ≡ record_bytes line → x ≡ line
  read_is n x line bytes fits number epoch id read valid is =
      let other = valid.blob in
      let both = same_front form x line [] [] id other epoch (epoch_fits form n line valid) (ap (λ (l : List ℕ). l ++ []) (read ∙ is)) in
      record_is x line (both.number number (subst (λ (k : ℕ). k < 2 ^ 32) (sym valid.number) fits)) both.epoch both.blob

  -- The record at the front has another number.
  pub none_other : (n : ℕ) (x line : Record) (bytes : List ℕ) → n < 2 ^ 32 → x.number < 2 ^ 32 → x.epoch < 2 ^ 32 → IsObjectId form x.blob → record_bytes x ≡ bytes → (x.number ≡ n → ⊥) → IsRecord form n line → bytes ≡ record_bytes line → ⊥
  none_other n x line bytes fits number epoch id read apart valid is =
      let same : x ≡ line = read_is n x line bytes fits number epoch id read valid is in
      apart (ap (λ (r : Record). r.number) same ∙ valid.number)

  -- The record at the front neither has a valid message nor lacks one.
  pub none_valid : (n : ℕ) (x line : Record) (bytes : List ℕ) → n < 2 ^ 32 → x.number < 2 ^ 32 → x.epoch < 2 ^ 32 → IsObjectId form x.blob → record_bytes x ≡ bytes → (RecordHasMessage x ⊎ RecordHasNone form x → ⊥) → IsRecord form n line → bytes ≡ record_bytes line → ⊥
  none_valid n x line bytes fits number epoch id read bad valid is =
      let same : x ≡ line = read_is n x line bytes fits number epoch id read valid is in
      bad (subst (λ (r : Record). RecordHasMessage r ⊎ RecordHasNone form r) (sym same) valid.message)
