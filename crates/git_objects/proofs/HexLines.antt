-- Ids in digits at the front of bytes.
use Rattle.std.proofs.Common.{◌≡◌, ◌≢◌, ◌/◌, ◌%◌, ◌<◌, ℕ, zero, suc, List, [], ◌∷◌, ◌++◌, get_or, Ok, sym, ap, subst, ◌∙◌, arith}
use Rattle.hex.specs.Hex.{encode_lower, encode_with, lower_digits, decode_sized}
use Rattle.hex.proofs.HexLemmas.{decode_sized-encode_lower}
use Rattle.arch_base.specs.declared.ids.Form.{Form}
use Rattle.arch_base.specs.declared.ids.ObjectId.{ObjectId}
use Rattle.arch_base.specs.Ids.{IsObjectId, id_bytes, id_size}
use Rattle.arch_base.proofs.SameIds.{id-once}
use Rattle.git_objects.specs.Fronts.{Lacks, Begins, NoByte}
use Rattle.git_objects.specs.Commits.{hex_part}
use Rattle.git_objects.proofs.Splitting.{NoByte-at, parted-once}

-- No index of a list without c has it.
NoByte-index : (c : ℕ) (table : List ℕ) (k : ℕ) → (0 ≡ c → ⊥) → NoByte c table → get_or table k 0 ≡ c → ⊥
NoByte-index c [] k nonzero h e = nonzero e
NoByte-index c (b ∷ table) zero nonzero h e = h.0 e
NoByte-index c (b ∷ table) (suc k) nonzero h e = NoByte-index c table k nonzero h.1 e

-- Digits from a table without c don't contain it.
NoByte-digits : (c : ℕ) (table xs : List ℕ) → (0 ≡ c → ⊥) → NoByte c table → NoByte c (encode_with table xs)
unfolding encode_with
NoByte-digits c table [] nonzero h = tt
NoByte-digits c table (x ∷ xs) nonzero h =
    (NoByte-index c table (x / 16) nonzero h, (NoByte-index c table (x % 16) nonzero h, NoByte-digits c table xs nonzero h))

-- No digit is below `0`.
digits_apart : (end : ℕ) → end < 48 → NoByte end lower_digits
digits_apart end low = (λ e. omega (arith, e, low), (λ e. omega (arith, e, low), (λ e. omega (arith, e, low), (λ e. omega (arith, e, low), (λ e. omega (arith, e, low), (λ e. omega (arith, e, low), (λ e. omega (arith, e, low), (λ e. omega (arith, e, low), (λ e. omega (arith, e, low), (λ e. omega (arith, e, low), (λ e. omega (arith, e, low), (λ e. omega (arith, e, low), (λ e. omega (arith, e, low), (λ e. omega (arith, e, low), (λ e. omega (arith, e, low), (λ e. omega (arith, e, low), tt))))))))))))))))

-- The digits of an id contain no byte below `0`.
pub NoByte-hex : (end : ℕ) (id : ObjectId) → 0 < end → end < 48 → NoByte end (encode_lower (id_bytes id))
NoByte-hex end id least most = NoByte-digits end lower_digits (id_bytes id) (λ e. omega (arith, e, least)) (digits_apart end most)

-- Ids of a form with the same digits are equal.
pub hex-once : {form : Form} (a b : ObjectId) → IsObjectId form a → IsObjectId form b → encode_lower (id_bytes a) ≡ encode_lower (id_bytes b) → a ≡ b
hex-once {form} a b h k e =
    let size : ℕ = id_size form in
    let left : decode_sized (encode_lower (id_bytes a)) size ≡ Ok (id_bytes a) = decode_sized-encode_lower (id_bytes a) size h.len h.bytes in
    let right : decode_sized (encode_lower (id_bytes b)) size ≡ Ok (id_bytes b) = decode_sized-encode_lower (id_bytes b) size k.len k.bytes in
    let same : decode_sized (encode_lower (id_bytes a)) size ≡ decode_sized (encode_lower (id_bytes b)) size = ap (λ t. decode_sized t size) e in
    let bytes : id_bytes a ≡ id_bytes b = cc in
    id-once a b h k bytes

-- Bytes without the byte that ends an id don't start with one.
pub hex-none : (form : Form) (end : ℕ) (bytes : List ℕ) → NoByte end bytes → Lacks (IsObjectId form) (hex_part end) bytes
hex-none form end bytes h = λ id rest valid is. NoByte-at end (encode_lower (id_bytes id)) rest (subst (NoByte end) is h)

-- Bytes don't start with an id if the bytes before its end spell none.
pub hex-other : (form : Form) (end : ℕ) (bytes digits rest : List ℕ) → 0 < end → end < 48 → NoByte end digits → bytes ≡ digits ++ end ∷ rest
    → ((id : ObjectId) → IsObjectId form id → digits ≢ encode_lower (id_bytes id)) → Lacks (IsObjectId form) (hex_part end) bytes
hex-other form end bytes digits rest least most h e none = λ id more valid is.
    none id valid (parted-once end digits (encode_lower (id_bytes id)) rest more h (NoByte-hex end id least most) (sym e ∙ is)).0

-- Otherwise the id is the one that they spell.
pub hex-found : {form : Form} (end : ℕ) (bytes digits rest : List ℕ) (id : ObjectId) → 0 < end → end < 48 → NoByte end digits
    → bytes ≡ digits ++ end ∷ rest → IsObjectId form id → digits ≡ encode_lower (id_bytes id) → Begins (IsObjectId form) (hex_part end) bytes id rest
hex-found end bytes digits rest id least most h e valid is = record {
  valid_one = valid;
  spelled = e ∙ ap (λ d. d ++ end ∷ rest) is;
  only = λ other more ok same.
      let parts = parted-once end digits (encode_lower (id_bytes other)) rest more h (NoByte-hex end other least most) (sym e ∙ same) in
      (hex-once id other valid ok (sym is ∙ parts.0), parts.1);
}
