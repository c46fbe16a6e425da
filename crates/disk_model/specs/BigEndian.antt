-- Numbers as bytes, the highest byte first, and how they are read back.
use Rattle.std.specs.Prelude.{◌≡◌, ◌<◌, ◌^◌, ℕ, List, ◌++◌, length, take, drop, refl}
use Rattle.std.specs.Int.{to_be_bytes, from_be_bytes, w32, w64}
use Rattle.std.proofs.Common.{◌∙◌, sym, ap}
use Rattle.std.proofs.lemmas.Nat.{from_be_bytes-to_be_bytes_4, from_be_bytes-to_be_bytes_8}
use Rattle.std.proofs.Math.Seq.{take-append_seam, drop-append_seam}

-- A number of 32 bits as four bytes, the highest first.
unfoldable pub be32 : ℕ → List ℕ
be32 n = to_be_bytes w32 n

-- A number of 64 bits as eight bytes, the highest first.
unfoldable pub be64 : ℕ → List ℕ
be64 n = to_be_bytes w64 n

-- A number of 32 bits takes four bytes.
pub be32_length : (n : ℕ) → length (be32 n) ≡ 4
unfolding be32
be32_length n = refl

-- A number of 64 bits takes eight bytes.
pub be64_length : (n : ℕ) → length (be64 n) ≡ 8
unfolding be64
be64_length n = refl

-- The first n bytes are the prefix of that length.
pub front_is : (n : ℕ) (bytes front rest : List ℕ) → length front ≡ n → bytes ≡ front ++ rest
    → take n bytes ≡ front
front_is n bytes front rest size is = ap (λ (b : List ℕ). take n b) is
    ∙ (ap (λ (m : ℕ). take m (front ++ rest)) (sym size) ∙ take-append_seam front rest)

-- The bytes after the first n are the rest.
pub rest_is : (n : ℕ) (bytes front rest : List ℕ) → length front ≡ n → bytes ≡ front ++ rest
    → drop n bytes ≡ rest
rest_is n bytes front rest size is = ap (λ (b : List ℕ). drop n b) is
    ∙ (ap (λ (m : ℕ). drop m (front ++ rest)) (sym size) ∙ drop-append_seam front rest)

-- A number of 64 bits is read back.
pub read64 : (bytes rest : List ℕ) (n : ℕ) → n < 2 ^ 64 → bytes ≡ be64 n ++ rest
    → from_be_bytes w64 (take 8 bytes) ≡ n
unfolding be64
read64 bytes rest n fits is = ap (from_be_bytes w64)
    (front_is 8 bytes (be64 n) rest (be64_length n) is) ∙ from_be_bytes-to_be_bytes_8 n fits

-- A number of 32 bits is read back.
pub read32 : (bytes rest : List ℕ) (n : ℕ) → n < 2 ^ 32 → bytes ≡ be32 n ++ rest
    → from_be_bytes w32 (take 4 bytes) ≡ n
unfolding be32
read32 bytes rest n fits is = ap (from_be_bytes w32)
    (front_is 4 bytes (be32 n) rest (be32_length n) is) ∙ from_be_bytes-to_be_bytes_4 n fits

-- Equal bytes that start with two numbers of 64 bits have equal numbers and equal rests.
pub apart64 : (m n : ℕ) (x y : List ℕ) → m < 2 ^ 64 → n < 2 ^ 64 → be64 m ++ x ≡ be64 n ++ y
    → (m ≡ n) × (x ≡ y)
apart64 m n x y a b is = (
  sym (read64 (be64 m ++ x) x m a refl) ∙ read64 (be64 m ++ x) y n b is,
  sym
      (rest_is 8 (be64 m ++ x) (be64 m) x (be64_length m) refl)
      ∙ rest_is 8 (be64 m ++ x) (be64 n) y (be64_length n) is,
)

-- Equal bytes that start with two numbers of 32 bits have equal numbers and equal rests.
pub apart32 : (m n : ℕ) (x y : List ℕ) → m < 2 ^ 32 → n < 2 ^ 32 → be32 m ++ x ≡ be32 n ++ y
    → (m ≡ n) × (x ≡ y)
apart32 m n x y a b is = (
  sym (read32 (be32 m ++ x) x m a refl) ∙ read32 (be32 m ++ x) y n b is,
  sym
      (rest_is 4 (be32 m ++ x) (be32 m) x (be32_length m) refl)
      ∙ rest_is 4 (be32 m ++ x) (be32 n) y (be32_length n) is,
)
