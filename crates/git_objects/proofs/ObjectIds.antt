-- Ids of objects have as many bytes as ids of their form.
use Rattle.std.proofs.Common.{◌≡◌, ◌<◌, ◌*◌, ℕ, zero, suc, List, [], ◌∷◌, ◌++◌, length, get_or, length-append, refl, arith}
use Rattle.std.specs.Int.{byte_at, bytes_high_first, to_be_bytes}
use Rattle.sha1.specs.Sha1.{sha1, digest_bytes}
use Rattle.sha2.specs.Sha256.{sha256}
use Rattle.sha2.specs.Sha256.{digest_bytes as digest_bytes-256}
use Rattle.sha2.proofs.Facts256.{length-sha256}
use Rattle.arch_base.specs.declared.ids.Form.{Form}
use Rattle.arch_base.specs.declared.ids.Form.TheVariants as form
use Rattle.arch_base.specs.Ids.{IsObjectId}
use Rattle.git_objects.specs.Objects.{id_of}
use mir.Syntax.{w32}
use Rattle.std.specs.Prelude.{slice_index}

-- Each number of a list is a byte.
abbrev AreBytes : List ℕ → Type 0
AreBytes [] = Unit {0}
AreBytes (b ∷ bs) = (b < 256) × AreBytes bs

AreBytes-append : (xs ys : List ℕ) → AreBytes xs → AreBytes ys → AreBytes (xs ++ ys)
AreBytes-append [] ys h k = k
AreBytes-append (x ∷ xs) ys h k = (h.0, AreBytes-append xs ys h.1 k)

AreBytes-at : (xs : List ℕ) (k : ℕ) → AreBytes xs → get_or xs k 0 < 256
AreBytes-at [] k h = omega arith
AreBytes-at (x ∷ xs) zero h = h.0
AreBytes-at (x ∷ xs) (suc k) h = AreBytes-at xs k h.1

byte_at-small : (k n : ℕ) → byte_at k n < 256
byte_at-small zero n = omega arith
byte_at-small (suc k) n = omega arith

AreBytes-number : (k n : ℕ) → AreBytes (bytes_high_first k n)
AreBytes-number zero n = tt
AreBytes-number (suc k) n = (byte_at-small k n, AreBytes-number k n)

-- A digest consists of bytes.
AreBytes-digest : (h : List ℕ) (n : ℕ) → AreBytes (digest_bytes h n)
unfolding digest_bytes
AreBytes-digest h zero = tt
AreBytes-digest h (suc n) = AreBytes-append (digest_bytes h n) (to_be_bytes w32 (slice_index h n)) (AreBytes-digest h n) (AreBytes-number 4 (slice_index h n))

length-digest : (h : List ℕ) (n : ℕ) → length (digest_bytes h n) ≡ 4 * n
unfolding digest_bytes
length-digest h zero = refl
length-digest h (suc n) =
    let four : length (to_be_bytes w32 (slice_index h n)) ≡ 4 = refl in
    omega (arith, length-append (digest_bytes h n) (to_be_bytes w32 (slice_index h n)), length-digest h n, four)

AreBytes-digest-256 : (h : List ℕ) (n : ℕ) → AreBytes (digest_bytes-256 h n)
unfolding digest_bytes-256
AreBytes-digest-256 h zero = tt
AreBytes-digest-256 h (suc n) = AreBytes-append (digest_bytes-256 h n) (to_be_bytes w32 (slice_index h n)) (AreBytes-digest-256 h n) (AreBytes-number 4 (slice_index h n))

-- The id of any bytes is valid.
pub IsObjectId-id_of : (form : Form) (text : List ℕ) → IsObjectId form (id_of form text)
unfolding sha1 sha256
IsObjectId-id_of form.Sha1 text = record { form_is = refl; len = length-digest _ 5; bytes = λ k. AreBytes-at (sha1 text) k (AreBytes-digest _ 5) }
IsObjectId-id_of form.Sha256 text = record { form_is = refl; len = length-sha256 text; bytes = λ k. AreBytes-at (sha256 text) k (AreBytes-digest-256 _ 8) }
