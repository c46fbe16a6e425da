-- Ids of git objects, in two forms (git, "hash-function-transition").
use Rattle.std.specs.Prelude.{◌≡◌, ◌<◌, ◌^◌, ℕ, List, length, slice_index, Bool, false}
use Rattle.std.specs.Str.{bytes_eq}
use Rattle.std.specs.Ordering.{nat_cmp}
use Rattle.std.specs.declared.cmp.Ordering.TheVariants.{Less, Greater}
use Rattle.std.specs.declared.cmp.Ordering.{Ordering}
use Rattle.std.specs.Cmp.Lexicographic.{slice_cmp}
use Rattle.arch_base.specs.declared.ids.Form.{Form}
use Rattle.arch_base.specs.declared.ids.Form.TheVariants as form
use Rattle.arch_base.specs.declared.ids.ObjectId.{ObjectId}
use Rattle.arch_base.specs.declared.ids.ObjectId.TheVariants.{Sha1, Sha256}

-- The number of bytes of an id: 20 of a SHA-1, 32 of a SHA-256.
abbrev pub id_size : Form → ℕ
id_size form.Sha1 = 20
id_size form.Sha256 = 32

-- The form of an id.
abbrev pub form_of : ObjectId → Form
form_of (Sha1 bytes) = form.Sha1
form_of (Sha256 bytes) = form.Sha256

-- The bytes of an id.
abbrev pub id_bytes : ObjectId → List ℕ
id_bytes (Sha1 bytes) = bytes
id_bytes (Sha256 bytes) = bytes

-- The id of a form with these bytes.
abbrev pub id_with : Form → List ℕ → ObjectId
id_with form.Sha1 bytes = Sha1 bytes
id_with form.Sha256 bytes = Sha256 bytes

-- An id of a form: it has as many values as ids of the form, each below 2^8.
pub record IsObjectId (form : Form) (id : ObjectId) : Type 0 where
  pub form_is : form_of id ≡ form
  pub len : length (id_bytes id) ≡ id_size form
  pub bytes : (k : ℕ) → slice_index (id_bytes id) k < 2 ^ 8

-- The order of ids: by form, then by bytes.
abbrev pub id_cmp : ObjectId → ObjectId → Ordering
id_cmp (Sha1 a) (Sha1 b) = slice_cmp nat_cmp a b
id_cmp (Sha1 a) (Sha256 b) = Less
id_cmp (Sha256 a) (Sha1 b) = Greater
id_cmp (Sha256 a) (Sha256 b) = slice_cmp nat_cmp a b

-- Two ids are of one form and have the same bytes.
abbrev pub id_eq : ObjectId → ObjectId → Bool
id_eq (Sha1 a) (Sha1 b) = bytes_eq a b
id_eq (Sha1 a) (Sha256 b) = false
id_eq (Sha256 a) (Sha1 b) = false
id_eq (Sha256 a) (Sha256 b) = bytes_eq a b
