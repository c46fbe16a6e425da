-- Ids of two forms: their sizes, and when two of them are equal.
use Rattle.std.proofs.Common.{◌≡◌, ◌≤◌, ℕ, List, length, refl, sym, ap, ◌∙◌, arith}
use Rattle.arch_base.specs.declared.ids.Form.{Form}
use Rattle.arch_base.specs.declared.ids.Form.TheVariants as form
use Rattle.arch_base.specs.declared.ids.ObjectId.{ObjectId}
use Rattle.arch_base.specs.declared.ids.ObjectId.TheVariants.{Sha1, Sha256}
use Rattle.arch_base.specs.Ids.{id_size, form_of, id_bytes, id_with, IsObjectId}

-- No id has more than 32 bytes.
pub id_size-most : (form : Form) → id_size form ≤ 32
id_size-most form.Sha1 = omega arith
id_size-most form.Sha256 = omega arith

-- Forms with ids of one size are the same.
pub form-once : (form other : Form) → id_size form ≡ id_size other → form ≡ other
form-once form.Sha1 form.Sha1 is = refl
form-once form.Sha1 form.Sha256 is = absurd (omega (arith, is))
form-once form.Sha256 form.Sha1 is = absurd (omega (arith, is))
form-once form.Sha256 form.Sha256 is = refl

-- The size of an id is that of its own form.
size-own : {form : Form} (id : ObjectId) → IsObjectId form id → length (id_bytes id) ≡ id_size (form_of id)
size-own id valid = valid.len ∙ ap id_size (sym valid.form_is)

-- Valid ids with the same bytes are the same.
pub id-once : {form other : Form} (a b : ObjectId) → IsObjectId form a → IsObjectId other b → id_bytes a ≡ id_bytes b → a ≡ b
id-once (Sha1 x) (Sha1 y) one two is = ap Sha1 is
id-once (Sha1 x) (Sha256 y) one two is = absurd (omega (arith, size-own (Sha1 x) one, size-own (Sha256 y) two, ap length is))
id-once (Sha256 x) (Sha1 y) one two is = absurd (omega (arith, size-own (Sha256 x) one, size-own (Sha1 y) two, ap length is))
id-once (Sha256 x) (Sha256 y) one two is = ap Sha256 is

-- The bytes of the id that has these bytes.
pub bytes_with : (form : Form) (bytes : List ℕ) → id_bytes (id_with form bytes) ≡ bytes
bytes_with form.Sha1 bytes = refl
bytes_with form.Sha256 bytes = refl

-- The form of the id that has this form.
pub form_with : (form : Form) (bytes : List ℕ) → form_of (id_with form bytes) ≡ form
form_with form.Sha1 bytes = refl
form_with form.Sha256 bytes = refl
