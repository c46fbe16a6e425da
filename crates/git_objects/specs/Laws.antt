-- Laws of spellings.
use Rattle.std.specs.Prelude.{◌≡◌, ℕ, List, ◌++◌}
use Rattle.arch_base.specs.declared.ids.Form.{Form}
use Rattle.git_objects.specs.Objects.{GitObject, IsObject, spelling}

-- If equal bytes start with the spellings of two objects, of one form or of two, the objects are
-- equal, and so are the bytes after them. So no object's spelling is a proper prefix of another's,
-- and no two objects have the same one.
abbrev pub SpellingsStandApart : Type 0
SpellingsStandApart =
    (form other : Form) (a b : GitObject) (x y : List ℕ) → IsObject form a → IsObject other b
    → spelling a ++ x ≡ spelling b ++ y → (a ≡ b) × (x ≡ y)
