-- The size of a tree's spelling and its bytes before the name of its file, by the form of its id.
use Rattle.std.specs.Prelude.{ℕ, List, codes}
use Rattle.arch_base.specs.declared.ids.Form.{Form}
use Rattle.arch_base.specs.declared.ids.Form.TheVariants.{Sha1, Sha256}

-- The bytes before the name of the file: the type, the size of the content, NUL and the mode.
abbrev pub tree_front : Form → List ℕ
tree_front Sha1 = codes "tree 29\0100644 "
tree_front Sha256 = codes "tree 41\0100644 "

-- The number of bytes of the whole: 37 or 49.
abbrev pub tree_size : Form → ℕ
tree_size Sha1 = 37
tree_size Sha256 = 49
