-- Laws of roots and their spellings.
use Rattle.std.specs.Prelude.{◌≡◌, length}
use Rattle.root_slots.specs.declared.root.Root.{Root}
use Rattle.root_slots.specs.Spelling.{body_size, spelling}
use Rattle.root_slots.specs.Valid.{RootFits, IsRoot}

-- Two roots with the same spelling are equal.
abbrev pub SpellingsDiffer : Type 0
SpellingsDiffer = (r s : Root) → RootFits r → RootFits s → IsRoot r → IsRoot s
    → spelling r ≡ spelling s → r ≡ s

-- A spelling fills its slot.
abbrev pub SpellingsFill : Type 0
SpellingsFill = (r : Root) → RootFits r → length (spelling r) ≡ body_size
