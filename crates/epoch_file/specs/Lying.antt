-- Where entries lie in the first bytes of an epoch's file.
use Rattle.std.specs.Prelude.{◌+◌, ◌≤◌, ℕ, List, [], ◌∷◌}
use Rattle.arch_base.specs.Ids.{form_of}
use Rattle.git_objects.specs.Trees.{tree_size}
use Rattle.epoch_file.specs.declared.entry.Seen.{Seen}

-- The offset after the text and the tree of an entry, whose length goes by the form of its ids.
abbrev pub tree_end : Seen → ℕ
tree_end seen = seen.text_at + seen.size + tree_size (form_of seen.blob)

-- An entry starts at one offset or after it, its text follows, and its tree ends up to another offset.
pub record EntryLiesIn (from to : ℕ) (seen : Seen) : Type 0 where
  pub at : from ≤ seen.at
  pub text : seen.at ≤ seen.text_at
  pub ends : tree_end seen ≤ to

-- Entries lie so, one after the other.
abbrev pub LieIn : ℕ → ℕ → List Seen → Type 0
LieIn from to [] = Unit {0}
LieIn from to (s ∷ ss) = EntryLiesIn from to s × LieIn (tree_end s) to ss
