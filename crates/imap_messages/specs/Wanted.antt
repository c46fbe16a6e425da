-- The sequence numbers in search keys (RFC 3501, sections 6.4.4 and 9, search-key).
use Rattle.std.specs.Prelude.{ℕ, Bool, true, ◌&&◌}
use Rattle.imap_syntax.specs.Trees.{KeyTest, Plain, Text, Header, Flag, Day, Size, Uid, Numbers, KeyTree, Single, Opposite, Either, Every, KeyTrees, no_tree, one_tree}
use Rattle.imap_messages.specs.Picking.{set_is_told}

-- All sequence numbers of a key that has no keys within it are told.
abbrev pub test_is_told : ℕ → KeyTest → Bool
test_is_told count (Plain name) = true
test_is_told count (Text name piece) = true
test_is_told count (Header field piece) = true
test_is_told count (Flag name word) = true
test_is_told count (Day name date) = true
test_is_told count (Size name n) = true
test_is_told count (Uid set) = true
test_is_told count (Numbers set) = set_is_told count set

unfoldable mutual
  -- All sequence numbers of a key are told, those of keys under NOT and OR among them.
  pub tree_is_told : ℕ → KeyTree → Bool
  tree_is_told count (Single test) = test_is_told count test
  tree_is_told count (Opposite t) = tree_is_told count t
  tree_is_told count (Either t u) = tree_is_told count t && tree_is_told count u
  tree_is_told count (Every ts) = trees_are_told count ts

  -- All sequence numbers of these keys are told.
  pub trees_are_told : ℕ → KeyTrees → Bool
  trees_are_told count no_tree = true
  trees_are_told count (one_tree t ts) = tree_is_told count t && trees_are_told count ts
