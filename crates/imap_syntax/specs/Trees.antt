-- Search keys as trees (RFC 3501, section 6.4.4).
use Rattle.std.specs.Prelude.{ℕ, List, [], ◌∷◌}
use Rattle.imap_syntax.specs.declared.keys.Date.{Date}
use Rattle.imap_syntax.specs.declared.key_names.DayKey.{DayKey}
use Rattle.imap_syntax.specs.declared.key_names.DayKey.TheVariants as day
use Rattle.imap_syntax.specs.declared.key_names.FlagKey.{FlagKey}
use Rattle.imap_syntax.specs.declared.key_names.FlagKey.TheVariants as flag
use Rattle.imap_syntax.specs.declared.key_names.PlainKey.{PlainKey}
use Rattle.imap_syntax.specs.declared.key_names.PlainKey.TheVariants as plain
use Rattle.imap_syntax.specs.declared.key_names.SizeKey.{SizeKey}
use Rattle.imap_syntax.specs.declared.key_names.SizeKey.TheVariants as size
use Rattle.imap_syntax.specs.declared.key_names.TextKey.{TextKey}
use Rattle.imap_syntax.specs.declared.key_names.TextKey.TheVariants as text
use Rattle.imap_syntax.specs.declared.keys.Key.{Key}
use Rattle.imap_syntax.specs.declared.keys.Key.TheFolds.{fold-Key}
use Rattle.imap_syntax.specs.declared.keys.Key.TheOpen.{Key-F}
use Rattle.imap_syntax.specs.declared.keys.Key.TheOpen as key
use Rattle.imap_syntax.specs.declared.sets.SetRange.{SetRange}

-- A key that has no keys within it, by its keyword and its arguments.
pub data KeyTest : Type 0 where
  Plain : PlainKey → KeyTest
  Text : TextKey → List ℕ → KeyTest
  Header : List ℕ → List ℕ → KeyTest
  Flag : FlagKey → List ℕ → KeyTest
  Day : DayKey → Date → KeyTest
  Size : SizeKey → ℕ → KeyTest
  Uid : List SetRange → KeyTest
  Numbers : List SetRange → KeyTest

mutual
  -- A key: a test, the opposite of a key, either of two, or all of some.
  pub data KeyTree : Type 0 where
    Single : KeyTest → KeyTree
    Opposite : KeyTree → KeyTree
    Either : KeyTree → KeyTree → KeyTree
    Every : KeyTrees → KeyTree

  -- Some keys.
  pub data KeyTrees : Type 0 where
    no_tree : KeyTrees
    one_tree : KeyTree → KeyTrees → KeyTrees

-- The trees of a list.
abbrev pub trees : List KeyTree → KeyTrees
trees [] = no_tree
trees (t ∷ ts) = one_tree t (trees ts)

-- The tree of a key whose own keys are trees.
abbrev pub tree_step : Key-F KeyTree → KeyTree
tree_step key.All = Single (Plain plain.All)
tree_step key.Answered = Single (Plain plain.Answered)
tree_step key.Deleted = Single (Plain plain.Deleted)
tree_step key.Draft = Single (Plain plain.Draft)
tree_step key.Flagged = Single (Plain plain.Flagged)
tree_step key.New = Single (Plain plain.New)
tree_step key.Old = Single (Plain plain.Old)
tree_step key.Recent = Single (Plain plain.Recent)
tree_step key.Seen = Single (Plain plain.Seen)
tree_step key.Unanswered = Single (Plain plain.Unanswered)
tree_step key.Undeleted = Single (Plain plain.Undeleted)
tree_step key.Undraft = Single (Plain plain.Undraft)
tree_step key.Unflagged = Single (Plain plain.Unflagged)
tree_step key.Unseen = Single (Plain plain.Unseen)
tree_step (key.Bcc piece) = Single (Text text.Bcc piece)
tree_step (key.Body piece) = Single (Text text.Body piece)
tree_step (key.Cc piece) = Single (Text text.Cc piece)
tree_step (key.From piece) = Single (Text text.From piece)
tree_step (key.Subject piece) = Single (Text text.Subject piece)
tree_step (key.Text piece) = Single (Text text.Text piece)
tree_step (key.To piece) = Single (Text text.To piece)
tree_step (key.Header field piece) = Single (Header field piece)
tree_step (key.Keyword word) = Single (Flag flag.Keyword word)
tree_step (key.Unkeyword word) = Single (Flag flag.Unkeyword word)
tree_step (key.Before date) = Single (Day day.Before date)
tree_step (key.On date) = Single (Day day.On date)
tree_step (key.Since date) = Single (Day day.Since date)
tree_step (key.SentBefore date) = Single (Day day.SentBefore date)
tree_step (key.SentOn date) = Single (Day day.SentOn date)
tree_step (key.SentSince date) = Single (Day day.SentSince date)
tree_step (key.Larger n) = Single (Size size.Larger n)
tree_step (key.Smaller n) = Single (Size size.Smaller n)
tree_step (key.Uid set) = Single (Uid set)
tree_step (key.Numbers set) = Single (Numbers set)
tree_step (key.Not k) = Opposite k.value
tree_step (key.Or k l) = Either k.value l.value
tree_step (key.Each ks) = Every (trees ks.items)

-- The tree of a key.
abbrev pub tree_of : Key → KeyTree
tree_of = fold-Key KeyTree tree_step
