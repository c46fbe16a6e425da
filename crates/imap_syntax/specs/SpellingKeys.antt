-- The octets that spell a search key (RFC 3501, section 9, search-key), by its structure.
use Rattle.std.specs.Prelude.{◌≡◌, ◌≤◌, ◌⊎◌, ℕ, suc, max, true, false, ◌||◌, ◌==◌, List, ◌∷◌, slice_index, Some}
use Rattle.imap_words.specs.Kinds.{is_digit, is_astring_byte, is_atom_byte, is_set_byte, is_word_byte}
use Rattle.imap_words.specs.Numbers.{number_of}
use Rattle.imap_syntax.specs.Dates.{date_at}
use Rattle.imap_syntax.specs.Keys.{key_name_of, key_at}
use Rattle.imap_syntax.specs.Sets.{set_of}
use Rattle.imap_syntax.specs.Trees.{KeyTest, Plain, Text, Header, Flag, Day, Size, Uid, Numbers, KeyTree, Single, Opposite, Either, Every, KeyTrees, no_tree, one_tree}
use Rattle.imap_syntax.specs.declared.keys.Date.{Date}
use Rattle.imap_syntax.specs.declared.key_names.KeyName.{KeyName}
use Rattle.imap_syntax.specs.declared.key_names.KeyName.TheVariants as name
use Rattle.imap_syntax.specs.declared.sets.SetRange.{SetRange}
use Rattle.imap_laws.specs.Spelling.{SpellsBare, BeginsQuoted, BeginsLiteral}

-- What spells a text comes first: it is bare, in quotes, or a literal (RFC 3501, section 9, astring).
abbrev pub BeginsAstring : List ℕ → List ℕ → List ℕ → Type 0
BeginsAstring octets text rest =
    SpellsBare is_astring_byte octets text rest
    ⊎ (BeginsQuoted octets text rest ⊎ BeginsLiteral octets text rest)

-- A space comes first, and then what spells a text.
pub record BeginsArgument (octets text rest : List ℕ) : Type 0 where
  pub behind : List ℕ
  pub space : octets ≡ 32 ∷ behind
  pub is : BeginsAstring behind text rest

-- A space comes first, and then an atom.
pub record BeginsAtom (octets word rest : List ℕ) : Type 0 where
  pub behind : List ℕ
  pub space : octets ≡ 32 ∷ behind
  pub is : SpellsBare is_atom_byte behind word rest

-- A space comes first, and then digits of a number.
pub record BeginsNumber (octets : List ℕ) (n : ℕ) (rest : List ℕ) : Type 0 where
  pub behind : List ℕ
  pub digits : List ℕ
  pub space : octets ≡ 32 ∷ behind
  pub is : SpellsBare is_digit behind digits rest
  pub counted : number_of digits ≡ Some n

-- A space comes first, and then what is read as a date.
pub record BeginsDate (octets : List ℕ) (date : Date) (rest : List ℕ) : Type 0 where
  pub behind : List ℕ
  pub space : octets ≡ 32 ∷ behind
  pub is : date_at behind ≡ Some (date, rest)

-- A word of these ranges comes first (RFC 3501, section 9, sequence-set).
pub record BeginsSet (octets : List ℕ) (set : List SetRange) (rest : List ℕ) : Type 0 where
  pub word : List ℕ
  pub is : SpellsBare is_set_byte octets word rest
  pub ranges : set_of word ≡ Some set

-- A space comes first, and then a word of these ranges.
pub record BeginsSetArgument (octets : List ℕ) (set : List SetRange) (rest : List ℕ) : Type 0 where
  pub behind : List ℕ
  pub space : octets ≡ 32 ∷ behind
  pub is : BeginsSet behind set rest

-- A digit or `*` comes first, and a word of these ranges.
pub record BeginsSetKey (octets : List ℕ) (set : List SetRange) (rest : List ℕ) : Type 0 where
  pub starts : is_digit (slice_index octets 0) || (slice_index octets 0 == 42) ≡ true
  pub is : BeginsSet octets set rest

-- A keyword comes first, which begins with no digit.
pub record BeginsName (octets : List ℕ) (found : KeyName) (rest : List ℕ) : Type 0 where
  pub word : List ℕ
  pub is : SpellsBare is_word_byte octets word rest
  pub starts : is_digit (slice_index word 0) ≡ false
  pub names : key_name_of word ≡ Some found

-- What spells a test comes first: its keyword, and each argument after a space, or a set.
abbrev pub BeginsTest : KeyTest → List ℕ → List ℕ → Type 0
BeginsTest (Plain found) octets rest = BeginsName octets (name.Plain found) rest
BeginsTest (Text found text) octets rest =
    (behind : List ℕ) × BeginsName octets (name.Text found) behind × BeginsArgument behind text rest
BeginsTest (Header field text) octets rest =
    (behind middle : List ℕ) × BeginsName octets name.Header behind × BeginsArgument behind field middle
    × BeginsArgument middle text rest
BeginsTest (Flag found word) octets rest =
    (behind : List ℕ) × BeginsName octets (name.Flag found) behind × BeginsAtom behind word rest
BeginsTest (Day found date) octets rest =
    (behind : List ℕ) × BeginsName octets (name.Day found) behind × BeginsDate behind date rest
BeginsTest (Size found n) octets rest =
    (behind : List ℕ) × BeginsName octets (name.Size found) behind × BeginsNumber behind n rest
BeginsTest (Uid set) octets rest =
    (behind : List ℕ) × BeginsName octets name.Uid behind × BeginsSetArgument behind set rest
BeginsTest (Numbers set) octets rest = BeginsSetKey octets set rest

abbrev mutual
  -- What spells a key comes first.
  pub BeginsKey : KeyTree → List ℕ → List ℕ → Type 0
  BeginsKey (Single test) octets rest = BeginsTest test octets rest
  BeginsKey (Opposite t) octets rest =
      (inner : List ℕ) × BeginsName octets name.Not (32 ∷ inner) × BeginsKey t inner rest
  BeginsKey (Either t u) octets rest =
      (first second : List ℕ) × BeginsName octets name.Or (32 ∷ first) × BeginsKey t first (32 ∷ second)
      × BeginsKey u second rest
  BeginsKey (Every ts) octets rest = (inner : List ℕ) × (octets ≡ 40 ∷ inner) × BeginsKeys ts inner rest

  -- What spells keys comes first, with single spaces between them, and then a closing parenthesis.
  pub BeginsKeys : KeyTrees → List ℕ → List ℕ → Type 0
  BeginsKeys no_tree octets rest = ⊥
  BeginsKeys (one_tree t no_tree) octets rest = BeginsKey t octets (41 ∷ rest)
  BeginsKeys (one_tree t (one_tree u ts)) octets rest =
      (next : List ℕ) × BeginsKey t octets (32 ∷ next) × BeginsKeys (one_tree u ts) next rest

abbrev mutual
  -- How deep keys are nested, the outermost included.
  pub tree_depth : KeyTree → ℕ
  tree_depth (Single test) = 1
  tree_depth (Opposite t) = suc (tree_depth t)
  tree_depth (Either t u) = suc (max (tree_depth t) (tree_depth u))
  tree_depth (Every ts) = suc (trees_depth ts)

  -- The greatest depth of some keys.
  pub trees_depth : KeyTrees → ℕ
  trees_depth no_tree = 0
  trees_depth (one_tree t ts) = max (tree_depth t) (trees_depth ts)

-- A key was read: what spells it comes first, and it isn't nested too deep.
pub record IsKeyRead (depth : ℕ) (octets : List ℕ) (t : KeyTree) (rest : List ℕ) : Type 0 where
  pub begins : BeginsKey t octets rest
  pub depth_fits : tree_depth t ≤ depth

-- A key is read exactly where what spells it comes first and it isn't nested too deep; and one spelling
-- has one reading.
pub record KeysAreRead : Type 0 where
  pub read : (depth : ℕ) (octets : List ℕ) (t : KeyTree) (rest : List ℕ) → IsKeyRead depth octets t rest
      → key_at depth octets ≡ Some (t, rest)
  pub spelled : (depth : ℕ) (octets : List ℕ) (t : KeyTree) (rest : List ℕ)
      → key_at depth octets ≡ Some (t, rest) → IsKeyRead depth octets t rest
  pub one : (octets : List ℕ) (t u : KeyTree) (rest others : List ℕ) → BeginsKey t octets rest
      → BeginsKey u octets others → (t ≡ u) × (rest ≡ others)
