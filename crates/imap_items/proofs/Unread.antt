-- Keys that read no text.
use Rattle.std.proofs.Common.{◌≡◌, ℕ, Bool, false, ◌&&◌, ◌||◌, not, List, refl, ap}
use Rattle.std.proofs.lemmas.Bool.{or_parts}
use Rattle.imap_syntax.specs.Trees.{KeyTest, Plain, Text, Header, Flag, Day, Size, Uid, Numbers, KeyTree, Single, Opposite, Either, Every, KeyTrees, no_tree, one_tree}
use Rattle.imap_items.specs.Keys.{MessageText, test_matches, tree_matches, trees_match, test_reads, tree_reads, trees_read}
use Rattle.imap_items.specs.Laws.{UnreadTextsAreAlike}

-- A message with another text.
abbrev with_text : MessageText → List ℕ → MessageText
with_text m text = record m { text = text }

test-alike : (m : MessageText) (text : List ℕ) (test : KeyTest) → test_reads test ≡ false → test_matches (with_text m text) test ≡ test_matches m test
test-alike m text (Plain name) r = refl
test-alike m text (Text name piece) r = absurd (let z = r in cc)
test-alike m text (Header field piece) r = absurd (let z = r in cc)
test-alike m text (Flag name word) r = refl
test-alike m text (Day name date) r = refl
test-alike m text (Size name n) r = refl
test-alike m text (Uid set) r = refl
test-alike m text (Numbers set) r = refl

both : (p q r s : Bool) → p ≡ r → q ≡ s → (p || q) ≡ (r || s)
both p q r s e f = rw (e, f) refl

all : (p q r s : Bool) → p ≡ r → q ≡ s → (p && q) ≡ (r && s)
all p q r s e f = rw (e, f) refl

mutual
  unfolding tree_matches tree_reads

  alike : (m : MessageText) (text : List ℕ) (t : KeyTree) → tree_reads t ≡ false → tree_matches (with_text m text) t ≡ tree_matches m t
  alike m text (Single test) r = test-alike m text test r
  alike m text (Opposite t) r = ap not (alike m text t r)
  alike m text (Either t u) r =
      let parts = or_parts (tree_reads t) (tree_reads u) r in
      both (tree_matches (with_text m text) t) (tree_matches (with_text m text) u) (tree_matches m t) (tree_matches m u) (alike m text t parts.0) (alike m text u parts.1)
  alike m text (Every ts) r = each-alike m text ts r

  each-alike : (m : MessageText) (text : List ℕ) (ts : KeyTrees) → trees_read ts ≡ false → trees_match (with_text m text) ts ≡ trees_match m ts
  each-alike m text no_tree r = refl
  each-alike m text (one_tree t ts) r =
      let parts = or_parts (tree_reads t) (trees_read ts) r in
      all (tree_matches (with_text m text) t) (trees_match (with_text m text) ts) (tree_matches m t) (trees_match m ts) (alike m text t parts.0) (each-alike m text ts parts.1)

pub unread : UnreadTextsAreAlike
unread m text key r = alike m text key r
