-- Keys within keys: what is spelled is read, and what is read is spelled.
use Rattle.std.proofs.Common.{◌≡◌, ◌<◌, ◌≤◌, ◌+◌, ◌-◌, ◌*◌, inl, inr, ℕ, zero, suc, max, Bool, true, false, ◌||◌, ◌==◌, List, [], ◌∷◌, ◌++◌, length, slice_index, Option, Some, None, if◌then◌else◌, refl, sym, ap, subst, ◌∙◌, arith}
use Rattle.std.proofs.Math.Nat.{le-max_left, le-max_right, max-le}
use Rattle.std.specs.List.{prefix_len}
use Rattle.std.proofs.lemmas.Bool.Decides.{nat_tests}
use Rattle.std.proofs.lemmas.List.{length-append, length-drop}
use Rattle.imap_words.specs.Kinds.{is_digit, is_atom_byte, is_set_byte, is_word_byte}
use Rattle.imap_words.specs.Numbers.{number_at, pair_at, two_digits, four_at, day_of}
use Rattle.imap_words.specs.Reading.{◌>>=◌, with_rest, byte_at, run_at, word_of, behind_word, with_first, behind_space, many_at}
use Rattle.imap_words.specs.Strings.{argument_at, atom_argument_at}
use Rattle.imap_syntax.specs.Dates.{month_of, month_at, date_behind, date_text_at, quoted_date_at, date_by, date_at, date_argument_at}
use Rattle.imap_syntax.specs.Keys.{key_name_at, test_at, single_at, opposite_at, either_at, behind_name, named_at, numbers_at, key_list_at, key_by, key_at}
use Rattle.imap_syntax.specs.Sets.{set_at, set_argument_at}
use Rattle.imap_syntax.specs.Trees.{KeyTest, Plain, Text, Header, Flag, Day, Size, Uid, Numbers, KeyTree, Single, Opposite, Either, Every, KeyTrees, no_tree, one_tree, trees}
use Rattle.imap_syntax.specs.declared.keys.Date.{Date}
use Rattle.imap_syntax.specs.declared.key_names.KeyName.{KeyName}
use Rattle.imap_syntax.specs.declared.key_names.KeyName.TheVariants as name
use Rattle.imap_laws.proofs.BareTexts.{bare_spelled}
use Rattle.imap_laws.proofs.Binding.{bind_some, byte_some}
use Rattle.imap_syntax.proofs.KeyParts.{bare_first, first_same, argument_read, argument_spelled, atom_read, atom_spelled, size_read, size_spelled, day_read, day_spelled, set_read, set_spelled, uid_read, uid_spelled, name_read, name_spelled}
use Rattle.imap_laws.specs.Spelling.{SpellsBare}
use Rattle.imap_syntax.specs.SpellingKeys.{BeginsAstring, BeginsArgument, BeginsName, BeginsTest, BeginsKey, BeginsKeys, tree_depth, trees_depth, IsKeyRead}

-- How much is left behind what was read.
first-long : (octets text rest : List ℕ) → octets ≡ text ++ rest → length octets ≡ length text + length rest
first-long octets text rest e = ap length e ∙ length-append text rest

bare-long : (kind : ℕ → Bool) (octets text rest : List ℕ) → SpellsBare kind octets text rest → length rest < length octets
bare-long kind octets text rest s =
    let e : length octets ≡ length text + length rest = first-long octets text rest s.first in
    let some : 0 < length text = s.some in
    omega (arith, e, some)

name-long : (octets : List ℕ) (found : KeyName) (rest : List ℕ) → BeginsName octets found rest → length rest < length octets
name-long octets found rest s = bare-long is_word_byte octets s.word rest s.is

space-long : (octets behind : List ℕ) → octets ≡ 32 ∷ behind → length octets ≡ suc (length behind)
space-long octets behind e = ap length e

astring-long : (octets text rest : List ℕ) → BeginsAstring octets text rest → length rest ≤ length octets
astring-long octets text rest (inl s) = let e : length octets ≡ length text + length rest = first-long octets text rest s.first in omega (arith, e)
astring-long octets text rest (inr (inl s)) =
    let e : length octets ≡ length s.spelling + length rest = first-long octets s.spelling rest s.first in omega (arith, e)
astring-long octets text rest (inr (inr s)) =
    let e : length octets ≡ length s.spelling + length rest = first-long octets s.spelling rest s.first in omega (arith, e)

argument-long : (octets text rest : List ℕ) → BeginsArgument octets text rest → length rest ≤ length octets
argument-long octets text rest s =
    let a : length octets ≡ suc (length s.behind) = ap length s.space in
    let b : length rest ≤ length s.behind = astring-long s.behind text rest s.is in
    omega (arith, a, b)

-- How much a date leaves.
abbrev left_of : Option (Date × List ℕ) → ℕ
left_of None = 0
left_of (Some p) = length p.1

byte-long : (b : ℕ) (octets rest : List ℕ) → byte_at b octets ≡ Some rest → length octets ≡ suc (length rest)
byte-long b octets rest h = ap length (byte_some b octets rest h)

pair-by : (o : Option ℕ) (n : ℕ) (rest more : List ℕ) → with_rest rest o ≡ Some (n, more) → rest ≡ more
pair-by None n rest more h = cc
pair-by (Some k) n rest more h =
    let e : (k, rest) ≡ (n, more) = cc in
    ap (λ (p : ℕ × List ℕ). p.1) e

pair-long : (octets : List ℕ) (n : ℕ) (rest : List ℕ) → pair_at octets ≡ Some (n, rest) → length rest ≤ length octets
pair-long [] n rest h = cc
pair-long (a ∷ []) n rest h = cc
pair-long (a ∷ b ∷ more) n rest h =
    let e : length more ≡ length rest = ap length (pair-by (two_digits a b) n more rest h) in
    omega (arith, e)

four-long : (octets : List ℕ) (n : ℕ) (rest : List ℕ) → four_at octets ≡ Some (n, rest) → length rest ≤ length octets
unfolding four_at
four-long octets n rest h =
    let i = bind_some (pair_at octets) _ (n, rest) h in
    let j = bind_some (pair_at i.0.1) _ (n, rest) i.2 in
    let e : (i.0.0 * 100 + j.0.0, j.0.1) ≡ (n, rest) = cc in
    let r : length j.0.1 ≡ length rest = ap (λ (p : ℕ × List ℕ). length p.1) e in
    let a : length i.0.1 ≤ length octets = pair-long octets i.0.0 i.0.1 i.1 in
    let b : length j.0.1 ≤ length i.0.1 = pair-long i.0.1 j.0.0 j.0.1 j.1 in
    omega (arith, r, a, b)

month-long : (octets : List ℕ) (n : ℕ) (rest : List ℕ) → month_at octets ≡ Some (n, rest) → length rest ≤ length octets
unfolding month_at
month-long octets n rest h =
    let e : length (behind_word octets) ≡ length rest = ap length (pair-by (month_of (word_of octets)) n (behind_word octets) rest h) in
    let d : length (behind_word octets) ≡ length octets - prefix_len is_word_byte octets = length-drop (prefix_len is_word_byte octets) octets in
    omega (arith, e, d)

behind-long : (day : ℕ) (octets : List ℕ) (date : Date) (rest : List ℕ) → date_behind day octets ≡ Some (date, rest)
    → length rest ≤ length octets
unfolding date_behind
behind-long day octets date rest h =
    let i = bind_some (byte_at 45 octets) _ (date, rest) h in
    let m = bind_some (month_at i.0) _ (date, rest) i.2 in
    let l = bind_some (byte_at 45 m.0.1) _ (date, rest) m.2 in
    let y = bind_some (four_at l.0) _ (date, rest) l.2 in
    let r : length y.0.1 ≡ length rest = ap left_of y.2 in
    let a : length octets ≡ suc (length i.0) = byte-long 45 octets i.0 i.1 in
    let b : length m.0.1 ≤ length i.0 = month-long i.0 m.0.0 m.0.1 m.1 in
    let c : length m.0.1 ≡ suc (length l.0) = byte-long 45 m.0.1 l.0 l.1 in
    let d : length y.0.1 ≤ length l.0 = four-long l.0 y.0.0 y.0.1 y.1 in
    omega (arith, r, a, b, c, d)

text-long : (octets : List ℕ) (date : Date) (rest : List ℕ) → date_text_at octets ≡ Some (date, rest)
    → length rest ≤ length octets
unfolding date_text_at
text-long octets date rest h =
    let w = bind_some (run_at is_digit octets) _ (date, rest) h in
    let d = bind_some (day_of w.0.0) _ (date, rest) w.2 in
    let a : length w.0.1 < length octets
    = bare-long is_digit octets w.0.0 w.0.1 (bare_spelled is_digit octets w.0.0 w.0.1 w.1) in
    let b : length rest ≤ length w.0.1 = behind-long d.0 w.0.1 date rest d.2 in
    omega (arith, a, b)

quoted-long : (octets : List ℕ) (date : Date) (rest : List ℕ) → quoted_date_at octets ≡ Some (date, rest)
    → length rest ≤ length octets
quoted-long octets date rest h =
    let t = bind_some (date_text_at octets) _ (date, rest) h in
    let q = bind_some (byte_at 34 t.0.1) _ (date, rest) t.2 in
    let r : length q.0 ≡ length rest = ap left_of q.2 in
    let a : length t.0.1 ≤ length octets = text-long octets t.0.0 t.0.1 t.1 in
    let b : length t.0.1 ≡ suc (length q.0) = byte-long 34 t.0.1 q.0 q.1 in
    omega (arith, r, a, b)

date-by-long : (o : Option (List ℕ)) (octets : List ℕ) (date : Date) (rest : List ℕ) → byte_at 34 octets ≡ o
    → date_by octets o ≡ Some (date, rest) → length rest ≤ length octets
date-by-long None octets date rest q h = text-long octets date rest h
date-by-long (Some inside) octets date rest q h =
    let a : length octets ≡ suc (length inside) = byte-long 34 octets inside q in
    let b : length rest ≤ length inside = quoted-long inside date rest h in
    omega (arith, a, b)

date-long : (octets : List ℕ) (date : Date) (rest : List ℕ) → date_at octets ≡ Some (date, rest)
    → length rest ≤ length octets
unfolding date_at
date-long octets date rest h = date-by-long (byte_at 34 octets) octets date rest refl h

-- A test has an octet at least.
test-long : (test : KeyTest) (octets rest : List ℕ) → BeginsTest test octets rest → length rest < length octets
test-long (Plain found) octets rest s = name-long octets (name.Plain found) rest s
test-long (Text found text) octets rest s =
    let a : length s.0 < length octets = name-long octets (name.Text found) s.0 s.1 in
    let b : length rest ≤ length s.0 = argument-long s.0 text rest s.2 in
    omega (arith, a, b)
test-long (Header field text) octets rest s =
    let a : length s.0 < length octets = name-long octets name.Header s.0 s.2 in
    let b : length s.1 ≤ length s.0 = argument-long s.0 field s.1 s.3 in
    let c : length rest ≤ length s.1 = argument-long s.1 text rest s.4 in
    omega (arith, a, b, c)
test-long (Flag found word) octets rest s =
    let a : length s.0 < length octets = name-long octets (name.Flag found) s.0 s.1 in
    let b : length s.0 ≡ suc (length s.2.behind) = ap length s.2.space in
    let c : length rest < length s.2.behind = bare-long is_atom_byte s.2.behind word rest s.2.is in
    omega (arith, a, b, c)
test-long (Day found date) octets rest s =
    let a : length s.0 < length octets = name-long octets (name.Day found) s.0 s.1 in
    let b : length s.0 ≡ suc (length s.2.behind) = ap length s.2.space in
    let c : length rest ≤ length s.2.behind = date-long s.2.behind date rest s.2.is in
    omega (arith, a, b, c)
test-long (Size found n) octets rest s =
    let a : length s.0 < length octets = name-long octets (name.Size found) s.0 s.1 in
    let b : length s.0 ≡ suc (length s.2.behind) = ap length s.2.space in
    let c : length rest < length s.2.behind = bare-long is_digit s.2.behind s.2.digits rest s.2.is in
    omega (arith, a, b, c)
test-long (Uid set) octets rest s =
    let a : length s.0 < length octets = name-long octets name.Uid s.0 s.1 in
    let b : length s.0 ≡ suc (length s.2.behind) = ap length s.2.space in
    let c : length rest < length s.2.behind = bare-long is_set_byte s.2.behind s.2.is.word rest s.2.is.is in
    omega (arith, a, b, c)
test-long (Numbers set) octets rest s = bare-long is_set_byte octets s.is.word rest s.is.is

-- So has a key.
mutual
  key-long : (t : KeyTree) (octets rest : List ℕ) → BeginsKey t octets rest → length rest < length octets
  key-long (Single test) octets rest s = test-long test octets rest s
  key-long (Opposite t) octets rest s =
      let a : suc (length s.0) < length octets = name-long octets name.Not (32 ∷ s.0) s.1 in
      let b : length rest < length s.0 = key-long t s.0 rest s.2 in
      omega (arith, a, b)
  key-long (Either t u) octets rest s =
      let a : suc (length s.0) < length octets = name-long octets name.Or (32 ∷ s.0) s.2 in
      let b : suc (length s.1) < length s.0 = key-long t s.0 (32 ∷ s.1) s.3 in
      let c : length rest < length s.1 = key-long u s.1 rest s.4 in
      omega (arith, a, b, c)
  key-long (Every ts) octets rest s =
      let a : length octets ≡ suc (length s.0) = ap length s.1 in
      let b : length rest < length s.0 = keys-long ts s.0 rest s.2 in
      omega (arith, a, b)

  keys-long : (ts : KeyTrees) (octets rest : List ℕ) → BeginsKeys ts octets rest → length rest < length octets
  keys-long no_tree octets rest s = absurd s
  keys-long (one_tree t no_tree) octets rest s =
      let a : suc (length rest) < length octets = key-long t octets (41 ∷ rest) s in
      omega (arith, a)
  keys-long (one_tree t (one_tree u ts)) octets rest s =
      let a : suc (length s.0) < length octets = key-long t octets (32 ∷ s.0) s.1 in
      let b : length rest < length s.0 = keys-long (one_tree u ts) s.0 rest s.2 in
      omega (arith, a, b)

-- A key whose keyword is read is what follows it.
no-star : (b : ℕ) → is_word_byte b ≡ true → (b == 42) ≡ false
no-star b h = grind (arith, nat_tests)

no-bracket : (b : ℕ) → is_word_byte b ≡ true → (b == 40) ≡ false
no-bracket b h = grind (arith, nat_tests)

name-first : (inner : List ℕ → Option (KeyTree × List ℕ)) (octets : List ℕ) (found : KeyName) (rest : List ℕ)
    → BeginsName octets found rest → key_by inner octets ≡ behind_name inner found rest
unfolding key_by
name-first inner octets found rest s =
    let f : is_word_byte (slice_index octets 0) ≡ true = bare_first is_word_byte octets s.word rest s.is in
    let e : slice_index octets 0 ≡ slice_index s.word 0
    = ap (λ l. slice_index l 0) s.is.first ∙ first_same s.word rest s.is.some in
    let d : is_digit (slice_index octets 0) ≡ false = ap is_digit e ∙ s.starts in
    rw d (rw (no-star (slice_index octets 0) f) (rw (no-bracket (slice_index octets 0) f) (rw (name_read octets found rest s) refl)))

-- A test is read.
test-read : (inner : List ℕ → Option (KeyTree × List ℕ)) (test : KeyTest) (octets rest : List ℕ)
    → BeginsTest test octets rest → key_by inner octets ≡ Some (Single test, rest)
unfolding key_by test_at
test-read inner (Plain found) octets rest s = name-first inner octets (name.Plain found) rest s
test-read inner (Text found text) octets rest s =
    name-first inner octets (name.Text found) s.0 s.1 ∙ rw (argument_read s.0 text rest s.2) refl
test-read inner (Header field text) octets rest s =
    name-first inner octets name.Header s.0 s.2
    ∙ rw (argument_read s.0 field s.1 s.3) (rw (argument_read s.1 text rest s.4) refl)
test-read inner (Flag found word) octets rest s =
    name-first inner octets (name.Flag found) s.0 s.1 ∙ rw (atom_read s.0 word rest s.2) refl
test-read inner (Day found date) octets rest s =
    name-first inner octets (name.Day found) s.0 s.1 ∙ rw (day_read s.0 date rest s.2) refl
test-read inner (Size found n) octets rest s =
    let b = bind_some (byte_at 32 s.0) number_at (n, rest) (size_read s.0 n rest s.2) in
    name-first inner octets (name.Size found) s.0 s.1 ∙ rw b.1 (rw b.2 refl)
test-read inner (Uid set) octets rest s =
    name-first inner octets name.Uid s.0 s.1 ∙ rw (uid_read s.0 set rest s.2) refl
test-read inner (Numbers set) octets rest s = rw s.starts (rw (set_read octets set rest s.is) refl)

-- The list of some keys.
abbrev list_of : KeyTrees → List KeyTree
list_of no_tree = []
list_of (one_tree t ts) = t ∷ list_of ts

trees-list : (ts : KeyTrees) → trees (list_of ts) ≡ ts
trees-list no_tree = refl
trees-list (one_tree t ts) = ap (one_tree t) (trees-list ts)

tree-some : (t : KeyTree) → 0 < tree_depth t
tree-some (Single test) = omega arith
tree-some (Opposite t) = omega arith
tree-some (Either t u) = omega arith
tree-some (Every ts) = omega arith

-- Keys in parentheses are read.
list-read : (inner : List ℕ → Option (KeyTree × List ℕ)) (ts : KeyTrees) (octets rest : List ℕ)
    → many_at inner (length octets) octets ≡ Some (list_of ts, 41 ∷ rest)
    → key_by inner (40 ∷ octets) ≡ Some (Every ts, rest)
unfolding key_by
list-read inner ts octets rest h = rw h (ap (λ (k : KeyTrees). Some (Every k, rest)) (trees-list ts))

-- What is spelled is read.
mutual
  pub key_read : (depth : ℕ) (t : KeyTree) (octets rest : List ℕ) → BeginsKey t octets rest → tree_depth t ≤ depth
      → key_at depth octets ≡ Some (t, rest)
  key_read zero t octets rest s fits = absurd (let some : 0 < tree_depth t = tree-some t in omega (arith, some, fits))
  key_read (suc depth) (Single test) octets rest s fits = test-read (key_at depth) test octets rest s
  key_read (suc depth) (Opposite t) octets rest s fits =
      name-first (key_at depth) octets name.Not (32 ∷ s.0) s.1
      ∙ rw (key_read depth t s.0 rest s.2 (omega (arith, fits))) refl
  key_read (suc depth) (Either t u) octets rest s fits =
      let m : max (tree_depth t) (tree_depth u) ≤ depth = omega (arith, fits) in
      let l : tree_depth t ≤ max (tree_depth t) (tree_depth u) = le-max_left (tree_depth t) (tree_depth u) in
      let r : tree_depth u ≤ max (tree_depth t) (tree_depth u) = le-max_right (tree_depth t) (tree_depth u) in
      name-first (key_at depth) octets name.Or (32 ∷ s.0) s.2
      ∙ rw (key_read depth t s.0 (32 ∷ s.1) s.3 (omega (arith, m, l)))
      (rw (key_read depth u s.1 rest s.4 (omega (arith, m, r))) refl)
  key_read (suc depth) (Every ts) octets rest s fits =
      ap (key_at (suc depth)) s.1
      ∙ list-read (key_at depth) ts s.0 rest
      (keys_read depth (length s.0) ts s.0 rest s.2 (omega (arith, fits)) (omega arith))

  pub keys_read : (depth n : ℕ) (ts : KeyTrees) (octets rest : List ℕ) → BeginsKeys ts octets rest
      → trees_depth ts ≤ depth → length octets ≤ n → many_at (key_at depth) n octets ≡ Some (list_of ts, 41 ∷ rest)
  keys_read depth zero ts octets rest s fits long =
      absurd (let some : length rest < length octets = keys-long ts octets rest s in omega (arith, some, long))
  keys_read depth (suc n) no_tree octets rest s fits long = absurd s
  keys_read depth (suc n) (one_tree t no_tree) octets rest s fits long =
      let l : tree_depth t ≤ max (tree_depth t) 0 = le-max_left (tree_depth t) 0 in
      rw (key_read depth t octets (41 ∷ rest) s (omega (arith, l, fits))) refl
  keys_read depth (suc n) (one_tree t (one_tree u ts)) octets rest s fits long =
      let l : tree_depth t ≤ max (tree_depth t) (trees_depth (one_tree u ts))
      = le-max_left (tree_depth t) (trees_depth (one_tree u ts)) in
      let r : trees_depth (one_tree u ts) ≤ max (tree_depth t) (trees_depth (one_tree u ts))
      = le-max_right (tree_depth t) (trees_depth (one_tree u ts)) in
      let a : suc (length s.0) < length octets = key-long t octets (32 ∷ s.0) s.1 in
      rw (key_read depth t octets (32 ∷ s.0) s.1 (omega (arith, l, fits)))
      (rw (keys_read depth n (one_tree u ts) s.0 rest s.2 (omega (arith, r, fits)) (omega (arith, a, long))) refl)

-- A key that was read, with what follows it.
abbrev told : KeyTree → List ℕ → Option (KeyTree × List ℕ)
told t rest = Some (t, rest)

-- A test as a key, with what follows it.
abbrev single-told : Option (KeyTest × List ℕ) → Option (KeyTree × List ℕ)
single-told None = None
single-told (Some p) = Some (Single p.0, p.1)

-- What holds of a key that was read holds of it under another name.
carry : (P : KeyTree → List ℕ → Type 0) (x t : KeyTree) (r rest : List ℕ) → told x r ≡ Some (t, rest) → P x r → P t rest
carry P x t r rest h p =
    let e : (x, r) ≡ (t, rest) = cc in
    subst (λ (k : KeyTree × List ℕ). P k.0 k.1) e p

-- The arguments of a test, after its keyword.
abbrev IsTest : List ℕ → KeyTree → List ℕ → Type 0
IsTest octets t rest = IsKeyRead 1 octets t rest

one-deep : (test : KeyTest) (octets rest : List ℕ) → BeginsTest test octets rest → IsKeyRead 1 octets (Single test) rest
one-deep test octets rest s = record { begins = s; depth_fits = omega arith }

test-spelled : (found : KeyName) (octets behind : List ℕ) (t : KeyTree) (rest : List ℕ) → BeginsName octets found behind
    → single_at found behind ≡ Some (t, rest) → IsKeyRead 1 octets t rest
unfolding test_at
test-spelled (name.Plain found) octets behind t rest b h =
    carry (IsTest octets) (Single (Plain found)) t behind rest h (one-deep (Plain found) octets behind b)
test-spelled (name.Text found) octets behind t rest b h =
    let o = bind_some (test_at (name.Text found) behind) _ (t, rest) h in
    let a = bind_some (argument_at behind) _ o.0 o.1 in
    let h' : told (Single (Text found a.0.0)) a.0.1 ≡ Some (t, rest) = ap single-told a.2 ∙ o.2 in
    carry (IsTest octets) (Single (Text found a.0.0)) t a.0.1 rest h'
    (one-deep (Text found a.0.0) octets a.0.1 (behind, b, argument_spelled behind a.0.0 a.0.1 a.1))
test-spelled name.Header octets behind t rest b h =
    let o = bind_some (test_at name.Header behind) _ (t, rest) h in
    let f = bind_some (argument_at behind) _ o.0 o.1 in
    let a = bind_some (argument_at f.0.1) _ o.0 f.2 in
    let h' : told (Single (Header f.0.0 a.0.0)) a.0.1 ≡ Some (t, rest) = ap single-told a.2 ∙ o.2 in
    carry (IsTest octets) (Single (Header f.0.0 a.0.0)) t a.0.1 rest h'
    (one-deep (Header f.0.0 a.0.0) octets a.0.1
    (behind, f.0.1, b, argument_spelled behind f.0.0 f.0.1 f.1, argument_spelled f.0.1 a.0.0 a.0.1 a.1))
test-spelled (name.Flag found) octets behind t rest b h =
    let o = bind_some (test_at (name.Flag found) behind) _ (t, rest) h in
    let a = bind_some (atom_argument_at behind) _ o.0 o.1 in
    let h' : told (Single (Flag found a.0.0)) a.0.1 ≡ Some (t, rest) = ap single-told a.2 ∙ o.2 in
    carry (IsTest octets) (Single (Flag found a.0.0)) t a.0.1 rest h'
    (one-deep (Flag found a.0.0) octets a.0.1 (behind, b, atom_spelled behind a.0.0 a.0.1 a.1))
test-spelled (name.Day found) octets behind t rest b h =
    let o = bind_some (test_at (name.Day found) behind) _ (t, rest) h in
    let a = bind_some (date_argument_at behind) _ o.0 o.1 in
    let h' : told (Single (Day found a.0.0)) a.0.1 ≡ Some (t, rest) = ap single-told a.2 ∙ o.2 in
    carry (IsTest octets) (Single (Day found a.0.0)) t a.0.1 rest h'
    (one-deep (Day found a.0.0) octets a.0.1 (behind, b, day_spelled behind a.0.0 a.0.1 a.1))
test-spelled (name.Size found) octets behind t rest b h =
    let o = bind_some (test_at (name.Size found) behind) _ (t, rest) h in
    let i = bind_some (byte_at 32 behind) _ o.0 o.1 in
    let a = bind_some (number_at i.0) _ o.0 i.2 in
    let h' : told (Single (Size found a.0.0)) a.0.1 ≡ Some (t, rest) = ap single-told a.2 ∙ o.2 in
    let n : byte_at 32 behind >>= number_at ≡ Some (a.0.0, a.0.1) = ap (λ p. p >>= number_at) i.1 ∙ a.1 in
    carry (IsTest octets) (Single (Size found a.0.0)) t a.0.1 rest h'
    (one-deep (Size found a.0.0) octets a.0.1 (behind, b, size_spelled behind a.0.0 a.0.1 n))
test-spelled name.Uid octets behind t rest b h =
    let o = bind_some (test_at name.Uid behind) _ (t, rest) h in
    let a = bind_some (set_argument_at behind) _ o.0 o.1 in
    let h' : told (Single (Uid a.0.0)) a.0.1 ≡ Some (t, rest) = ap single-told a.2 ∙ o.2 in
    carry (IsTest octets) (Single (Uid a.0.0)) t a.0.1 rest h'
    (one-deep (Uid a.0.0) octets a.0.1 (behind, b, uid_spelled behind a.0.0 a.0.1 a.1))
test-spelled name.Not octets behind t rest b h = cc
test-spelled name.Or octets behind t rest b h = cc

deeper : (depth : ℕ) (octets : List ℕ) (t : KeyTree) (rest : List ℕ) → IsKeyRead 1 octets t rest
    → IsKeyRead (suc depth) octets t rest
deeper depth octets t rest r =
    let f : tree_depth t ≤ 1 = r.depth_fits in
    record { begins = r.begins; depth_fits = omega (arith, f) }

-- The keys within a key are read by `inner`, nested at most `depth` deep.
module _ (inner : List ℕ → Option (KeyTree × List ℕ)) (depth : ℕ)
    (law : (octets : List ℕ) (t : KeyTree) (rest : List ℕ) → inner octets ≡ Some (t, rest) → IsKeyRead depth octets t rest) where
  abbrev IsOuter : List ℕ → KeyTree → List ℕ → Type 0
  IsOuter octets t rest = IsKeyRead (suc depth) octets t rest

  opposite-spelled : (octets behind : List ℕ) (t : KeyTree) (rest : List ℕ) → BeginsName octets name.Not behind
      → opposite_at inner behind ≡ Some (t, rest) → IsOuter octets t rest
  opposite-spelled octets behind t rest b h =
      let i = bind_some (byte_at 32 behind) _ (t, rest) h in
      let k = bind_some (inner i.0) _ (t, rest) i.2 in
      let r = law i.0 k.0.0 k.0.1 k.1 in
      let f : tree_depth k.0.0 ≤ depth = r.depth_fits in
      let b' : BeginsName octets name.Not (32 ∷ i.0)
      = subst (λ l. BeginsName octets name.Not l) (byte_some 32 behind i.0 i.1) b in
      carry (IsOuter octets) (Opposite k.0.0) t k.0.1 rest k.2
      (record { begins = (i.0, b', r.begins); depth_fits = omega (arith, f) })

  either-spelled : (octets behind : List ℕ) (t : KeyTree) (rest : List ℕ) → BeginsName octets name.Or behind
      → either_at inner behind ≡ Some (t, rest) → IsOuter octets t rest
  either-spelled octets behind t rest b h =
      let i = bind_some (byte_at 32 behind) _ (t, rest) h in
      let k = bind_some (inner i.0) _ (t, rest) i.2 in
      let j = bind_some (byte_at 32 k.0.1) _ (t, rest) k.2 in
      let l = bind_some (inner j.0) _ (t, rest) j.2 in
      let r = law i.0 k.0.0 k.0.1 k.1 in
      let q = law j.0 l.0.0 l.0.1 l.1 in
      let m : max (tree_depth k.0.0) (tree_depth l.0.0) ≤ depth = max-le r.depth_fits q.depth_fits in
      let b' : BeginsName octets name.Or (32 ∷ i.0)
      = subst (λ l. BeginsName octets name.Or l) (byte_some 32 behind i.0 i.1) b in
      let s : BeginsKey k.0.0 i.0 (32 ∷ j.0)
      = subst (λ l. BeginsKey k.0.0 i.0 l) (byte_some 32 k.0.1 j.0 j.1) r.begins in
      carry (IsOuter octets) (Either k.0.0 l.0.0) t l.0.1 rest l.2
      (record { begins = (i.0, j.0, b', s, q.begins); depth_fits = omega (arith, m) })

  named-spelled : (found : KeyName) (octets behind : List ℕ) (t : KeyTree) (rest : List ℕ) → BeginsName octets found behind
      → behind_name inner found behind ≡ Some (t, rest) → IsOuter octets t rest
  named-spelled name.Not octets behind t rest b h = opposite-spelled octets behind t rest b h
  named-spelled name.Or octets behind t rest b h = either-spelled octets behind t rest b h
  named-spelled (name.Plain k) octets behind t rest b h = deeper depth octets t rest (test-spelled (name.Plain k) octets behind t rest b h)
  named-spelled (name.Text k) octets behind t rest b h = deeper depth octets t rest (test-spelled (name.Text k) octets behind t rest b h)
  named-spelled name.Header octets behind t rest b h = deeper depth octets t rest (test-spelled name.Header octets behind t rest b h)
  named-spelled (name.Flag k) octets behind t rest b h = deeper depth octets t rest (test-spelled (name.Flag k) octets behind t rest b h)
  named-spelled (name.Day k) octets behind t rest b h = deeper depth octets t rest (test-spelled (name.Day k) octets behind t rest b h)
  named-spelled (name.Size k) octets behind t rest b h = deeper depth octets t rest (test-spelled (name.Size k) octets behind t rest b h)
  named-spelled name.Uid octets behind t rest b h = deeper depth octets t rest (test-spelled name.Uid octets behind t rest b h)

  -- Some keys were read, and a closing parenthesis follows them.
  record AreKeysRead (octets : List ℕ) (ts : List KeyTree) (rest : List ℕ) : Type 0 where
    begins : BeginsKeys (trees ts) octets rest
    depth_fits : trees_depth (trees ts) ≤ depth

  abbrev many_told : List KeyTree → List ℕ → Option (List KeyTree × List ℕ)
  many_told ts rest = Some (ts, rest)

  first-alone : (octets : List ℕ) (t : KeyTree) (r : List ℕ) (ts : List KeyTree) (rest : List ℕ) → IsKeyRead depth octets t r
      → many_told (t ∷ []) r ≡ Some (ts, 41 ∷ rest) → AreKeysRead octets ts rest
  first-alone octets t r ts rest k h =
      let e : (t ∷ [], r) ≡ (ts, 41 ∷ rest) = cc in
      let a : t ∷ [] ≡ ts = ap (λ (p : List KeyTree × List ℕ). p.0) e in
      let b : r ≡ 41 ∷ rest = ap (λ (p : List KeyTree × List ℕ). p.1) e in
      subst (λ l. AreKeysRead octets l rest) a
      (record { begins = subst (λ l. BeginsKey t octets l) b k.begins; depth_fits = max-le k.depth_fits (omega arith) })

  first-before : (octets next : List ℕ) (t : KeyTree) (more : List KeyTree) (r : List ℕ) (ts : List KeyTree) (rest : List ℕ)
      → BeginsKey t octets (32 ∷ next) → tree_depth t ≤ depth → (r ≡ 41 ∷ rest → AreKeysRead next more rest)
      → many_told (t ∷ more) r ≡ Some (ts, 41 ∷ rest) → AreKeysRead octets ts rest
  first-before octets next t [] r ts rest k fits ih h =
      let e : (t ∷ [], r) ≡ (ts, 41 ∷ rest) = cc in
      absurd (ih (ap (λ (p : List KeyTree × List ℕ). p.1) e)).begins
  first-before octets next t (u ∷ us) r ts rest k fits ih h =
      let e : (t ∷ u ∷ us, r) ≡ (ts, 41 ∷ rest) = cc in
      let a : t ∷ u ∷ us ≡ ts = ap (λ (p : List KeyTree × List ℕ). p.0) e in
      let i : AreKeysRead next (u ∷ us) rest = ih (ap (λ (p : List KeyTree × List ℕ). p.1) e) in
      subst (λ l. AreKeysRead octets l rest) a
      (record { begins = (next, k, i.begins); depth_fits = max-le fits i.depth_fits })

  with-first : (octets next : List ℕ) (t : KeyTree) (o : Option (List KeyTree × List ℕ)) (ts : List KeyTree) (rest : List ℕ)
      → BeginsKey t octets (32 ∷ next) → tree_depth t ≤ depth
      → ((more : List KeyTree) → o ≡ Some (more, 41 ∷ rest) → AreKeysRead next more rest)
      → with_first t o ≡ Some (ts, 41 ∷ rest) → AreKeysRead octets ts rest
  with-first octets next t None ts rest k fits ih h = cc
  with-first octets next t (Some p) ts rest k fits ih h =
      first-before octets next t p.0 p.1 ts rest k fits (λ e. ih p.0 (ap (λ l. Some (p.0, l)) e)) h

  behind-first : (n : ℕ) (octets : List ℕ) (t : KeyTree) (r : List ℕ) (o : Option (List ℕ)) (ts : List KeyTree) (rest : List ℕ)
      → IsKeyRead depth octets t r → byte_at 32 r ≡ o
      → ((next : List ℕ) (more : List KeyTree) → many_at inner n next ≡ Some (more, 41 ∷ rest) → AreKeysRead next more rest)
      → behind_space (many_at inner n) t r o ≡ Some (ts, 41 ∷ rest) → AreKeysRead octets ts rest
  behind-first n octets t r None ts rest k s ih h = first-alone octets t r ts rest k h
  behind-first n octets t r (Some next) ts rest k s ih h =
      with-first octets next t (many_at inner n next) ts rest
      (subst (λ l. BeginsKey t octets l) (byte_some 32 r next s) k.begins) k.depth_fits (λ more. ih next more) h

  keys-spelled : (n : ℕ) (octets : List ℕ) (ts : List KeyTree) (rest : List ℕ)
      → many_at inner n octets ≡ Some (ts, 41 ∷ rest) → AreKeysRead octets ts rest
  keys-spelled zero octets ts rest h = cc
  keys-spelled (suc n) octets ts rest h =
      let k = bind_some (inner octets) _ (ts, 41 ∷ rest) h in
      behind-first n octets k.0.0 k.0.1 (byte_at 32 k.0.1) ts rest (law octets k.0.0 k.0.1 k.1) refl
      (λ next more. keys-spelled n next more rest) k.2

  list-spelled : (octets : List ℕ) (t : KeyTree) (rest : List ℕ) → key_list_at inner octets ≡ Some (t, rest)
      → IsOuter octets t rest
  list-spelled octets t rest h =
      let i = bind_some (byte_at 40 octets) _ (t, rest) h in
      let k = bind_some (many_at inner (length i.0) i.0) _ (t, rest) i.2 in
      let c = bind_some (byte_at 41 k.0.1) _ (t, rest) k.2 in
      let e : many_at inner (length i.0) i.0 ≡ Some (k.0.0, 41 ∷ c.0)
      = k.1 ∙ ap (λ l. Some (k.0.0, l)) (byte_some 41 k.0.1 c.0 c.1) in
      let s : AreKeysRead i.0 k.0.0 c.0 = keys-spelled (length i.0) i.0 k.0.0 c.0 e in
      let f : trees_depth (trees k.0.0) ≤ depth = s.depth_fits in
      carry (IsOuter octets) (Every (trees k.0.0)) t c.0 rest c.2
      (record { begins = (i.0, byte_some 40 octets i.0 i.1, s.begins); depth_fits = omega (arith, f) })

  set-spelled : (octets : List ℕ) (t : KeyTree) (rest : List ℕ)
      → is_digit (slice_index octets 0) || (slice_index octets 0 == 42) ≡ true
      → numbers_at octets ≡ Some (t, rest) → IsOuter octets t rest
  set-spelled octets t rest starts h =
      let s = bind_some (set_at octets) _ (t, rest) h in
      carry (IsOuter octets) (Single (Numbers s.0.0)) t s.0.1 rest s.2
      (record { begins = record { starts = starts; is = set_spelled octets s.0.0 s.0.1 s.1 }; depth_fits = omega arith })

  no-digit : (d e : Bool) → d || e ≡ false → d ≡ false
  no-digit false e h = refl
  no-digit true e h = cc

  word-spelled : (octets : List ℕ) (t : KeyTree) (rest : List ℕ)
      → is_digit (slice_index octets 0) || (slice_index octets 0 == 42) ≡ false
      → named_at inner octets ≡ Some (t, rest) → IsOuter octets t rest
  word-spelled octets t rest starts h =
      let k = bind_some (key_name_at octets) _ (t, rest) h in
      named-spelled k.0.0 octets k.0.1 t rest
      (name_spelled octets k.0.0 k.0.1 (no-digit (is_digit (slice_index octets 0)) (slice_index octets 0 == 42) starts) k.1) k.2

  by-first : (d l : Bool) (octets : List ℕ) (t : KeyTree) (rest : List ℕ)
      → is_digit (slice_index octets 0) || (slice_index octets 0 == 42) ≡ d
      → (if d then numbers_at octets else if l then key_list_at inner octets else named_at inner octets) ≡ Some (t, rest)
      → IsOuter octets t rest
  by-first true l octets t rest d h = set-spelled octets t rest d h
  by-first false true octets t rest d h = list-spelled octets t rest h
  by-first false false octets t rest d h = word-spelled octets t rest d h

  outer-spelled : (octets : List ℕ) (t : KeyTree) (rest : List ℕ) → key_by inner octets ≡ Some (t, rest)
      → IsOuter octets t rest
  unfolding key_by
  outer-spelled octets t rest h =
      by-first (is_digit (slice_index octets 0) || (slice_index octets 0 == 42)) (slice_index octets 0 == 40) octets t rest refl h

-- What is read is spelled.
pub key_spelled : (depth : ℕ) (octets : List ℕ) (t : KeyTree) (rest : List ℕ) → key_at depth octets ≡ Some (t, rest)
    → IsKeyRead depth octets t rest
key_spelled zero octets t rest h = cc
key_spelled (suc depth) octets t rest h = outer-spelled (key_at depth) depth (key_spelled depth) octets t rest h

-- One spelling has one reading.
pub key_one : (octets : List ℕ) (t u : KeyTree) (rest others : List ℕ) → BeginsKey t octets rest → BeginsKey u octets others
    → (t ≡ u) × (rest ≡ others)
key_one octets t u rest others s q =
    let a : key_at (max (tree_depth t) (tree_depth u)) octets ≡ Some (t, rest)
    = key_read (max (tree_depth t) (tree_depth u)) t octets rest s (le-max_left (tree_depth t) (tree_depth u)) in
    let b : key_at (max (tree_depth t) (tree_depth u)) octets ≡ Some (u, others)
    = key_read (max (tree_depth t) (tree_depth u)) u octets others q (le-max_right (tree_depth t) (tree_depth u)) in
    let e : told t rest ≡ Some (u, others) = sym a ∙ b in
    carry (λ k r. (t ≡ k) × (rest ≡ r)) t u rest others e (refl, refl)
