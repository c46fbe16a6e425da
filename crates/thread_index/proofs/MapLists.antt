-- Maps of lists after a list was put in or taken out.
use Rattle.std.proofs.Common.{◌≡◌, ◌<◌, ℕ, Bool, true, false, List, [], ◌∷◌, Option, Some, None, unwrap_or, if◌then◌else◌, refl, sym, ◌∙◌, ap, inl, nat_cmp, bytes_eq, slice_get, BTreeMap, suc, length, arith}
use Rattle.std.specs.Cmp.Lexicographic.{slice_cmp}
use Rattle.std.specs.Map.{remove_entry}
use Rattle.std.specs.BTreeMap.{get_by, insert_entry, is_at}
use Rattle.std.specs.Global.{Vec}
use Rattle.std.proofs.lemmas.Bool.{eq-eqb, ne_eqb}
use Rattle.std.proofs.lemmas.Slice.Eq.{bytes_eq-Decides}
use Rattle.thread_model.specs.Members.{Among}
use Rattle.thread_model.specs.Labelling.{label_or_zero}
use Rattle.thread_model.proofs.Entries.{none-some, some-same}
use Rattle.thread_model.proofs.Texts.{found_after, lost_after}
use Rattle.thread_index.specs.Lists.{items_in, list_at_key, PutsList, PutsKey}

key-items : (t : Bool) (w found : Option (Vec ℕ)) → items_in (if t then w else found) ≡ (if t then items_in w else items_in found)
key-items true w found = refl
key-items false w found = refl

-- A map by keys, after a key got a list.
pub puts-key : (old new : BTreeMap (Vec ℕ) (Vec ℕ)) (key : Vec ℕ) (bytes : List ℕ) (v : Vec ℕ) → key.items ≡ bytes → new.entries ≡ insert_entry (λ (a b : Vec ℕ). slice_cmp nat_cmp a.items b.items) old.entries key v → PutsKey (list_at_key old) (list_at_key new) bytes v.items
puts-key old new key bytes v is e = λ q.
    ap items_in (found_after (λ (k : Vec ℕ). k.items) q key v old.entries new.entries e)
    ∙ key-items (bytes_eq q key.items) (Some v) (get_by (λ (k : Vec ℕ). slice_cmp nat_cmp q k.items) old)
    ∙ ap (λ (b : List ℕ). if bytes_eq q b then v.items else list_at_key old q) is

-- A map by keys, after a key lost its list.
pub takes-key : (old new : BTreeMap (Vec ℕ) (Vec ℕ)) (bytes : List ℕ) → new.entries ≡ remove_entry (is_at (λ (k : Vec ℕ). slice_cmp nat_cmp bytes k.items)) old.entries → get_by (λ (k : Vec ℕ). slice_cmp nat_cmp bytes k.items) new ≡ None → PutsKey (list_at_key old) (list_at_key new) bytes []
takes-key old new bytes e none = λ q.
    ap items_in (lost_after (λ (k : Vec ℕ). k.items) q bytes old.entries new.entries e none)
    ∙ key-items (bytes_eq q bytes) None (get_by (λ (k : Vec ℕ). slice_cmp nat_cmp q k.items) old)

-- What a put list says at its number, and at another one.
pub put-here : (old new : ℕ → List ℕ) (n : ℕ) (list : List ℕ) → PutsList old new n list → new n ≡ list
put-here old new n list puts = puts n ∙ ap (λ (t : Bool). if t then list else old n) (eq-eqb n n refl)

pub put-other : (old new : ℕ → List ℕ) (n : ℕ) (list : List ℕ) → PutsList old new n list → (m : ℕ) → (m ≡ n → ⊥) → new m ≡ old m
put-other old new n list puts m other = puts m ∙ ap (λ (t : Bool). if t then list else old m) (ne_eqb n m (λ s. other (sym s)))

pub key-here : (old new : List ℕ → List ℕ) (key list : List ℕ) → PutsKey old new key list → new key ≡ list
key-here old new key list puts = puts key ∙ ap (λ (t : Bool). if t then list else old key) ((bytes_eq-Decides key key).1 refl)

pub key-other : (old new : List ℕ → List ℕ) (key list : List ℕ) → PutsKey old new key list → (k : List ℕ) → bytes_eq k key ≡ false → new k ≡ old k
key-other old new key list puts k other = puts k ∙ ap (λ (t : Bool). if t then list else old k) other

pub keys-again : (old mid new : List ℕ → List ℕ) (key gone list : List ℕ) → PutsKey old mid key gone → PutsKey mid new key list → PutsKey old new key list
keys-again old mid new key gone list a b = λ k. b k ∙ twice (bytes_eq k key) list (mid k) gone (old k) (a k)
  where
    twice : (t : Bool) (x y z w : List ℕ) → y ≡ (if t then z else w) → (if t then x else y) ≡ (if t then x else w)
    twice true x y z w e = refl
    twice false x y z w e = e

pub first-some : (xs : List ℕ) (x : ℕ) → slice_get xs 0 ≡ Some x → Among xs x
first-some [] x e = absurd (none-some x e)
first-some (y ∷ ys) x e = inl (sym (some-same y x e))

-- Lists of no items.
pub length-none : {X : Type 0} (xs : List X) → length xs ≡ 0 → xs ≡ []
length-none [] e = refl
length-none (x ∷ xs) e = absurd (succ-none (length xs) e)
  where
    succ-none : (n : ℕ) → suc n ≡ 0 → ⊥
    succ-none n e = omega arith

pub none-by : {X : Type 0} (xs : List X) → (0 < length xs → ⊥) → xs ≡ []
none-by [] f = refl
none-by (x ∷ xs) f = absurd (f (some-left (length xs)))
  where
    some-left : (n : ℕ) → 0 < suc n
    some-left n = omega arith

pub unwrap-zero : (found : Option ℕ) → unwrap_or found 0 ≡ label_or_zero found
unwrap-zero None = refl
unwrap-zero (Some label) = refl
