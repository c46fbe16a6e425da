-- What the calls of a set do to its keys, by the rank of a key and what is there.
use Rattle.std.proofs.Common.{◌≡◌, ℕ, Bool, true, false, cond, List, Result, Ok, Err, OnOk, refl, sym, ap, ◌∙◌}
use Rattle.std.specs.Prelude.{is_ok}
use Rattle.std.specs.declared.cmp.Ordering.{Ordering}
use Rattle.std.specs.Cmp.{IsTotalOrder}
use Rattle.std.specs.List.{list_any, prefix_len, insert, remove, slice_get}
use Rattle.std.specs.List.Sorted.{IsStrictlySortedBy}
use Rattle.std.specs.BTreeMap.{is_at}
use Rattle.std.specs.BTreeSet.{insert_key}
use Rattle.std.specs.Set.{remove_key}
use Rattle.ranked_set.specs.Ranks.{rank_of, has_key}
use Rattle.ranked_set.proofs.SortedKeys.{before, rank-count, rank-found, insert-at_rank, insert-present, sorted-insert, sorted-remove, remove-at_rank, remove-absent}

pub on_ok_if : {T E P : Type 0} (r : Result T E) → (is_ok r ≡ true → P) → OnOk r P
on_ok_if (Ok x) f = f refl
on_ok_if (Err y) f = tt

-- The rank of a key was found in a set, and whether that key is there.
pub record Looked {K : Type 0} (R : K → K → Ordering) (key : K) (tree now : List K) (index : ℕ) (found : Bool) : Type 0 where
  pub view : tree ≡ now
  pub sorted : IsStrictlySortedBy R tree
  pub rank : index ≡ prefix_len (before R key) tree
  pub there : found ≡ has_key R key (slice_get now index)

module _ {K : Type 0} {R : K → K → Ordering} (o : IsTotalOrder R) where
  pub looked_sorted : (key : K) (tree now : List K) (index : ℕ) (found : Bool) → Looked R key tree now index found → IsStrictlySortedBy R now
  looked_sorted key tree now index found l = rw l.view at l.sorted

  pub looked_found : (key : K) (tree now : List K) (index : ℕ) (found : Bool) → Looked R key tree now index found → found ≡ list_any (is_at (R key)) now
  looked_found key tree now index found l = l.there ∙ rw (l.rank, l.view) (rank-found o key now (looked_sorted key tree now index found l))

  pub looked_rank : (key : K) (tree now : List K) (index : ℕ) → tree ≡ now → IsStrictlySortedBy R tree → index ≡ prefix_len (before R key) tree → index ≡ rank_of R now key
  looked_rank key tree now index v s r = r ∙ rw v (rank-count o key now (rw v at s))

  -- A key that is there.
  pub kept_there : (key : K) (tree now : List K) (index : ℕ) (found : Bool) → Looked R key tree now index found → found ≡ true → now ≡ insert_key R now key
  kept_there key tree now index found l there =
      sym (insert-present o key now (looked_sorted key tree now index found l) (sym (looked_found key tree now index found l) ∙ there))

  pub removed_there : (key : K) (tree now : List K) (index : ℕ) (found : Bool) (new : List K) → Looked R key tree now index found → found ≡ true → new ≡ remove tree index
      → new ≡ remove_key (is_at (R key)) now
  removed_there key tree now index found new l there is =
      let place : index ≡ prefix_len (before R key) now = l.rank ∙ rw l.view refl in
      let at_rank : has_key R key (slice_get now (prefix_len (before R key) now)) ≡ true = rw (sym place) (sym l.there ∙ there) in
      is ∙ rw (l.view, place) (remove-at_rank o key now at_rank)

  -- A key that isn't there.
  pub removed_none : (key : K) (tree now : List K) (index : ℕ) (found : Bool) → Looked R key tree now index found → found ≡ false → now ≡ remove_key (is_at (R key)) now
  removed_none key tree now index found l none = sym (remove-absent R (is_at (R key)) now (sym (looked_found key tree now index found l) ∙ none))

  pub inserted_new : (key : K) (tree now : List K) (index : ℕ) (found ok : Bool) (new : List K) → Looked R key tree now index found → found ≡ false → new ≡ cond ok (insert tree index key) tree
      → new ≡ cond ok (insert_key R now key) now
  inserted_new key tree now index found ok new l none is =
      let place : index ≡ prefix_len (before R key) now = l.rank ∙ rw l.view refl in
      is ∙ rw (l.view, place) (ap (λ t. cond ok t now) (insert-at_rank o key now (sym (looked_found key tree now index found l) ∙ none)))

  -- The keys stay in order.
  pub sorted_removed : (test : K → Bool) (now new : List K) → IsStrictlySortedBy R now → new ≡ remove_key test now → IsStrictlySortedBy R new
  sorted_removed test now new s e = rw e (sorted-remove R test now s)

  pub sorted_inserted : (key : K) (ok : Bool) (now new : List K) → IsStrictlySortedBy R now → new ≡ cond ok (insert_key R now key) now → IsStrictlySortedBy R new
  sorted_inserted key true now new s e = rw e (sorted-insert o key now s)
  sorted_inserted key false now new s e = rw e s
