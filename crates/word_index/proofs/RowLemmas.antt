-- Rows that are kept, as the rows that they are.
use Rattle.std.proofs.Common.{◌≡◌, ℕ, Bool, true, false, cond, List, [], ◌∷◌, Option, Some, None, is_some, option_map, refl, sym, ap, ◌∙◌}
use Rattle.std.proofs.lemmas.Map.Made.{lookup-map_values, keys_of-map_values}
use Rattle.std.specs.Map.{lookup, keys_of, remove_entry}
use Rattle.std.specs.Ordering.{nat_cmp, match_ordering}
use Rattle.std.specs.declared.cmp.Ordering.{Ordering}
use Rattle.std.specs.declared.cmp.Ordering.TheVariants.{Less, Equal, Greater}
use Rattle.std.specs.BTreeMap.{insert_entry, is_at}
use Rattle.word_index.specs.declared.rows.KeptRow.{KeptRow}
use Rattle.word_index.specs.Rows.{WordRow, row_at}
use Rattle.word_index.specs.Kept.{shown, shown_all}

module _ (words : List (List ℕ)) where
  -- The row with a number.
  pub row_at-shown : (entries : List (ℕ × KeptRow)) (n : ℕ) → row_at (shown_all words entries) n ≡ option_map (shown words) (lookup (is_at (nat_cmp n)) entries)
  row_at-shown entries n = lookup-map_values (shown words) (is_at (nat_cmp n)) entries

  pub keys-shown : (entries : List (ℕ × KeptRow)) → keys_of (shown_all words entries) ≡ keys_of entries
  keys-shown entries = keys_of-map_values (shown words) entries

  shown-ordered : (o : Ordering) (a b c : List (ℕ × KeptRow)) → shown_all words (match_ordering o a b c) ≡ match_ordering o (shown_all words a) (shown_all words b) (shown_all words c)
  shown-ordered Less a b c = refl
  shown-ordered Equal a b c = refl
  shown-ordered Greater a b c = refl

  -- A number has a row exactly if one is kept under it.
  pub has_row : (entries : List (ℕ × KeptRow)) (n : ℕ) → is_some (row_at (shown_all words entries) n) ≡ is_some (lookup (is_at (nat_cmp n)) entries)
  has_row entries n = ap is_some (row_at-shown entries n) ∙ mapped (lookup (is_at (nat_cmp n)) entries)
    where
      mapped : (o : Option KeptRow) → is_some (option_map (shown words) o) ≡ is_some o
      mapped None = refl
      mapped (Some row) = refl

  -- The row of which one is kept, and of which none is.
  pub row_at-some : (entries : List (ℕ × KeptRow)) (n : ℕ) (row : KeptRow) → Some row ≡ lookup (is_at (nat_cmp n)) entries → row_at (shown_all words entries) n ≡ Some (shown words row)
  row_at-some entries n row found = row_at-shown entries n ∙ ap (option_map (shown words)) (sym found)

  pub row_at-none : (entries : List (ℕ × KeptRow)) (n : ℕ) → None ≡ lookup (is_at (nat_cmp n)) entries → row_at (shown_all words entries) n ≡ None
  row_at-none entries n none = row_at-shown entries n ∙ ap (option_map (shown words)) (sym none)

  -- One more row.
  pub shown-insert : (entries : List (ℕ × KeptRow)) (n : ℕ) (row : KeptRow) → shown_all words (insert_entry nat_cmp entries n row) ≡ insert_entry nat_cmp (shown_all words entries) n (shown words row)
  shown-insert [] n row = refl
  shown-insert (e ∷ es) n row =
      shown-ordered (nat_cmp n e.0) ((n, row) ∷ e ∷ es) ((e.0, row) ∷ es) (e ∷ insert_entry nat_cmp es n row)
      ∙ ap (λ (rest : List (ℕ × WordRow)). match_ordering (nat_cmp n e.0) ((n, shown words row) ∷ shown_all words (e ∷ es)) ((e.0, shown words row) ∷ shown_all words es) ((e.0, shown words e.1) ∷ rest)) (shown-insert es n row)

  shown-cond : (b : Bool) (x y : List (ℕ × KeptRow)) → shown_all words (cond b x y) ≡ cond b (shown_all words x) (shown_all words y)
  shown-cond true x y = refl
  shown-cond false x y = refl

  -- One row less.
  pub shown-remove : (test : ℕ → Bool) (entries : List (ℕ × KeptRow)) → shown_all words (remove_entry test entries) ≡ remove_entry test (shown_all words entries)
  shown-remove test [] = refl
  shown-remove test (e ∷ es) =
      shown-cond (test e.0) es (e ∷ remove_entry test es) ∙ ap (λ (rest : List (ℕ × WordRow)). cond (test e.0) (shown_all words es) ((e.0, shown words e.1) ∷ rest)) (shown-remove test es)

  option_map-cond : {X Y : Type 0} (f : X → Y) (b : Bool) (x y : Option X) → option_map f (cond b x y) ≡ cond b (option_map f x) (option_map f y)
  option_map-cond f true x y = refl
  option_map-cond f false x y = refl

  -- The row with a number, after a change of the rows.
  pub row_at-updated : (old new : List (ℕ × KeptRow)) (n : ℕ) (row : Option KeptRow) → ((m : ℕ) → lookup (is_at (nat_cmp m)) new ≡ cond (is_at (nat_cmp n) m) row (lookup (is_at (nat_cmp m)) old))
      → (m : ℕ) → row_at (shown_all words new) m ≡ cond (is_at (nat_cmp n) m) (option_map (shown words) row) (row_at (shown_all words old) m)
  row_at-updated old new n row updates m =
      row_at-shown new m ∙ ap (option_map (shown words)) (updates m) ∙ option_map-cond (shown words) (is_at (nat_cmp n) m) row (lookup (is_at (nat_cmp m)) old)
      ∙ ap (λ (o : Option WordRow). cond (is_at (nat_cmp n) m) (option_map (shown words) row) o) (sym (row_at-shown old m))
