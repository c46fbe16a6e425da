-- What tables list after each step of a change.
use Rattle.std.proofs.Common.{◌≡◌, ℕ, Bool, true, false, not, cond, ◌&&◌, ◌||◌, Option, Some, None, refl, sym, ap, ◌∙◌}
use Rattle.std.specs.Option.{option_map_or}
use Rattle.std.specs.Ordering.{nat_cmp}
use Rattle.std.specs.BTreeMap.{is_at}
use Rattle.word_index.specs.declared.rows.KeptRow.{KeptRow}
use Rattle.word_index.specs.Kept.{KeptRows, kept_at, keeps_at}
use Rattle.word_index.specs.Tables.{Lists, ListsAlso, ListsPartly}
use Rattle.word_index.proofs.Bools.{or_none, and_none, kept_step, taken_step, undone_step}
use Rattle.word_index.proofs.ListLemmas.{at-same}

-- A number without a row has nothing.
absent : (test : KeptRow → Bool) (rows : KeptRows) (n m : ℕ) → kept_at rows n ≡ None → is_at (nat_cmp n) m ≡ true → keeps_at test rows m ≡ false
absent test rows n m none here =
    ap (λ (k : ℕ). keeps_at test rows k) (sym (at-same n m here)) ∙ ap (λ (o : Option KeptRow). option_map_or test o false) none

-- A number's row has what it has.
present : (test : KeptRow → Bool) (rows : KeptRows) (n m : ℕ) (row : KeptRow) → kept_at rows n ≡ Some row → is_at (nat_cmp n) m ≡ true → keeps_at test rows m ≡ test row
present test rows n m row some here =
    ap (λ (k : ℕ). keeps_at test rows k) (sym (at-same n m here)) ∙ ap (λ (o : Option KeptRow). option_map_or test o false) some

chosen : (test : KeptRow → Bool) (i : Bool) (x y : Option KeptRow) → option_map_or test (cond i x y) false ≡ cond i (option_map_or test x false) (option_map_or test y false)
chosen test true x y = refl
chosen test false x y = refl

module _ {A : Type 0} (has : A → KeptRow → Bool) (rows : KeptRows) (table : A → ℕ → Bool) where
  -- Tables that list one further row list it in part.
  pub partly-also : (n : ℕ) (row : KeptRow) → ListsAlso has rows table n row → ListsPartly has rows table n row
  partly-also n row also =
      record {
        others = λ a m none. also a m ∙ ap (λ (b : Bool). keeps_at (has a) rows m || (b && is_at (nat_cmp n) m)) none ∙ or_none (keeps_at (has a) rows m);
        rest = λ a m other.
            also a m ∙ ap (λ (b : Bool). keeps_at (has a) rows m || (has a row && b)) other ∙ ap (λ (b : Bool). keeps_at (has a) rows m || b) (and_none (has a row))
            ∙ or_none (keeps_at (has a) rows m);
      }

  -- The further row is kept.
  pub kept : (later : KeptRows) (n : ℕ) (row : KeptRow) → kept_at rows n ≡ None → ((m : ℕ) → kept_at later m ≡ cond (is_at (nat_cmp n) m) (Some row) (kept_at rows m)) → ListsAlso has rows table n row → Lists has later table
  kept later n row new updates also a m =
      also a m ∙ kept_step (is_at (nat_cmp n) m) (has a row) (keeps_at (has a) rows m) (absent (has a) rows n m new)
      ∙ sym (ap (λ (o : Option KeptRow). option_map_or (has a) o false) (updates m) ∙ chosen (has a) (is_at (nat_cmp n) m) (Some row) (kept_at rows m))

  -- A row is kept no more.
  pub taken : (later : KeptRows) (n : ℕ) (row : KeptRow) → kept_at rows n ≡ Some row → ((m : ℕ) → kept_at later m ≡ cond (is_at (nat_cmp n) m) None (kept_at rows m)) → Lists has rows table → ListsAlso has later table n row
  taken later n row had updates lists a m =
      lists a m ∙ taken_step (is_at (nat_cmp n) m) (has a row) (keeps_at (has a) rows m) (present (has a) rows n m row had)
      ∙ ap (λ (b : Bool). b || (has a row && is_at (nat_cmp n) m))
      (sym (ap (λ (o : Option KeptRow). option_map_or (has a) o false) (updates m) ∙ chosen (has a) (is_at (nat_cmp n) m) None (kept_at rows m)))

  -- The number was added under what a row has.
  pub posts : (later : A → ℕ → Bool) (n : ℕ) (row : KeptRow) → ((a : A) (m : ℕ) → later a m ≡ (table a m || (has a row && is_at (nat_cmp n) m))) → Lists has rows table → ListsAlso has rows later n row
  posts later n row put lists a m = put a m ∙ ap (λ (b : Bool). b || (has a row && is_at (nat_cmp n) m)) (lists a m)

  -- The number was removed under what a row has.
  pub unposts : (later : A → ℕ → Bool) (n : ℕ) (row : KeptRow) → kept_at rows n ≡ None → ((a : A) (m : ℕ) → later a m ≡ (table a m && not (has a row && is_at (nat_cmp n) m))) → ListsPartly has rows table n row → Lists has rows later
  unposts later n row new lost partly a m =
      lost a m
      ∙ undone_step (is_at (nat_cmp n) m) (has a row) (keeps_at (has a) rows m) (table a m) (partly.others a m) (partly.rest a m) (absent (has a) rows n m new)
