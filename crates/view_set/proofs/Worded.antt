-- Words by number beside rows by number: one message more or less.
use Rattle.std.specs.Prelude.{◌≡◌, ℕ, Bool, true, false, List, [], ◌∷◌, Some, None, refl}
use Rattle.std.specs.declared.cmp.Ordering.{Ordering}
use Rattle.std.specs.declared.cmp.Ordering.TheVariants.{Less, Equal, Greater}
use Rattle.std.specs.Ordering.{nat_cmp, is_eq, match_ordering}
use Rattle.std.specs.BTreeMap.{is_at, insert_entry}
use Rattle.std.specs.BTreeSet.{insert_key}
use Rattle.std.specs.Set.{remove_key}
use Rattle.std.specs.Map.{keys_of, remove_entry}
use Rattle.std.proofs.Common.{◌∙◌, sym, ap, cond}
use Rattle.mail_forms.specs.declared.row.Row.{Row}
use Rattle.overview_index.specs.Listings.{row_in, with_row, without}
use Rattle.overview_index.proofs.RowLists.{none_front, keys-insert, keys-remove}
use Rattle.thread_model.proofs.Entries.{true-at}
use Rattle.word_index.specs.Rows.{WordRow as Worded, row_at}
use Rattle.view_set.specs.Viewed.{AreWorded}

heads : (x y : ℕ) (xs ys : List ℕ) → x ∷ xs ≡ y ∷ ys → x ≡ y
heads x y xs ys is = cc

tails : (x y : ℕ) (xs ys : List ℕ) → x ∷ xs ≡ y ∷ ys → xs ≡ ys
tails x y xs ys is = cc

-- A number without a row has no words.
pub worded-none : (rows : List (ℕ × Row)) (words : List (ℕ × Worded)) (n : ℕ) → AreWorded rows words → row_in rows n ≡ None → row_at words n ≡ None
worded-none rows [] n same none = refl
worded-none [] (w ∷ ws) n same none = absurd (cc)
worded-none (e ∷ rows) (w ∷ ws) n same none =
    let front = none_front (is_at (nat_cmp n) e.0) e.1 (row_in rows n) none in
    let head : w.0 ≡ e.0 = heads w.0 e.0 (keys_of ws) (keys_of rows) same in
    ap (λ (t : Bool). cond t (Some w.1) (row_at ws n)) (ap (λ (m : ℕ). is_at (nat_cmp n) m) head ∙ front.0)
    ∙ worded-none rows ws n (tails w.0 e.0 (keys_of ws) (keys_of rows) same) front.1

-- The numbers after one message more, and after one less.
keys-put : (words : List (ℕ × Worded)) (n : ℕ) (word : Worded) → keys_of (insert_entry nat_cmp words n word) ≡ insert_key nat_cmp (keys_of words) n
keys-put [] n word = refl
keys-put (e ∷ words) n word = step (nat_cmp n e.0) (keys-put words n word)
  where
    step : (r : Ordering) → keys_of (insert_entry nat_cmp words n word) ≡ insert_key nat_cmp (keys_of words) n
        → keys_of (match_ordering r ((n, word) ∷ e ∷ words) ((e.0, word) ∷ words) (e ∷ insert_entry nat_cmp words n word)) ≡ match_ordering r (n ∷ e.0 ∷ keys_of words) (e.0 ∷ keys_of words) (e.0 ∷ insert_key nat_cmp (keys_of words) n)
    step Less ih = refl
    step Equal ih = refl
    step Greater ih = ap (λ t. e.0 ∷ t) ih

keys-gone : (words : List (ℕ × Worded)) (n : ℕ) → keys_of (remove_entry (is_at (nat_cmp n)) words) ≡ remove_key (is_at (nat_cmp n)) (keys_of words)
keys-gone [] n = refl
keys-gone (e ∷ words) n = step (is_at (nat_cmp n) e.0) (keys-gone words n)
  where
    step : (t : Bool) → keys_of (remove_entry (is_at (nat_cmp n)) words) ≡ remove_key (is_at (nat_cmp n)) (keys_of words)
        → keys_of (cond t words (e ∷ remove_entry (is_at (nat_cmp n)) words)) ≡ cond t (keys_of words) (e.0 ∷ remove_key (is_at (nat_cmp n)) (keys_of words))
    step true ih = refl
    step false ih = ap (λ t. e.0 ∷ t) ih

pub worded-added : (rows : List (ℕ × Row)) (words : List (ℕ × Worded)) (row : Row) (n : ℕ) (word : Worded) → AreWorded rows words → n ≡ row.number → AreWorded (with_row rows row) (insert_entry nat_cmp words n word)
worded-added rows words row n word same is =
    keys-put words n word
    ∙ ap (λ (ks : List ℕ). insert_key nat_cmp ks n) same
    ∙ ap (insert_key nat_cmp (keys_of rows)) is
    ∙ sym (keys-insert rows row.number row)

pub worded-taken : (rows : List (ℕ × Row)) (words : List (ℕ × Worded)) (n : ℕ) → AreWorded rows words → AreWorded (without rows n) (remove_entry (is_at (nat_cmp n)) words)
worded-taken rows words n same = keys-gone words n ∙ ap (remove_key (is_at (nat_cmp n))) same ∙ sym (keys-remove rows n)

-- Words that were added and taken again leave the others as they were.
pub words-back : (words : List (ℕ × Worded)) (n : ℕ) (word : Worded) → row_at words n ≡ None → remove_entry (is_at (nat_cmp n)) (insert_entry nat_cmp words n word) ≡ words
words-back [] n word none = ap (λ (t : Bool). cond t [] ((n, word) ∷ [])) (true-at n n refl)
words-back (e ∷ words) n word none =
    let parts = none_front (is_at (nat_cmp n) e.0) e.1 (row_at words n) none in
    step (nat_cmp n e.0) refl parts.0 (words-back words n word parts.1)
  where
    here : is_at (nat_cmp n) n ≡ true
    here = true-at n n refl

    step : (r : Ordering) → nat_cmp n e.0 ≡ r → is_eq r ≡ false → remove_entry (is_at (nat_cmp n)) (insert_entry nat_cmp words n word) ≡ words
        → remove_entry (is_at (nat_cmp n)) (match_ordering r ((n, word) ∷ e ∷ words) ((e.0, word) ∷ words) (e ∷ insert_entry nat_cmp words n word)) ≡ e ∷ words
    step Less f g ih = ap (λ (t : Bool). cond t (e ∷ words) ((n, word) ∷ remove_entry (is_at (nat_cmp n)) (e ∷ words))) here
    step Equal f g ih = absurd (cc)
    step Greater f g ih = rw f (ap (λ t. e ∷ t) ih)
