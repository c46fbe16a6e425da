-- Rows with their keys, and what a change of the rows makes of them.
use Rattle.std.specs.Prelude.{◌≡◌, ◌⊎◌, ℕ, Bool, true, false, List, [], ◌∷◌, Result, Ok, Err, OnOk, OnErr, is_ok, None, refl}
use Rattle.std.specs.declared.cmp.Ordering.{Ordering}
use Rattle.std.specs.declared.cmp.Ordering.TheVariants.{Less, Equal, Greater}
use Rattle.std.specs.Ordering.{nat_cmp, match_ordering}
use Rattle.std.specs.BTreeMap.{is_at, insert_entry}
use Rattle.std.specs.Map.{remove_entry}
use Rattle.std.proofs.Common.{◌∙◌, sym, ap, subst, cond, inl, inr}
use Rattle.std.proofs.lemmas.Bool.{false≢true}
use Rattle.mail_forms.specs.declared.row.Row.{Row}
use Rattle.overview_index.specs.Listings.{row_in, with_row, without}
use Rattle.overview_index.proofs.RowLists.{none_front, without-with}
use Rattle.thread_model.specs.Threads.{KeyedRow as Keyed}
use Rattle.thread_model.proofs.Entries.{true-at}
use Rattle.thread_index.specs.Index.{Threads, IsNew, members_of}
use Rattle.view_set.specs.Threads.{keys_of, keyed, thread_in, AreThreaded, ThreadsBecome}

-- One row more, and one less.
keyed-insert : (rows : List (ℕ × Row)) (n : ℕ) (row : Row) → keyed (insert_entry nat_cmp rows n row) ≡ insert_entry nat_cmp (keyed rows) n (keys_of row)
keyed-insert [] n row = refl
keyed-insert (e ∷ rows) n row = step (nat_cmp n e.0) (keyed-insert rows n row) where
  step : (o : Ordering) → keyed (insert_entry nat_cmp rows n row) ≡ insert_entry nat_cmp (keyed rows) n (keys_of row)
      → keyed (match_ordering o ((n, row) ∷ e ∷ rows) ((e.0, row) ∷ rows) (e ∷ insert_entry nat_cmp rows n row))
      ≡ match_ordering o ((n, keys_of row) ∷ (e.0, keys_of e.1) ∷ keyed rows) ((e.0, keys_of row) ∷ keyed rows) ((e.0, keys_of e.1) ∷ insert_entry nat_cmp (keyed rows) n (keys_of row))
  step Less ih = refl
  step Equal ih = refl
  step Greater ih = ap (λ (rs : List Keyed). (e.0, keys_of e.1) ∷ rs) ih

keyed-remove : (rows : List (ℕ × Row)) (n : ℕ) → keyed (without rows n) ≡ remove_entry (is_at (nat_cmp n)) (keyed rows)
keyed-remove [] n = refl
keyed-remove (e ∷ rows) n = step (is_at (nat_cmp n) e.0) (keyed-remove rows n) where
  step : (t : Bool) → keyed (without rows n) ≡ remove_entry (is_at (nat_cmp n)) (keyed rows)
      → keyed (cond t rows (e ∷ without rows n)) ≡ cond t (keyed rows) ((e.0, keys_of e.1) ∷ remove_entry (is_at (nat_cmp n)) (keyed rows))
  step true ih = refl
  step false ih = ap (λ (rs : List Keyed). (e.0, keys_of e.1) ∷ rs) ih

-- A number without a row is new among the threads.
new-keyed : (rows : List (ℕ × Row)) (n : ℕ) → row_in rows n ≡ None → IsNew (keyed rows) n
new-keyed [] n none r in' is = in'
new-keyed (e ∷ rows) n none r (inl here) is =
    let front = none_front (is_at (nat_cmp n) e.0) e.1 (row_in rows n) none in
    false≢true (sym front.0 ∙ true-at n e.0 (sym is ∙ ap (λ (k : Keyed). k.0) here))
new-keyed (e ∷ rows) n none r (inr later) is =
    let front = none_front (is_at (nat_cmp n) e.0) e.1 (row_in rows n) none in
    new-keyed rows n front.1 r later is

pub new-number : (rows : List (ℕ × Row)) (threads : Threads) (n : ℕ) → AreThreaded rows threads → row_in rows n ≡ None → threads.whole ≡ true → IsNew threads.rows n
new-number rows threads n threaded none whole = rw (threaded whole) (new-keyed rows n none)

-- The threads after one row more, and after one less.
pub threaded-added : (rows : List (ℕ × Row)) (old new : Threads) (row : Row) (n : ℕ) (keys : List (List ℕ)) → AreThreaded rows old → n ≡ row.number → keys ≡ keys_of row → ThreadsBecome old new (insert_entry nat_cmp old.rows n keys) → AreThreaded (with_row rows row) new
threaded-added rows old new row n keys threaded number_is keys_are becomes = λ whole.
    let done = becomes whole in
    done.1
    ∙ ap (λ (rs : List Keyed). insert_entry nat_cmp rs n keys) (threaded done.0)
    ∙ ap (λ (ks : List (List ℕ)). insert_entry nat_cmp (keyed rows) n ks) keys_are
    ∙ ap (λ (m : ℕ). insert_entry nat_cmp (keyed rows) m (keys_of row)) number_is
    ∙ sym (keyed-insert rows row.number row)

pub threaded-taken : (rows : List (ℕ × Row)) (old new : Threads) (n : ℕ) → AreThreaded rows old → ThreadsBecome old new (remove_entry (is_at (nat_cmp n)) old.rows) → AreThreaded (without rows n) new
threaded-taken rows old new n threaded becomes = λ whole.
    let done = becomes whole in
    done.1 ∙ ap (λ (rs : List Keyed). remove_entry (is_at (nat_cmp n)) rs) (threaded done.0) ∙ sym (keyed-remove rows n)

-- Threads that aren't whole are those of any rows.
pub threaded-not : (rows : List (ℕ × Row)) (threads : Threads) → threads.whole ≡ false → AreThreaded rows threads
threaded-not rows threads broken = λ whole. absurd (false≢true (sym broken ∙ whole))

-- Threads that were left as they were, or that aren't whole, are those of the rows as before.
pub threaded-either : (rows : List (ℕ × Row)) (old new : Threads) → AreThreaded rows old → (new ≡ old) ⊎ (new.whole ≡ false) → AreThreaded rows new
threaded-either rows old new threaded (inl same) = subst (λ (t : Threads). AreThreaded rows t) (sym same) threaded
threaded-either rows old new threaded (inr broken) = threaded-not rows new broken

-- A row that was added and taken again leaves the rows as they were.
pub taken-back : (rows : List (ℕ × Row)) (row : Row) (n : ℕ) → n ≡ row.number → row_in rows row.number ≡ None → without (with_row rows row) n ≡ rows
taken-back rows row n number_is none = ap (without (with_row rows row)) number_is ∙ without-with rows row.number row none

-- What a change of whole threads made of them, where it found memory.
pub becomes-by : {T E : Type 0} (result : Result T E) (old new : Threads) (rows : List Keyed) → old.whole ≡ true → new.whole ≡ is_ok result → OnOk result (new.rows ≡ rows) → ThreadsBecome old new rows
becomes-by (Ok x) old new rows was is rows_are = λ whole. (was, rows_are)
becomes-by (Err e) old new rows was is rows_are = λ whole. absurd (false≢true (sym is ∙ whole))

-- Without memory it broke them.
pub broken-by : {T E : Type 0} (result : Result T E) (whole : Bool) → whole ≡ is_ok result → OnErr result (whole ≡ false)
broken-by (Ok x) whole is = tt
broken-by (Err e) whole is = is

-- Threads that weren't whole are left.
pub becomes-not : (threads : Threads) (rows : List Keyed) → threads.whole ≡ false → ThreadsBecome threads threads rows
becomes-not threads rows broken = λ whole. absurd (false≢true (sym broken ∙ whole))

-- The thread of a number in an index of the rows.
pub thread-is : (rows : List (ℕ × Row)) (threads : List Keyed) (n : ℕ) (ns : List ℕ) → threads ≡ keyed rows → ns ≡ members_of threads n → ns ≡ thread_in rows n
unfolding thread_in
thread-is rows threads n ns same is = is ∙ ap (λ (rs : List Keyed). members_of rs n) same
