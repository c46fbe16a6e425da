-- The threads of the rows of an archive's messages.
use Rattle.std.specs.Prelude.{◌≡◌, ◌==◌, ℕ, Bool, true, false, List, [], ◌∷◌, map, Option, Some, refl, if◌then◌else◌}
use Rattle.std.specs.Option.{unwrap_or}
use Rattle.std.specs.Ordering.{nat_cmp}
use Rattle.std.specs.BTreeMap.{is_at}
use Rattle.std.specs.Map.{lookup}
use Rattle.std.proofs.Common.{◌∙◌, sym, ap, cond}
use Rattle.std.proofs.lemmas.Bool.{false≢true, eqb-true, eq-eqb}
use Rattle.arch_base.specs.declared.ids.Form.{Form}
use Rattle.arch_model.specs.Archives.{Entry}
use Rattle.arch_model.specs.Listings.{row_at, rows_of}
use Rattle.arch_model.specs.Threading.{thread_in as threaded, keyed as keyed_messages, keys_in, keys_of as keys_at}
use Rattle.overview_index.proofs.Messages.{row-keys}
use Rattle.thread_model.specs.Threads.{KeyedRow as Keyed, thread}
use Rattle.thread_model.proofs.Entries.{at-eqb}
use Rattle.thread_index.specs.Index.{keys_of_row}
use Rattle.view_set.specs.Threads.{keyed, thread_in}

pub keyed-are : (form : Form) (es : List Entry) → keyed (rows_of form es) ≡ keyed_messages es
keyed-are form [] = refl
keyed-are form (e ∷ es) =
    ap (λ (rs : List Keyed). (e.number, (row_at form e).id ∷ (row_at form e).refs) ∷ rs) (keyed-are form es)
    ∙ ap (λ (keys : List (List ℕ)). (e.number, keys) ∷ keyed_messages es) (row-keys form e)

-- Equality of numbers goes both ways.
turned : (n m : ℕ) → (n == m) ≡ (m == n)
turned n m = by (n == m) (m == n) refl refl where
  by : (t u : Bool) → (n == m) ≡ t → (m == n) ≡ u → t ≡ u
  by true true a b = refl
  by true false a b = absurd (let same : n ≡ m = eqb-true n m a in let yes : (m == n) ≡ true = eq-eqb m n (sym same) in false≢true (sym b ∙ yes))
  by false true a b = absurd (let same : m ≡ n = eqb-true m n b in let yes : (n == m) ≡ true = eq-eqb n m (sym same) in false≢true (sym a ∙ yes))
  by false false a b = refl

keys_step : (t u : Bool) (keys other : List (List ℕ)) (found : Option (List (List ℕ))) → t ≡ u → unwrap_or found [] ≡ other → unwrap_or (cond t (Some keys) found) [] ≡ (if u then keys else other)
keys_step true true keys other found same is = refl
keys_step true false keys other found same is = absurd (false≢true (sym same))
keys_step false true keys other found same is = absurd (false≢true same)
keys_step false false keys other found same is = is

keys-are : (es : List Entry) (n : ℕ) → keys_of_row (keyed_messages es) n ≡ keys_in es n
keys-are [] n = refl
keys-are (e ∷ es) n = keys_step (is_at (nat_cmp n) e.number) (e.number == n) (keys_at e) (keys_in es n) (lookup (is_at (nat_cmp n)) (keyed_messages es)) (at-eqb n e.number ∙ turned n e.number) (keys-are es n)

pub threads-are : (form : Form) (es : List Entry) (n : ℕ) → thread_in (rows_of form es) n ≡ threaded es n
unfolding thread_in threaded
threads-are form es n =
    ap (λ (rs : List Keyed). map (λ (row : Keyed). row.0) (thread rs (keys_of_row rs n))) (keyed-are form es)
    ∙ ap (λ (keys : List (List ℕ)). map (λ (row : Keyed). row.0) (thread (keyed_messages es) keys)) (keys-are es n)
