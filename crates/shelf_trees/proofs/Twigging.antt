-- The messages of numbers, one after another.
use Rattle.std.specs.Prelude.{◌≡◌, ◌==◌, ◌+◌, ◌<◌, ◌≤◌, ℕ, Bool, true, false, List, [], ◌∷◌, ◌++◌, length, drop, get_or, Some, refl, Result, Ok, Err, OnOk, if◌then◌else◌}
use Rattle.std.specs.Bool.{MatchBool}
use Rattle.std.specs.Str.{bytes_eq}
use Rattle.std.proofs.Common.{◌∙◌, sym, ap}
use Rattle.std.proofs.lemmas.Bool.{false≢true}
use Rattle.std.proofs.lemmas.List.{at_drop_more, at_drop_all}
use Rattle.std.proofs.lemmas.Slice.Eq.{bytes_eq-Decides}
use Rattle.arch_base.specs.declared.ids.Form.{Form}
use Rattle.thread_model.specs.Members.{Among}
use Rattle.thread_model.proofs.Members.{among-any, none-any}
use Rattle.arch_model.specs.Archives.{Entry}
use Rattle.arch_model.specs.Listings.{row_at, row_in}
use Rattle.arch_model.specs.Rows.{row_of}
use Rattle.arch_model.specs.Threading.{thread_in}
use Rattle.thread_tree.specs.Trees.{names_id}
use Rattle.thread_tree.specs.declared.twigs.Twig.{Twig}
use Rattle.shelf_trees.specs.Twigs.{twig_of, twig_at, twig_in, with_twig, with_row, with_found, twigs_after, thread_twigs}

-- No number yet.
pub twigs-begin : (es : List Entry) (twigs : List Twig) (ns : List ℕ) → twigs ≡ [] → twigs_after es twigs (drop 0 ns) ≡ twigs_after es [] ns
twigs-begin es twigs [] none = none
twigs-begin es twigs (n ∷ ns) none = ap (λ (ts : List Twig). twigs_after es ts (n ∷ ns)) none

-- The message of a row is its entry's, whichever form the ids have.
row-twig : (form : Form) (e : Entry) → twig_of (row_at form e) ≡ twig_at e
unfolding row_of
row-twig form e = refl

row-found : (form : Form) (es : List Entry) (n : ℕ) (ts : List Twig) → with_row ts (row_in form es n) ≡ with_found ts (twig_in es n)
row-found form [] n ts = refl
row-found form (e ∷ es) n ts = step (e.number == n) (row-found form es n ts) where
  step : (t : Bool) → with_row ts (row_in form es n) ≡ with_found ts (twig_in es n)
      → with_row ts (if t then Some (row_at form e) else row_in form es n) ≡ with_found ts (if t then Some (twig_at e) else twig_in es n)
  step true rest = ap (with_twig ts) (row-twig form e)
  step false rest = rest

-- One number more.
pub twigs-more : (form : Form) (es : List Entry) (old new all : List Twig) (ns : List ℕ) (i d : ℕ) → i < length ns → new ≡ with_row old (row_in form es (get_or ns i d)) → twigs_after es old (drop i ns) ≡ all → twigs_after es new (drop (i + 1) ns) ≡ all
twigs-more form es old new all ns i d below is so_far =
    ap (λ (ts : List Twig). twigs_after es ts (drop (i + 1) ns)) (is ∙ row-found form es (get_or ns i d) old)
    ∙ sym (at_drop_more (twigs_after es old) ns i d below)
    ∙ so_far

-- All numbers.
pub twigs-all : (es : List Entry) (twigs : List Twig) (ns : List ℕ) (i n : ℕ) → length ns ≤ i → ns ≡ thread_in es n → twigs_after es twigs (drop i ns) ≡ twigs_after es [] ns → twigs ≡ thread_twigs es n
unfolding thread_twigs
twigs-all es twigs ns i n past are so_far =
    sym (at_drop_all (twigs_after es twigs) ns i past) ∙ so_far ∙ ap (twigs_after es []) are

-- Whether an id is a message's.
pub named : (ts : List Twig) (id : List ℕ) (r : Bool) → MatchBool r ((t : Twig) × Among ts t × (t.id ≡ id)) ((t : Twig) → Among ts t → t.id ≡ id → ⊥) → names_id ts id ≡ r
named ts id true h = among-any (λ (t : Twig). bytes_eq t.id id) ts h.0 h.1 ((bytes_eq-Decides h.0.id id).1 h.2)
named ts id false h = none-any (λ (t : Twig). bytes_eq t.id id) ts (λ t in' same. h t in' ((bytes_eq-Decides t.id id).0 same))

pub with-kept : (ts : List Twig) (t : Twig) → names_id ts t.id ≡ true → ts ≡ with_twig ts t
with-kept ts t is = ap (λ (b : Bool). if b then ts else ts ++ t ∷ []) (sym is)

pub with-added : (ts : List Twig) (t : Twig) → names_id ts t.id ≡ false → with_twig ts t ≡ ts ++ t ∷ []
with-added ts t is = ap (λ (b : Bool). if b then ts else ts ++ t ∷ []) is

-- An id that is no message's.
pub fresh : (ts : List Twig) (id other : List ℕ) (r : Bool) → other ≡ id → r ≡ false → MatchBool r ((t : Twig) × Among ts t × (t.id ≡ id)) ((t : Twig) → Among ts t → t.id ≡ id → ⊥) → (t : Twig) → Among ts t → t.id ≡ other → ⊥
fresh ts id other true same none h t in' is = absurd (false≢true (sym none))
fresh ts id other false same none h t in' is = h t in' (is ∙ same)

pub on-weaker : {T E : Type 0} (r : Result T E) (P Q : Type 0) → (P → Q) → OnOk r P → OnOk r Q
on-weaker (Ok x) P Q less holds = less holds
on-weaker (Err e) P Q less holds = tt
