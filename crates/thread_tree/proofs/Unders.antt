-- The lists under each index: they are a forest, and what stands in them.
use Rattle.std.proofs.Common.{◌≡◌, ◌&&◌, ◌+◌, ◌≤◌, ◌<◌, ℕ, zero, suc, Bool, true, false, not, cond, List, [], ◌∷◌, ◌++◌, length, filter, Option, Some, None, if◌then◌else◌, refl, sym, ◌∙◌, ap, subst, inl, inr, arith}
use Rattle.std.specs.Global.{Vec}
use Rattle.std.proofs.lemmas.Bool.{cases_lt, false≢true, and_parts, eqb-true}
use Rattle.std.proofs.lemmas.List.Elements.{filter-append}
use Rattle.thread_model.specs.Members.{Among, Once}
use Rattle.thread_model.proofs.Members.{among-filter, among-push}
use Rattle.thread_model.proofs.Numbers.{once-push}
use Rattle.thread_model.proofs.Entries.{some-same}
use Rattle.thread_tree.specs.Nodes.{jump_at, leads_to, flag_at, count_up, is_under, under_at, AreUnder, IsListedUnder, IsForest}

pub among-count : (n i : ℕ) → Among (count_up n) i → i < n
among-count zero i h = absurd h
among-count (suc n) i h = elim (among-push (count_up n) n i h) [
  | inl a ↦ (let lt : i < n = among-count n i a in omega arith)
  | inr e ↦ omega arith
]

pub count-once : (n : ℕ) → Once (count_up n)
count-once zero = tt
count-once (suc n) = once-push (count_up n) n (count-once n) (λ h. let lt : n < n = among-count n n h in omega arith)

pub filter-once : (test : ℕ → Bool) (ns : List ℕ) → Once ns → Once (filter test ns)
filter-once test [] once = tt
filter-once test (n ∷ ns) once = by (test n) (filter-once test ns once.1)
  where
    by : (t : Bool) → Once (filter test ns) → Once (cond t (n ∷ filter test ns) (filter test ns))
    by true ih = (λ h. once.0 (among-filter test ns n h).0, ih)
    by false ih = ih

filter-one : (test : ℕ → Bool) (n : ℕ) (t : Bool) → test n ≡ t → filter test (n ∷ []) ≡ (if t then n ∷ [] else [])
filter-one test n true e = ap (λ (b : Bool). cond b (n ∷ []) []) e
filter-one test n false e = ap (λ (b : Bool). cond b (n ∷ []) []) e

pub under-more : (ups : List (Option ℕ)) (flags : List Bool) (old new : List (Vec ℕ)) (n : ℕ) (up : Option ℕ) (flag : Bool) → up ≡ jump_at ups n → flag ≡ flag_at flags n → AreUnder ups flags old n → IsListedUnder old new up flag n → AreUnder ups flags new (n + 1)
under-more ups flags old new n up flag is_up is_flag are puts = record {
  size = puts.size ∙ are.size;
  each = λ p in'.
      let e : (not flag && leads_to up p) ≡ is_under ups flags p n = ap (λ (f : Bool). not f && leads_to up p) is_flag ∙ ap (λ (u : Option ℕ). not (flag_at flags n) && leads_to u p) is_up in
      let count : count_up (n + 1) ≡ count_up n ++ n ∷ [] = (let one : n + 1 ≡ suc n = omega arith in ap count_up one) in
      puts.lists p (subst (λ k. p < k) (sym are.size) in')
      ∙ ap (λ (ns : List ℕ). ns ++ (if not flag && leads_to up p then n ∷ [] else [])) (are.each p in')
      ∙ ap (λ (ns : List ℕ). filter (is_under ups flags p) (count_up n) ++ ns) (ap (λ (b : Bool). if b then n ∷ [] else []) e ∙ sym (filter-one (is_under ups flags p) n (is_under ups flags p n) refl))
      ∙ sym (filter-append (is_under ups flags p) (count_up n) (n ∷ []))
      ∙ ap (filter (is_under ups flags p)) (sym count);
}

-- What stands under an index.
pub under-says : (ups : List (Option ℕ)) (flags : List Bool) (p i : ℕ) → is_under ups flags p i ≡ true → (flag_at flags i ≡ false) × (jump_at ups i ≡ Some p)
under-says ups flags p i t =
    let both = and_parts (not (flag_at flags i)) (leads_to (jump_at ups i) p) t in
    (not-by (flag_at flags i) both.0, leads-by (jump_at ups i) p both.1)
  where
    not-by : (f : Bool) → not f ≡ true → f ≡ false
    not-by true e = absurd (false≢true e)
    not-by false e = refl

    leads-by : (o : Option ℕ) (q : ℕ) → leads_to o q ≡ true → o ≡ Some q
    leads-by None q e = absurd (false≢true e)
    leads-by (Some j) q e = ap Some (eqb-true j q e)

module _ (ups : List (Option ℕ)) (flags : List Bool) (lists : List (Vec ℕ)) (are : AreUnder ups flags lists (length ups)) (past : (p : ℕ) → length lists ≤ p → under_at lists p ≡ []) where
  under-in : (p i : ℕ) → Among (under_at lists p) i → (is_under ups flags p i ≡ true) × (i < length ups)
  under-in p i h = elim (cases_lt p (length lists)) [
    | inl less ↦
        let r = among-filter (is_under ups flags p) (count_up (length ups)) i (subst (λ ns. Among ns i) (are.each p (subst (λ k. p < k) are.size less)) h) in
        (r.1, among-count (length ups) i r.0)
    | inr more ↦ absurd (subst (λ ns. Among ns i) (past p more) h)
  ]

  under-once : (p : ℕ) → Once (under_at lists p)
  under-once p = elim (cases_lt p (length lists)) [
    | inl less ↦ subst Once (sym (are.each p (subst (λ k. p < k) are.size less))) (filter-once (is_under ups flags p) (count_up (length ups)) (count-once (length ups)))
    | inr more ↦ subst Once (sym (past p more)) tt
  ]

  -- They are a forest, with the flagged indices as roots.
  pub forest : IsForest (under_at lists) (filter (flag_at flags) (count_up (length ups))) (length lists)
  forest = record {
    roots_once = filter-once (flag_at flags) (count_up (length ups)) (count-once (length ups));
    roots_below = λ i h. subst (λ k. i < k) (sym are.size) (among-count (length ups) i (among-filter (flag_at flags) (count_up (length ups)) i h).0);
    once = under-once;
    below = λ p i h. subst (λ k. i < k) (sym are.size) (under-in p i h).1;
    one = λ p q i h k. some-same p q (sym (under-says ups flags p i (under-in p i h).0).1 ∙ (under-says ups flags q i (under-in q i k).0).1);
    no_root = λ p i h k. false≢true (sym (under-says ups flags p i (under-in p i h).0).0 ∙ (among-filter (flag_at flags) (count_up (length ups)) i k).1);
  }
