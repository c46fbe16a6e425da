-- Flags of the roots: what has nothing above it, and what far steps lead to.
use Rattle.std.proofs.Common.{◌≡◌, ◌⊎◌, ◌+◌, ◌≤◌, ◌<◌, ℕ, suc, Bool, true, List, [], ◌∷◌, length, take, get_or, Option, Some, None, sym, ◌∙◌, ap, subst, inl, inr, arith}
use Rattle.std.proofs.lemmas.Bool.{cases_eq}
use Rattle.thread_model.specs.Members.{Among}
use Rattle.thread_model.proofs.Members.{take-cases, take-old, take-new, take-among, take-end, get-among}
use Rattle.thread_model.proofs.Entries.{none-some, some-same}
use Rattle.thread_tree.specs.Nodes.{jump_at, jump_of, flag_at, AreFar, AreRoots, IsMarked}
use Rattle.thread_tree.proofs.Doubling.{get-some}

-- Marks so far: what has nothing above it, and what one of some jumps leads to.
pub record AreMarked (ups far : List (Option ℕ)) (flags : List Bool) : Type 0 where
  pub size : length flags ≡ length ups
  pub top : (i : ℕ) → i < length ups → jump_at ups i ≡ None → flag_at flags i ≡ true
  pub led : (i : ℕ) → i < length ups → Among far (Some i) → flag_at flags i ≡ true
  pub only : (i : ℕ) → i < length ups → flag_at flags i ≡ true → (jump_at ups i ≡ None) ⊎ Among far (Some i)

cases-to : (to : Option ℕ) (i : ℕ) → (to ≡ Some i) ⊎ (to ≡ Some i → ⊥)
cases-to None i = inr (λ e. none-some i e)
cases-to (Some j) i = elim (cases_eq j i) [ inl e ↦ inl (ap Some e) | inr f ↦ inr (λ e. f (some-same j i e)) ]

pub marked-more : (ups far later : List (Option ℕ)) (to : Option ℕ) (old new : List Bool) → ((x : Option ℕ) → Among later x → Among far x ⊎ (x ≡ to)) → ((x : Option ℕ) → Among far x → Among later x) → Among later to
    → AreMarked ups far old → IsMarked old new to → AreMarked ups later new
marked-more ups far later to old new cases kept here are marks = record {
  size = marks.size ∙ are.size;
  top = λ i in' e. set i in' (are.top i in' e);
  led = λ i in' h. elim (cases (Some i) h) [
    | inl a ↦ set i in' (are.led i in' a)
    | inr e ↦ marks.here i (subst (λ k. i < k) (sym are.size) in') (sym e)
  ];
  only = λ i in' t. elim (cases-to to i) [
    | inl e ↦ inr (subst (Among later) e here)
    | inr f ↦ elim (are.only i in' (sym (marks.kept i f) ∙ t)) [ inl n ↦ inl n | inr a ↦ inr (kept (Some i) a) ]
  ];
}
  where
    set : (i : ℕ) → i < length ups → flag_at old i ≡ true → flag_at new i ≡ true
    set i in' t = elim (cases-to to i) [
      | inl e ↦ marks.here i (subst (λ k. i < k) (sym are.size) in') e
      | inr f ↦ marks.kept i f ∙ t
    ]

pub marked-take : (ups far : List (Option ℕ)) (n : ℕ) (d : Option ℕ) (old new : List Bool) → n < length far → AreMarked ups (take n far) old → IsMarked old new (get_or far n d) → AreMarked ups (take (n + 1) far) new
marked-take ups far n d old new in' are marks = marked-more ups (take n far) (take (n + 1) far) (get_or far n d) old new (λ x. take-cases far n d x in') (λ x. take-old far n d x in') (take-new far n d in') are marks

among-jump : (jumps : List (Option ℕ)) (x : Option ℕ) → Among jumps x → (i : ℕ) × (i < length jumps) × (jump_at jumps i ≡ x)
among-jump [] x h = absurd h
among-jump (j ∷ js) x (inl is) = (0, omega arith, sym is)
among-jump (j ∷ js) x (inr h) = let r = among-jump js x h in (suc r.0, (let lt = r.1 in omega arith), r.2)

jump-among : (jumps : List (Option ℕ)) (i : ℕ) → i < length jumps → Among jumps (jump_at jumps i)
jump-among jumps i lt = subst (Among jumps) (sym (ap jump_of (get-some jumps i None lt))) (get-among jumps i None lt)

pub marked-all : (ups far : List (Option ℕ)) (n : ℕ) (flags : List Bool) → length far ≤ n → AreFar ups far → AreMarked ups (take n far) flags → AreRoots ups flags
marked-all ups far n flags past is are = record {
  size = are.size;
  top = are.top;
  loop = λ j in' loop.
      let r = is.all j in' loop in
      are.led j in' (take-end far n (Some j) past (subst (Among far) r.2 (jump-among far r.0 (subst (λ k. r.0 < k) (sym is.size) r.1))));
  only = λ j in' t. elim (are.only j in' t) [
    | inl e ↦ inl e
    | inr h ↦
        let r = among-jump far (Some j) (take-among far n (Some j) h) in
        inr (is.loops r.0 j (subst (λ k. r.0 < k) is.size r.1) r.2)
  ];
}
