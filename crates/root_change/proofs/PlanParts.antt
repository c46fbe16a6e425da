-- The plan of each part among several.
use Rattle.std.specs.Prelude.{◌≡◌, ◌⊎◌, ℕ, zero, suc, ◌==◌, ◌&&◌, Bool, true, false, if◌then◌else◌, List, [], ◌∷◌, ◌++◌, length, take, slice_get, Some, None, refl}
use Rattle.std.proofs.Common.{◌∙◌, sym, ap, subst, inl, inr}
use Rattle.std.proofs.lemmas.Option.{same_Some}
use Rattle.disk_model.specs.declared.name.FileKind.{FileKind}
use Rattle.disk_model.specs.declared.name.FileKind.TheVariants as kind
use Rattle.root_change.specs.Rewriting.{Plan, AreApart, plan_of, same_kind}
use Rattle.root_change.proofs.Drops.{both, is_same, not_both, true_or_false}
use Rattle.root_change.proofs.Roots.{same_test}

-- Tests on kinds.
pub same_kind_is : (a b : FileKind) → same_kind a b ≡ true → a ≡ b
same_kind_is kind.Root kind.Root is = refl
same_kind_is kind.Root kind.Map is = absurd (let wrong : false ≡ true = is in cc)
same_kind_is kind.Root kind.Epoch is = absurd (let wrong : false ≡ true = is in cc)
same_kind_is kind.Root kind.Cache is = absurd (let wrong : false ≡ true = is in cc)
same_kind_is kind.Map kind.Root is = absurd (let wrong : false ≡ true = is in cc)
same_kind_is kind.Map kind.Map is = refl
same_kind_is kind.Map kind.Epoch is = absurd (let wrong : false ≡ true = is in cc)
same_kind_is kind.Map kind.Cache is = absurd (let wrong : false ≡ true = is in cc)
same_kind_is kind.Epoch kind.Root is = absurd (let wrong : false ≡ true = is in cc)
same_kind_is kind.Epoch kind.Map is = absurd (let wrong : false ≡ true = is in cc)
same_kind_is kind.Epoch kind.Epoch is = refl
same_kind_is kind.Epoch kind.Cache is = absurd (let wrong : false ≡ true = is in cc)
same_kind_is kind.Cache kind.Root is = absurd (let wrong : false ≡ true = is in cc)
same_kind_is kind.Cache kind.Map is = absurd (let wrong : false ≡ true = is in cc)
same_kind_is kind.Cache kind.Epoch is = absurd (let wrong : false ≡ true = is in cc)
same_kind_is kind.Cache kind.Cache is = refl

same_kind_itself : (a : FileKind) → same_kind a a ≡ true
same_kind_itself kind.Root = refl
same_kind_itself kind.Map = refl
same_kind_itself kind.Epoch = refl
same_kind_itself kind.Cache = refl

-- A plan is that of a part.
abbrev pub is_of : Plan → FileKind → ℕ → Bool
is_of p k n = same_kind p.kind k && p.number == n

and_true : (a b : Bool) → a ≡ true → b ≡ true → (a && b) ≡ true
and_true a b one two = ap (λ (c : Bool). c && b) one ∙ two

pub is_of_own : (p : Plan) (k : FileKind) (n : ℕ) → p.kind ≡ k → p.number ≡ n → is_of p k n ≡ true
is_of_own p k n kind_is number_is =
    and_true (same_kind p.kind k) (p.number == n) (ap (λ (a : FileKind). same_kind a k) kind_is ∙ same_kind_itself k) (same_test p.number n number_is)

pub is_of_is : (p : Plan) (k : FileKind) (n : ℕ) → is_of p k n ≡ true → (p.kind ≡ k) × (p.number ≡ n)
is_of_is p k n is =
    let tests = both (same_kind p.kind k) (p.number == n) is in
    (same_kind_is p.kind k tests.0, is_same p.number n tests.1)

-- A plan is that of a part, or of another one.
pub of_or_not : (p : Plan) (k : FileKind) (n : ℕ) → ((p.kind ≡ k) × (p.number ≡ n)) ⊎ (is_of p k n ≡ false)
of_or_not p k n = elim (true_or_false (is_of p k n)) [ inl is ↦ inl (is_of_is p k n is) | inr isnt ↦ inr isnt ]

pub other_part : (p : Plan) (k : FileKind) (n : ℕ) → ((p.kind ≡ k) → (p.number ≡ n) → ⊥) → is_of p k n ≡ false
other_part p k n apart = elim (of_or_not p k n) [ inl is ↦ absurd (apart is.0 is.1) | inr isnt ↦ isnt ]

-- The first plan, if it is that of the part, and the others, if it isn't.
of_first : (p : Plan) (ps : List Plan) (k : FileKind) (n : ℕ) → is_of p k n ≡ true → plan_of (p ∷ ps) k n ≡ Some p
of_first p ps k n is = ap (λ (b : Bool). if b then Some p else plan_of ps k n) is

of_rest : (p : Plan) (ps : List Plan) (k : FileKind) (n : ℕ) → is_of p k n ≡ false → plan_of (p ∷ ps) k n ≡ plan_of ps k n
of_rest p ps k n isnt = ap (λ (b : Bool). if b then Some p else plan_of ps k n) isnt

-- The only plan.
pub of_one : (p : Plan) (k : FileKind) (n : ℕ) → p.kind ≡ k → p.number ≡ n → plan_of (p ∷ []) k n ≡ Some p
of_one p k n kind_is number_is = of_first p [] k n (is_of_own p k n kind_is number_is)

-- Among plans there is one of a part.
pub record IsFound (plans : List Plan) (k : FileKind) (n : ℕ) (p : Plan) : Type 0 where
  pub index : ℕ
  pub here : slice_get plans index ≡ Some p
  pub kind_is : p.kind ≡ k
  pub number_is : p.number ≡ n

pub found : (plans : List Plan) (k : FileKind) (n : ℕ) (p : Plan) → plan_of plans k n ≡ Some p → IsFound plans k n p
found [] k n p is = absurd (let wrong : None ≡ Some p = is in cc)
found (q ∷ qs) k n p is = elim (true_or_false (is_of q k n)) [
  | inl first ↦
      let same : q ≡ p = same_Some q p (sym (of_first q qs k n first) ∙ is) in
      let parts = is_of_is q k n first in
      record { index = zero; here = ap (λ (x : Plan). Some x) same; kind_is = subst (λ (x : Plan). x.kind ≡ k) same parts.0; number_is = subst (λ (x : Plan). x.number ≡ n) same parts.1 }
  | inr isnt ↦
      let later = found qs k n p (sym (of_rest q qs k n isnt) ∙ is) in
      record { index = suc later.index; here = later.here; kind_is = later.kind_is; number_is = later.number_is }
]

-- Where there is none, each is of another part.
pub none_found : (plans : List Plan) (k : FileKind) (n i : ℕ) (p : Plan) → plan_of plans k n ≡ None → slice_get plans i ≡ Some p → is_of p k n ≡ false
none_found [] k n i p none here = absurd (let wrong : None ≡ Some p = here in cc)
none_found (q ∷ qs) k n zero p none here = elim (true_or_false (is_of q k n)) [
  | inl first ↦ absurd (let wrong : Some q ≡ None = sym (of_first q qs k n first) ∙ none in cc)
  | inr isnt ↦ subst (λ (x : Plan). is_of x k n ≡ false) (same_Some q p here) isnt
]
none_found (q ∷ qs) k n (suc i) p none here = elim (true_or_false (is_of q k n)) [
  | inl first ↦ absurd (let wrong : Some q ≡ None = sym (of_first q qs k n first) ∙ none in cc)
  | inr isnt ↦ none_found qs k n i p (sym (of_rest q qs k n isnt) ∙ none) here
]

-- There is none after others if there is none among all.
pub of_more : (xs ys : List Plan) (k : FileKind) (n : ℕ) → plan_of xs k n ≡ None → plan_of (xs ++ ys) k n ≡ plan_of ys k n
of_more [] ys k n none = refl
of_more (q ∷ qs) ys k n none = elim (true_or_false (is_of q k n)) [
  | inl first ↦ absurd (let wrong : Some q ≡ None = sym (of_first q qs k n first) ∙ none in cc)
  | inr isnt ↦ of_rest q (qs ++ ys) k n isnt ∙ of_more qs ys k n (sym (of_rest q qs k n isnt) ∙ none)
]

-- A plan of another part changes nothing.
pub of_others : (xs : List Plan) (p : Plan) (k : FileKind) (n : ℕ) → is_of p k n ≡ false → plan_of (xs ++ p ∷ []) k n ≡ plan_of xs k n
of_others [] p k n isnt = of_rest p [] k n isnt
of_others (q ∷ qs) p k n isnt = elim (true_or_false (is_of q k n)) [
  | inl first ↦ of_first q (qs ++ p ∷ []) k n first ∙ sym (of_first q qs k n first)
  | inr next ↦ of_rest q (qs ++ p ∷ []) k n next ∙ (of_others qs p k n isnt ∙ sym (of_rest q qs k n next))
]

-- Plans that are apart: before each there is none of its part.
pub none_before : (plans : List Plan) (i : ℕ) (p : Plan) → AreApart plans → slice_get plans i ≡ Some p → plan_of (take i plans) p.kind p.number ≡ None
none_before [] i p apart here = absurd (let wrong : None ≡ Some p = here in cc)
none_before (q ∷ qs) zero p apart here = refl
none_before (q ∷ qs) (suc i) p apart here =
    let other : is_of q p.kind p.number ≡ false = other_part q p.kind p.number (λ kind_is number_is.
    not_both (is_of p q.kind q.number) (is_of_own p q.kind q.number (sym kind_is) (sym number_is)) (none_found qs q.kind q.number i p apart.0 here)) in
    of_rest q (take i qs) p.kind p.number other ∙ none_before qs i p apart.1 here

-- Each is that of its part.
pub plan_of_each : (plans : List Plan) (i : ℕ) (p : Plan) → AreApart plans → slice_get plans i ≡ Some p → plan_of plans p.kind p.number ≡ Some p
plan_of_each [] i p apart here = absurd (let wrong : None ≡ Some p = here in cc)
plan_of_each (q ∷ qs) zero p apart here = of_first q qs p.kind p.number (is_of_own q p.kind p.number (ap (λ (x : Plan). x.kind) (same_Some q p here)) (ap (λ (x : Plan). x.number) (same_Some q p here))) ∙ here
plan_of_each (q ∷ qs) (suc i) p apart here =
    let other : is_of q p.kind p.number ≡ false = other_part q p.kind p.number (λ kind_is number_is.
    not_both (is_of p q.kind q.number) (is_of_own p q.kind q.number (sym kind_is) (sym number_is)) (none_found qs q.kind q.number i p apart.0 here)) in
    of_rest q qs p.kind p.number other ∙ plan_of_each qs i p apart.1 here

-- One more plan, of a part that had none.
pub apart_more : (plans : List Plan) (p : Plan) → AreApart plans → plan_of plans p.kind p.number ≡ None → AreApart (plans ++ p ∷ [])
apart_more [] p apart none = (refl, tt)
apart_more (q ∷ qs) p apart none = elim (true_or_false (is_of q p.kind p.number)) [
  | inl first ↦ absurd (let wrong : Some q ≡ None = sym (of_first q qs p.kind p.number first) ∙ none in cc)
  | inr isnt ↦
      let other : is_of p q.kind q.number ≡ false = other_part p q.kind q.number (λ kind_is number_is. not_both (is_of q p.kind p.number) (is_of_own q p.kind p.number (sym kind_is) (sym number_is)) isnt) in
      (of_others qs p q.kind q.number other ∙ apart.0, apart_more qs p apart.1 (sym (of_rest q qs p.kind p.number isnt) ∙ none))
]

-- The elements of a list with one more.
pub last_there : {A : Type 0} (items : List A) (last : A) → slice_get (items ++ last ∷ []) (length items) ≡ Some last
last_there [] last = refl
last_there (x ∷ xs) last = last_there xs last

pub still_there : {A : Type 0} (items : List A) (last : A) (i : ℕ) (item : A) → slice_get items i ≡ Some item → slice_get (items ++ last ∷ []) i ≡ Some item
still_there [] last i item here = absurd (let wrong : None ≡ Some item = here in cc)
still_there (x ∷ xs) last zero item here = here
still_there (x ∷ xs) last (suc i) item here = still_there xs last i item here
