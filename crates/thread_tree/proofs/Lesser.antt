-- The lesser of two things, and the least-numbered message of a list that is one longer.
use Rattle.std.proofs.Common.{◌≡◌, ◌≤◌, ◌<◌, ℕ, Bool, true, false, nat_lt, List, [], ◌∷◌, ◌++◌, Option, Some, None, if◌then◌else◌, refl, sym, ◌∙◌, ap, inl, inr, arith}
use Rattle.std.specs.Option.{option_map}
use Rattle.std.proofs.lemmas.Bool.{cases_Bool, ltb-true, ltb-false, lt-ltb, le-ltb}
use Rattle.thread_tree.specs.Trees.{least, lesser_by}
use Rattle.thread_tree.specs.Facts.{is_lesser, least_placing, lesser_naming, lesser_placing, naming_of, placing_in}
use Rattle.thread_tree.specs.declared.twigs.Twig.{Twig}

pub lesser-none : {X : Type 0} (f : X → ℕ) (o : Option X) → lesser_by f o None ≡ o
lesser-none f None = refl
lesser-none f (Some a) = refl

pub lesser-lt : {X : Type 0} (f : X → ℕ) (a b : X) → nat_lt (f b) (f a) ≡ true → lesser_by f (Some a) (Some b) ≡ Some b
lesser-lt f a b e = ap (λ (t : Bool). if t then Some b else Some a) e

pub lesser-ge : {X : Type 0} (f : X → ℕ) (a b : X) → nat_lt (f b) (f a) ≡ false → lesser_by f (Some a) (Some b) ≡ Some a
lesser-ge f a b e = ap (λ (t : Bool). if t then Some b else Some a) e

pub lesser-same : {X : Type 0} (f : X → ℕ) (a b : X) → f a ≡ f b → lesser_by f (Some a) (Some b) ≡ Some a
lesser-same f a b e = lesser-ge f a b (le-ltb (f b) (f a) (omega arith))

pub lesser-assoc : {X : Type 0} (f : X → ℕ) (a b c : Option X) → lesser_by f (lesser_by f a b) c ≡ lesser_by f a (lesser_by f b c)
lesser-assoc f None b c = refl
lesser-assoc f (Some x) None c = refl
lesser-assoc f (Some x) (Some y) None = lesser-none f (lesser_by f (Some x) (Some y))
lesser-assoc f (Some x) (Some y) (Some z) = elim (cases_Bool (nat_lt (f y) (f x))) [
  | inl one ↦ elim (cases_Bool (nat_lt (f z) (f y))) [
    | inl two ↦
        let a : f y < f x = ltb-true (f y) (f x) one in
        let b : f z < f y = ltb-true (f z) (f y) two in
        ap (λ o. lesser_by f o (Some z)) (lesser-lt f x y one) ∙ lesser-lt f y z two
        ∙ sym (ap (lesser_by f (Some x)) (lesser-lt f y z two) ∙ lesser-lt f x z (lt-ltb (f z) (f x) (omega arith)))
    | inr two ↦
        ap (λ o. lesser_by f o (Some z)) (lesser-lt f x y one) ∙ lesser-ge f y z two
        ∙ sym (ap (lesser_by f (Some x)) (lesser-ge f y z two) ∙ lesser-lt f x y one)
  ]
  | inr one ↦ elim (cases_Bool (nat_lt (f z) (f y))) [
    | inl two ↦
        ap (λ o. lesser_by f o (Some z)) (lesser-ge f x y one)
        ∙ sym (ap (lesser_by f (Some x)) (lesser-lt f y z two))
    | inr two ↦
        let a : f x ≤ f y = ltb-false (f y) (f x) one in
        let b : f y ≤ f z = ltb-false (f z) (f y) two in
        ap (λ o. lesser_by f o (Some z)) (lesser-ge f x y one) ∙ lesser-ge f x z (le-ltb (f z) (f x) (omega arith))
        ∙ sym (ap (lesser_by f (Some x)) (lesser-ge f y z two) ∙ lesser-ge f x y one)
  ]
]

-- A list that is one message longer.
pub least-push : (test : Twig → Bool) (ts : List Twig) (t : Twig) → least test (ts ++ t ∷ []) ≡ lesser_by (λ (u : Twig). u.number) (least test ts) (if test t then Some t else None)
least-push test [] t = lesser-none (λ (u : Twig). u.number) (if test t then Some t else None)
least-push test (u ∷ us) t =
    ap (lesser_by (λ (v : Twig). v.number) (if test u then Some u else None)) (least-push test us t)
    ∙ sym (lesser-assoc (λ (v : Twig). v.number) (if test u then Some u else None) (least test us) (if test t then Some t else None))

pub least_placing-push : (ts : List Twig) (t : Twig) (id : List ℕ) → least_placing (ts ++ t ∷ []) id ≡ lesser_placing (least_placing ts id) (placing_in t.number t.refs id)
least_placing-push [] t id = lesser-none (λ (p : ℕ × List ℕ). p.0) (placing_in t.number t.refs id)
least_placing-push (u ∷ us) t id =
    ap (lesser_placing (placing_in u.number u.refs id)) (least_placing-push us t id)
    ∙ sym (lesser-assoc (λ (p : ℕ × List ℕ). p.0) (placing_in u.number u.refs id) (least_placing us id) (placing_in t.number t.refs id))

-- What is kept of the lesser of two messages.
naming-by : (t u : Twig) (b : Bool) → option_map naming_of (if b then Some u else Some t) ≡ (if b then Some (naming_of u) else Some (naming_of t))
naming-by t u true = refl
naming-by t u false = refl

pub naming-lesser : (a b : Option Twig) → option_map naming_of (lesser_by (λ (t : Twig). t.number) a b) ≡ lesser_naming (option_map naming_of a) (option_map naming_of b)
naming-lesser None b = refl
naming-lesser (Some t) None = refl
naming-lesser (Some t) (Some u) = naming-by t u (nat_lt u.number t.number)

-- One that is noted where its number is less, and skipped where it isn't.
pub takes-lesser : {X : Type 0} (f : X → ℕ) (o : Option X) (n : X) → is_lesser (f n) (option_map f o) ≡ true → lesser_by f o (Some n) ≡ Some n
takes-lesser f None n t = refl
takes-lesser f (Some a) n t = lesser-lt f a n t
