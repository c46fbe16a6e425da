-- Items among others.
use Rattle.std.proofs.Common.{◌⊎◌, inl, inr, ◌≡◌, List, [], ◌∷◌, ◌++◌, refl, sym, subst}
use Rattle.std.specs.List.{AllByRecursion}
use Rattle.thread_model.specs.Members.{Among}

-- What holds for each item holds for one of them.
pub all-among : {X : Type 0} (P : X → Type 0) (ls : List X) (l : X) → AllByRecursion P ls → Among ls l → P l
all-among P [] l all among = absurd among
all-among P (m ∷ ms) l all (inl is) = subst P (sym is) all.0
all-among P (m ∷ ms) l all (inr more) = all-among P ms l all.1 more

-- What holds for any of them holds for each.
pub among-all : {X : Type 0} (P : X → Type 0) (ls : List X) → ((l : X) → Among ls l → P l) → AllByRecursion P ls
among-all P [] each = tt
among-all P (m ∷ ms) each = (each m (inl refl), among-all P ms (λ l more. each l (inr more)))

-- One of them is there with one more after them.
pub among-before : {X : Type 0} (ls : List X) (x l : X) → Among ls l → Among (ls ++ x ∷ []) l
among-before [] x l among = absurd among
among-before (m ∷ ms) x l (inl is) = inl is
among-before (m ∷ ms) x l (inr more) = inr (among-before ms x l more)

-- So is the one after them.
pub among-last : {X : Type 0} (ls : List X) (x : X) → Among (ls ++ x ∷ []) x
among-last [] x = inl refl
among-last (m ∷ ms) x = inr (among-last ms x)

-- And no other.
pub among-cases : {X : Type 0} (ls : List X) (x l : X) → Among (ls ++ x ∷ []) l → Among ls l ⊎ (l ≡ x)
among-cases [] x l (inl is) = inr is
among-cases [] x l (inr more) = absurd more
among-cases (m ∷ ms) x l (inl is) = inl (inl is)
among-cases (m ∷ ms) x l (inr more) = by (among-cases ms x l more) where
  by : Among ms l ⊎ (l ≡ x) → Among (m ∷ ms) l ⊎ (l ≡ x)
  by (inl among) = inl (inr among)
  by (inr is) = inr is

-- What holds for each and one more holds for each.
pub all-first : {X : Type 0} (P : X → Type 0) (xs : List X) (x : X) → AllByRecursion P (xs ++ x ∷ []) → AllByRecursion P xs
all-first P [] x all = tt
all-first P (y ∷ ys) x all = (all.0, all-first P ys x all.1)

-- And for the one more.
pub all-last : {X : Type 0} (P : X → Type 0) (xs : List X) (x : X) → AllByRecursion P (xs ++ x ∷ []) → P x
all-last P [] x all = all.0
all-last P (y ∷ ys) x all = all-last P ys x all.1
