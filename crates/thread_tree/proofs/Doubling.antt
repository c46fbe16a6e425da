-- Jumps of a length that is doubled until it is as long as the list.
use Rattle.std.proofs.Common.{◌≡◌, ◌+◌, ◌≤◌, ◌<◌, ℕ, zero, suc, List, [], ◌∷◌, length, get_or, slice_get, Option, Some, None, refl, sym, ◌∙◌, ap, subst, arith}
use Rattle.thread_tree.specs.Nodes.{jump_at, step_by, far_by, StaysIn, AreTwice, AreFar}
use Rattle.thread_tree.proofs.Pigeons.{far-then, far-none, far-inside, far-loops, loop-reached}

-- Each jump is so many steps long.
pub record AreJumps (ups jumps : List (Option ℕ)) (m : ℕ) : Type 0 where
  pub size : length jumps ≡ length ups
  pub each : (i : ℕ) → i < length ups → jump_at jumps i ≡ far_by ups m i
  pub some : 0 < m

twice-by : (ups jumps : List (Option ℕ)) (m i : ℕ) → StaysIn ups → i < length ups → AreJumps ups jumps m → (o : Option ℕ) → jump_at jumps i ≡ o → step_by jumps o ≡ far_by ups (m + m) i
twice-by ups jumps m i stays in' are None e = sym (far-none ups m i (sym (are.each i in') ∙ e) m)
twice-by ups jumps m i stays in' are (Some j) e =
    let way : far_by ups m i ≡ Some j = sym (are.each i in') ∙ e in
    are.each j (far-inside ups stays m i j in' way) ∙ sym (far-then ups m i j way m)

pub jumps-twice : (ups jumps twice : List (Option ℕ)) (m n : ℕ) → StaysIn ups → AreJumps ups jumps m → AreTwice jumps twice → n ≡ m + m → AreJumps ups twice n
jumps-twice ups jumps twice m n stays are two is = record {
  size = two.size ∙ are.size;
  each = λ i in'.
      two.each i (subst (λ k. i < k) (sym are.size) in')
      ∙ twice-by ups jumps m i stays in' are (jump_at jumps i) refl
      ∙ ap (λ k. far_by ups k i) (sym is);
  some = let s = are.some in omega arith;
}

pub jumps-far : (ups jumps : List (Option ℕ)) (m : ℕ) → StaysIn ups → AreJumps ups jumps m → length ups ≤ m → AreFar ups jumps
jumps-far ups jumps m stays are long = record {
  size = are.size;
  loops = λ i j in' e. far-loops ups stays m i j in' long (sym (are.each i in') ∙ e);
  all = λ j in' loop.
      let r = loop-reached ups stays m loop.0 j in' loop.1 in
      (r.0, r.1, are.each r.0 r.1 ∙ r.2);
}

-- One jump more of the doubled ones.
pub record AreTwiceOf (jumps twice : List (Option ℕ)) (n : ℕ) : Type 0 where
  pub size : length twice ≡ n
  pub each : (i : ℕ) → i < n → jump_at twice i ≡ step_by jumps (jump_at jumps i)

pub get-some : {X : Type 0} (xs : List X) (i : ℕ) (d : X) → i < length xs → slice_get xs i ≡ Some (get_or xs i d)
get-some [] i d lt = absurd (omega arith)
get-some (y ∷ ys) zero d lt = refl
get-some (y ∷ ys) (suc i) d lt = get-some ys i d (omega arith)

pub get-past : {X : Type 0} (xs : List X) (i : ℕ) → length xs ≤ i → slice_get xs i ≡ None
get-past [] i le = refl
get-past (y ∷ ys) zero le = absurd (omega arith)
get-past (y ∷ ys) (suc i) le = get-past ys i (omega arith)
