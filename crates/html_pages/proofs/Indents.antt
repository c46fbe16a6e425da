-- The indents of lines.
use Rattle.std.proofs.Common.{◌≡◌, ℕ, ◌*◌, ◌≤◌, List, take, ap, ◌∙◌, arith, min}
use Rattle.std.specs.Prelude.{replicate}
use Rattle.std.proofs.lemmas.List.{take-replicate}

-- An indent is a part of the deepest one.
pub indent-taken : (depth len : ℕ) (spaces : List ℕ) → len ≡ 2 * min depth 40 → spaces ≡ take len (replicate 80 32) → spaces ≡ replicate (2 * min depth 40) 32
indent-taken depth len spaces e taken =
    let few : min depth 40 ≤ 40 = grind (arith) in
    taken ∙ take-replicate len 80 32 (omega arith) ∙ ap (λ n. replicate n 32) e
