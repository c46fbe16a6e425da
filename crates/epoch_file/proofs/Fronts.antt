-- Prefixes of lists.
use Rattle.std.proofs.Common.{◌≡◌, ℕ, ◌≤◌, ◌⊎◌, List, [], ◌∷◌, ◌++◌, length, drop, length-append, refl, sym, ap, ◌∙◌, inl, inr, arith}
use Rattle.std.proofs.lemmas.List.{drop_at}

-- A prefix that is no longer than the held bytes is a prefix of them.
pub within : (held more x y : List ℕ) → held ++ more ≡ x ++ y → length x ≤ length held → held ≡ x ++ drop (length x) held
within held more [] y e le = refl
within [] more (b ∷ x) y e le = absurd (omega arith)
within (h ∷ held) more (b ∷ x) y e le =
    let heads : h ≡ b = cc in
    let tails : held ++ more ≡ x ++ y = cc in
    let rest : held ≡ x ++ drop (length x) held = within held more x y tails (omega arith) in
    λ i. heads i ∷ rest i

-- It is one if enough bytes are held, or if nothing is left.
pub fits : (held more x y : List ℕ) (count left : ℕ) → held ++ more ≡ x ++ y → length (held ++ more) ≡ left → length x ≤ count → (count ≤ length held) ⊎ (left ≤ length held) → length x ≤ length held
fits held more x y count left e all le (inl many) = omega (arith, le, many)
fits held more x y count left e all le (inr whole) = omega (arith, whole, all, ap length e, length-append x y)

-- The bytes after the prefix.
pub after : (held x y : List ℕ) (at : ℕ) → at ≡ length x → held ≡ x ++ y → drop at held ≡ y
after held x y at size e = ap (drop at) e ∙ drop_at x y at (sym size)
