-- The parameters of targets.
use Rattle.std.proofs.Common.{◌≡◌, ℕ, ◌+◌, ◌-◌, ◌≤◌, List, length, take, drop, sym, ap, ◌∙◌, arith, length-drop, take_all}
use Rattle.std.proofs.lemmas.List.{drop-drop, drop_all, nil_from_length}

-- What is after a mark.
pub query-some : (n : ℕ) (target rest : List ℕ) → rest ≡ drop n target → take (length rest - 1) (drop 1 rest) ≡ drop (n + 1) target
query-some n target rest e =
    let all : length (drop 1 rest) ≤ length rest - 1 = omega (arith, length-drop 1 rest) in
    take_all (length rest - 1) (drop 1 rest) all ∙ ap (drop 1) e ∙ drop-drop 1 n target

-- Without a mark nothing is.
pub query-none : (n : ℕ) (target rest : List ℕ) → rest ≡ drop n target → length rest ≡ 0 → rest ≡ drop (n + 1) target
query-none n target rest e none =
    let short : length (drop n target) ≡ 0 = ap length (sym e) ∙ none in
    nil_from_length rest none ∙ sym (drop_all (n + 1) target (omega (arith, length-drop n target, short)))
