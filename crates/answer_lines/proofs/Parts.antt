-- Lines that are written part by part.
use Rattle.std.proofs.Common.{◌≡◌, ℕ, List, [], ◌∷◌, ◌++◌, append_assoc, ap, ◌∙◌}
use Rattle.answer_lines.specs.Lines.{whole_line}

-- The line feed follows the last of three parts.
pub line-parts : (a b c : List ℕ) → whole_line (a ++ (b ++ c)) ≡ a ++ (b ++ whole_line c)
line-parts a b c = append_assoc a (b ++ c) (10 ∷ []) ∙ ap (λ (t : List ℕ). a ++ t) (append_assoc b c (10 ∷ []))
