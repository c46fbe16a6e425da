-- Texts in quotes, as a loop reads them.
use Rattle.std.proofs.Common.{ℕ, List, ◌++◌, Option, Some, None}

-- A text before what is read.
abbrev pub put_all : List ℕ → Option (List ℕ × List ℕ) → Option (List ℕ × List ℕ)
put_all text None = None
put_all text (Some p) = Some (text ++ p.0, p.1)
