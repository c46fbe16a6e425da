-- What the lines that some bytes end ask for, counted.
use Rattle.std.specs.Prelude.{◌≡◌, ◌==◌, ◌+◌, ℕ, nat_lt, List, [], ◌∷◌, length, if◌then◌else◌}
use Rattle.std.specs.List.{sum_by}
use Rattle.line_door.specs.Lines.{content}
use Rattle.line_door.specs.Skipping.{Taken, Skipped, Unended, skipping_front}

-- The byte before the first of some lines. Without a line it belongs to one that hasn't ended.
abbrev pub before_first : ℕ → List (List ℕ) → List (List ℕ)
before_first b [] = []
before_first b (line ∷ lines) = (b ∷ line) ∷ lines

-- The lines that have ended, in order, without their line feeds.
abbrev pub ended_lines : List ℕ → List (List ℕ)
ended_lines [] = []
ended_lines (b ∷ bs) =
    if b == 10 then [] ∷ ended_lines bs else before_first b (ended_lines bs)

-- What a line without its line feed costs. One that is too long costs nothing.
abbrev pub line_cost : ℕ → (List ℕ → ℕ) → List ℕ → ℕ
line_cost limit cost line = if nat_lt (length line) limit then cost (content line) else 0

-- What the lines that these bytes end cost, where `cost` is that of a line without its line end.
abbrev pub lines_cost : ℕ → (List ℕ → ℕ) → List ℕ → ℕ
lines_cost limit cost bytes = sum_by (line_cost limit cost) (ended_lines bytes)

-- The law of what lines cost: a line costs its own, and then come the lines after it.
pub record LinesCostLaw : Type 0 where
  pub none : (limit : ℕ) (cost : List ℕ → ℕ) (bytes : List ℕ)
      → skipping_front limit bytes ≡ Unended → lines_cost limit cost bytes ≡ 0
  pub taken : (limit : ℕ) (cost : List ℕ → ℕ) (bytes line rest : List ℕ)
      → skipping_front limit bytes ≡ Taken line rest
      → lines_cost limit cost bytes ≡ cost (content line) + lines_cost limit cost rest
  pub skipped : (limit : ℕ) (cost : List ℕ → ℕ) (bytes rest : List ℕ)
      → skipping_front limit bytes ≡ Skipped rest
      → lines_cost limit cost bytes ≡ lines_cost limit cost rest
