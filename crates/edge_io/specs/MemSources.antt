-- The source in memory.
use Rattle.std.specs.Prelude.{◌≡◌, ℕ, true, false, List, ◌++◌, length, take, drop, min, Result, MatchResult}
use Rattle.edge_io.specs.Listed.{raised, is_listed}

-- The state of a source: the remaining bytes, the ordinals of the calls that fail, and the counts
-- of calls and of failed calls.
pub record SourceState : Type 0 where
  pub left : List ℕ
  pub listed : List ℕ
  pub calls : ℕ
  pub faults : ℕ

-- The state after a failed call, which takes nothing.
abbrev pub failed_read : SourceState → SourceState
failed_read s = record s { calls = raised s.calls; faults = raised s.faults }

-- The state after a call that removed `count` bytes.
abbrev pub taken_off : ℕ → SourceState → SourceState
taken_off count s = record s { left = drop count s.left; calls = raised s.calls }

-- A call fails if and only if it is listed. Any other reads as many bytes as remain, up to the
-- length of the buffer, and leaves the rest of the buffer unchanged.
abbrev pub SourceReads : {E : Type 0} → Result ℕ E → List ℕ → List ℕ → SourceState → SourceState → Type 0
SourceReads result into into' s s' =
    MatchResult result
    (λ count. (is_listed s.listed s.calls ≡ false) × (count ≡ min (length into) (length s.left))
    × (into' ≡ take count s.left ++ drop count into)
    × (s' ≡ taken_off count s))
    (λ _. (is_listed s.listed s.calls ≡ true) × (into' ≡ into) × (s' ≡ failed_read s))
