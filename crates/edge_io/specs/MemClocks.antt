-- The clock in memory.
use Rattle.std.specs.Prelude.{◌≡◌, ℕ, true, false, List, Result, MatchResult}
use Rattle.edge_io.specs.Listed.{raised, is_listed}
use Rattle.edge_io.specs.Coming.{Moments, passed}

-- The state of a clock: the moments to come, the ordinals of the calls that fail, and the counts of
-- calls and of failed calls.
pub record Ticking : Type 0 where
  pub coming : Moments
  pub listed : List ℕ
  pub calls : ℕ
  pub faults : ℕ

-- The state after a failed call: the moments to come are unchanged.
abbrev pub failed_tick : Ticking → Ticking
failed_tick s = record s { calls = raised s.calls; faults = raised s.faults }

-- The state after a call that gave a moment.
abbrev pub ticked : Ticking → Ticking
ticked s = record s { coming = passed s.coming; calls = raised s.calls }

-- A call fails if and only if it is listed. Any other returns the first of the moments to come, and
-- removes it unless it is the last.
abbrev pub Ticks : {E : Type 0} → Result ℕ E → Ticking → Ticking → Type 0
Ticks result s s' =
    MatchResult result (λ moment. (is_listed s.listed s.calls ≡ false) × (moment ≡ s.coming.next)
    × (s' ≡ ticked s))
    (λ _. (is_listed s.listed s.calls ≡ true) × (s' ≡ failed_tick s))
