-- The sink in memory.
use Rattle.std.specs.Prelude.{◌≡◌, ℕ, false, List, ◌++◌, Result, MatchResult, if◌then◌else◌}
use Rattle.edge_io.specs.Listed.{raised, is_listed}

-- The state of a sink: the bytes taken, the ordinals of the calls that fail, and the counts of
-- calls, of failed calls, and of calls that failed because an allocation did.
pub record SinkState : Type 0 where
  pub taken : List ℕ
  pub listed : List ℕ
  pub calls : ℕ
  pub faults : ℕ
  pub starved : ℕ

-- The state after a call that took bytes.
abbrev pub put : List ℕ → SinkState → SinkState
put bytes s = record s { taken = s.taken ++ bytes; calls = raised s.calls }

-- The state after a listed call, which takes nothing.
abbrev pub failed_write : SinkState → SinkState
failed_write s = record s { calls = raised s.calls; faults = raised s.faults }

-- The state after a call that ran out of memory, which takes nothing.
abbrev pub starved_write : SinkState → SinkState
starved_write s =
    record s { calls = raised s.calls; faults = raised s.faults; starved = raised s.starved }

-- A listed call fails. Any other takes all bytes, or runs out of memory.
abbrev pub SinkWrites : {T E : Type 0} → Result T E → List ℕ → SinkState → SinkState → Type 0
SinkWrites result bytes s s' =
    MatchResult result (λ _. (is_listed s.listed s.calls ≡ false) × (s' ≡ put bytes s))
    (λ _. s' ≡ (if is_listed s.listed s.calls then failed_write s else starved_write s))
