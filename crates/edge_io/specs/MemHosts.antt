-- The host in memory.
use Rattle.std.specs.Prelude.{◌≡◌, ℕ, Bool, true, false, nat_lt, List, [], Option, Some, None, slice_get, Result, MatchResult, if◌then◌else◌}
use Rattle.std.specs.Ordering.{nat_cmp}
use Rattle.std.specs.BTreeMap.{is_at}
use Rattle.std.specs.Map.{lookup}
use Rattle.std.specs.Global.{Vec}
use Rattle.edge_io.specs.Listed.{raised, is_listed}
use Rattle.edge_io.specs.Frames.{Outputs, outputs}
use Rattle.edge_io.specs.Passing.{PassedEvents, unbegun}
use Rattle.edge_io.specs.Scripts.{Arrival}

-- The bytes of a vector, or none if there is no vector.
abbrev pub items_or_none : Option (Vec ℕ) → List ℕ
items_or_none None = []
items_or_none (Some bytes) = bytes.items

-- The bytes that the entries of a map have for each connection, which are told.
abbrev pub taken_of : List (ℕ × Vec ℕ) → ℕ → Option (List ℕ)
taken_of entries conn = Some (items_or_none (lookup (is_at (nat_cmp conn)) entries))

-- What a host in memory keeps of its connections: the bytes that each took, how often each of the
-- first 65,536 was closed, and the count of lost calls.
pub record Outgoing : Type 0 where
  pub bytes : List (ℕ × Vec ℕ)
  pub closed : List ℕ
  pub lost : ℕ

-- The outputs that are kept so.
abbrev pub outputs_in : Outgoing → Outputs
outputs_in o = outputs (taken_of o.bytes) (slice_get o.closed) o.lost

-- How often a connection was closed before the first event. It is told below 65,536.
abbrev pub unclosed : ℕ → Option ℕ
unclosed conn = if nat_lt conn 65536 then Some 0 else None

-- No connection took anything, none was closed, and no call was lost.
pub record IsUnused (outputs : Outputs) : Type 0 where
  pub untaken : (conn : ℕ) → outputs.taken conn ≡ Some []
  pub all_open : (conn : ℕ) → outputs.closings conn ≡ unclosed conn
  pub no_lost : outputs.lost ≡ 0

-- The state of a host: its events, its outputs, the ordinals of the calls that fail, and the counts
-- of calls of `next` and `send`, of failed calls of `next`, and of calls that ran out of memory.
pub record Hosting : Type 0 where
  pub events : PassedEvents
  pub outgoing : Outgoing
  pub listed : List ℕ
  pub calls : ℕ
  pub faults : ℕ
  pub starved : ℕ

-- The state of a new host.
pub record IsNewHost (arrivals : List Arrival) (ordinals : List ℕ) (host : Hosting) : Type 0 where
  pub events_are : host.events ≡ unbegun arrivals
  pub unused : IsUnused (outputs_in host.outgoing)
  pub listed_are : host.listed ≡ ordinals
  pub no_calls : host.calls ≡ 0
  pub no_faults : host.faults ≡ 0
  pub not_starved : host.starved ≡ 0

-- A call of `next` fails if and only if it is listed.
abbrev pub NextFails : {T E : Type 0} → Result T E → Hosting → Hosting → Type 0
NextFails result s s' = MatchResult result (λ _. is_listed s.listed s.calls ≡ false)
    (λ _. (is_listed s.listed s.calls ≡ true) × (s'.faults ≡ raised s.faults))

-- A call of `send` fails if it is listed, or runs out of memory.
abbrev pub SendFails : {T E : Type 0} → Result T E → Hosting → Hosting → Type 0
SendFails result s s' = MatchResult result
    (λ _. (is_listed s.listed s.calls ≡ false) × (s'.starved ≡ s.starved))
    (λ _. s'.starved ≡ (if is_listed s.listed s.calls then s.starved else raised s.starved))

-- The call is counted, and the same calls are listed.
pub record CountsCall (s s' : Hosting) : Type 0 where
  pub listed_same : s'.listed ≡ s.listed
  pub calls_more : s'.calls ≡ raised s.calls

-- The connection was closed. This is told below 65,536.
abbrev pub is_closed : Option ℕ → Bool
is_closed None = false
is_closed (Some count) = nat_lt 0 count
