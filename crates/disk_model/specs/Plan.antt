-- Which calls of a disk in memory fail.
use Rattle.std.specs.Prelude.{◌≡◌, ◌⊎◌, ◌+◌, ◌-◌, ◌^◌, ℕ, min, Bool, true, false, List}
use Rattle.std.specs.List.{Contains}
use Rattle.disk_model.specs.declared.plan.Plan.{Plan}

-- One more, up to 2^64 - 1.
abbrev pub counted : ℕ → ℕ
counted n = min (n + 1) (2 ^ 64 - 1)

-- The next call, the first being 1, is listed.
abbrev pub IsListed : Plan → Type 0
IsListed plan = Contains plan.listed (counted plan.calls)

-- A plan before the first call.
pub record PlanStarts (listed : List ℕ) (plan : Plan) : Type 0 where
  pub listed_so : plan.listed ≡ listed
  pub calls : plan.calls ≡ 0
  pub faults : plan.faults ≡ 0
  pub starved : plan.starved ≡ 0

-- A call is counted, and it is to fail exactly if it is listed.
pub record Counts (old : Plan) (fails : Bool) (new : Plan) : Type 0 where
  pub listed : fails ≡ true → IsListed old
  pub unlisted : fails ≡ false → IsListed old → ⊥
  pub same : new.listed ≡ old.listed
  pub calls : new.calls ≡ counted old.calls
  pub starved : new.starved ≡ old.starved
  pub fault : fails ≡ true → new.faults ≡ counted old.faults
  pub no_fault : fails ≡ false → new.faults ≡ old.faults

-- A call that runs out of memory counts as a fault and as starved.
pub record Starves (old new : Plan) : Type 0 where
  pub same : new.listed ≡ old.listed
  pub calls : new.calls ≡ old.calls
  pub starved : new.starved ≡ counted old.starved
  pub faults : new.faults ≡ counted old.faults

-- A listed call fails. A call that isn't listed returns `Ok`, or fails because it runs out of
-- memory.
pub record FailsAsListed (old : Plan) (answers : Bool) (new : Plan) : Type 0 where
  pub same : new.listed ≡ old.listed
  pub calls : new.calls ≡ counted old.calls
  pub listed : IsListed old → (answers ≡ false) × (new.starved ≡ old.starved)
      × (new.faults ≡ counted old.faults)
  pub ok : answers ≡ true → (new.starved ≡ old.starved) × (new.faults ≡ old.faults)
  pub unlisted : answers ≡ false → IsListed old
      ⊎ ((new.starved ≡ counted old.starved) × (new.faults ≡ counted old.faults))
