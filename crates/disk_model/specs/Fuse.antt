-- A disk that passes a number of calls to another disk and then fails every call.
use Rattle.std.specs.Prelude.{◌≡◌, ◌<◌, ◌+◌, ℕ, Bool, false}
use Rattle.disk_model.specs.declared.fuse.FuseDisk.{FuseDisk}

-- The disk to which calls are passed.
abbrev pub inner_of : {D : Type 0} → FuseDisk D → D
inner_of disk = disk.inner

-- The number of calls that are still passed.
abbrev pub passes_of : {D : Type 0} → FuseDisk D → ℕ
passes_of disk = disk.passes

-- The number of calls that were not passed.
abbrev pub refused_by : {D : Type 0} → FuseDisk D → ℕ
refused_by disk = disk.failed

-- While calls are passed, each uses one up and returns what the other disk returns, by that disk's
-- own plan. From then on every call fails, and the other disk stays as it is.
pub record FailsWhenSpent {D : Type 0} (fails_by : D → Bool → D → Type 0) (old : FuseDisk D)
    (ok : Bool) (new : FuseDisk D) : Type 0 where
  pub passed : 0 < passes_of old → (passes_of new + 1 ≡ passes_of old)
      × (refused_by new ≡ refused_by old) × fails_by (inner_of old) ok (inner_of new)
  pub spent : passes_of old ≡ 0 → (ok ≡ false) × (passes_of new ≡ 0) × (inner_of new ≡ inner_of old)
