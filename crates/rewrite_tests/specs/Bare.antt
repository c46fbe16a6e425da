-- An archive without messages, and a plan of the first epoch.
use Rattle.std.specs.Prelude.{◌≡◌, ℕ, List, replicate}
use Rattle.disk_model.specs.declared.name.FileKind.TheVariants as kind
use Rattle.disk_model.specs.Sizes.{epoch_count}
use Rattle.root_slots.specs.declared.root.Root.{Root}
use Rattle.root_slots.specs.Valid.{IsRoot, no_place}
use Rattle.root_change.specs.declared.plan.Target.TheVariants as target
use Rattle.root_change.specs.Rewriting.{Plan, IsPlan, no_plan, with_bytes}

-- The root of an archive without messages.
pub record IsBare (root : Root) : Type 0 where
  pub valid : IsRoot root
  pub sequence : root.sequence ≡ 1
  pub map : root.map.length ≡ 0
  pub epochs : root.epochs ≡ replicate epoch_count no_place

-- A plan writes some bytes to the first epoch anew.
pub record IsFirstPlan (plan : Plan) : Type 0 where
  pub valid : IsPlan plan
  pub bytes : List ℕ
  pub plan_is : plan ≡ with_bytes (no_plan kind.Epoch 0 target.Anew) bytes
