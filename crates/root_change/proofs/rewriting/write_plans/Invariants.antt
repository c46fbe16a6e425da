-- The plans so far are carried out.
use Rattle.std.specs.Prelude.{◌≡◌, ◌≤◌, take}
use Rattle.disk_model.specs.Beside.{RunsBeside}
use Rattle.disk_model.specs.Disk.{BothTold, WhereTold}
use Rattle.root_change.specs.Names.{bounds_of}
use Rattle.root_change.specs.Texts.{HasPartSizes}
use Rattle.root_change.specs.Writing.{WritesPlans}
use Rattle.root_change.proofs.rewriting.write_plans.Given as goal

abbrev pub invariant-loop-plan : goal.invariant-loop-plan
invariant-loop-plan g l = record {
  crash_beside : RunsBeside g.D.Disk (bounds_of l.old) l.fn.disk l.disk;
  written : BothTold (WritesPlans l.old l.new (take l.plan-index l.plans)) (g.D.Disk.content l.fn.disk) (g.D.Disk.content l.disk);
  sizes : WhereTold (HasPartSizes l.old) (g.D.Disk.content l.disk);
  fewest : g.D.Disk.reads l.fn.disk ≤ g.D.Disk.reads l.disk;
  kept : g.D.Disk.faults l.disk ≡ g.D.Disk.faults l.fn.disk;
}
