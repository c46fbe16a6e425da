use Rattle.std.proofs.Common.{◌≡◌, ◌-◌, ◌≤◌, length}
use Rattle.disk_model.specs.Disk.{WhereTold}
use Rattle.epoch_file.specs.Runs.{OnlyReads}
use Rattle.epoch_file.specs.Forms.{HaveIdsOf}
use Rattle.epoch_file.specs.Lying.{LieIn}
use Rattle.epoch_file.specs.Steps.{KeepsWalked, SamePart}
use Rattle.epoch_file.specs.Windows.{IsInsidePart}
use Rattle.epoch_file.proofs.walking.go_on.Given as goal

abbrev pub invariant-loop-alloc : goal.invariant-loop-alloc
invariant-loop-alloc g l = record {
  keeps : WhereTold (KeepsWalked l.fn.start l.state) (g.D.Disk.content l.fn.disk);
  part : SamePart l.fn.start.part l.state.part;
  form : l.state.form ≡ l.fn.start.form;
  lie : LieIn 0 l.state.part.offset l.state.seen;
  ids : HaveIdsOf l.state.form l.state.seen;
  inside : IsInsidePart l.state.part l.state.window;
  room : 8 ≤ length l.piece;
  reads : OnlyReads g.D.Disk l.fn.disk l.disk;
  kept : g.D.Disk.faults l.disk ≡ g.D.Disk.faults l.fn.disk;
}

abbrev pub decreases-loop-alloc : goal.decreases-loop-alloc
decreases-loop-alloc g l = l.state.part.end - l.state.part.offset
