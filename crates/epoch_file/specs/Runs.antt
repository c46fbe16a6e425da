-- Calls that only read a disk.
use Rattle.std.specs.Prelude.{◌≡◌, ℕ, ◌≤◌, Result, Ok, Err}
use Rattle.arch_base.specs.Counts.{Rose}
use Rattle.disk_model.specs.declared.disk.Disk.{Ghosts as Disk}
use Rattle.disk_model.specs.declared.refusal.WalkRefusal.{WalkRefusal}
use Rattle.disk_model.specs.declared.refusal.WalkRefusal.TheVariants.{DiskFault, NoMemory, Damaged}
use Rattle.disk_model.specs.Disk.{Image, BothTold, Unchanged}
use Rattle.disk_model.specs.Moments.{LeavesOnly}

-- A call changes no file, leaves nothing else to a crash, and no count of faults falls.
pub record OnlyReads {D : Type 0} (g : Disk D) (old new : D) : Type 0 where
  pub same : BothTold Unchanged (g.content old) (g.content new)
  pub crash : LeavesOnly g old new (Image (g.content old))
  pub later : g.faults old ≤ g.faults new

-- The count of faults rose if the disk failed, and otherwise stays the same.
abbrev pub FaultRose : {T : Type 0} → ℕ → ℕ → Result T WalkRefusal → Type 0
FaultRose before now (Err DiskFault) = Rose before now
FaultRose before now _ = now ≡ before

-- The same if nothing else can go wrong than that and running out of memory.
abbrev pub StopRose : {T : Type 0} → ℕ → ℕ → Result T WalkRefusal → Type 0
StopRose before now (Ok value) = now ≡ before
StopRose before now (Err DiskFault) = Rose before now
StopRose before now (Err NoMemory) = now ≡ before
StopRose before now (Err (Damaged offset)) = ⊥
