-- What a disk in memory holds.
use Rattle.std.specs.Prelude.{◌≡◌, ℕ, List, [], take, None}
use Rattle.disk_model.specs.declared.name.FileName.{FileName}
use Rattle.disk_model.specs.declared.change.Change.{Change}
use Rattle.disk_model.specs.declared.plan.Plan.{Plan}
use Rattle.disk_model.specs.declared.memory.MemDisk.{MemDisk}
use Rattle.disk_model.specs.Disk.{Files, Content}
use Rattle.disk_model.specs.Plan.{PlanStarts}
use Rattle.disk_model.specs.Record.{file_at, content_of}

-- The disk's files as they read.
abbrev pub files_of : MemDisk → Files
files_of disk = file_at disk.files

-- The files that the disk began with.
abbrev pub base_of : MemDisk → Files
base_of disk = file_at disk.base

-- The changes so far, each of which has a moment.
abbrev pub changes_of : MemDisk → List Change
changes_of disk = disk.changes.items

-- What the disk held at a moment.
abbrev pub content_then : MemDisk → ℕ → Content
content_then disk at = content_of (base_of disk) (take at (changes_of disk))

-- The calls that fail, and the counts of calls and faults.
abbrev pub plan_of : MemDisk → Plan
plan_of disk = disk.plan

-- The number of calls that ran out of memory.
abbrev pub starved_of : MemDisk → ℕ
starved_of disk = disk.plan.starved

-- The number of calls that failed.
abbrev pub failed_of : MemDisk → ℕ
failed_of disk = disk.plan.faults

-- The number of reads.
abbrev pub reads_of : MemDisk → ℕ
reads_of disk = disk.reads

-- A disk before its first call, with these files and these calls that are to fail.
pub record IsFreshDisk (files : Files) (listed : List ℕ) (disk : MemDisk) : Type 0 where
  pub here : (name : FileName) → files_of disk name ≡ files name
  pub base : (name : FileName) → base_of disk name ≡ files name
  pub changes : changes_of disk ≡ []
  pub plan : PlanStarts listed (plan_of disk)
  pub reads : reads_of disk ≡ 0

-- No file.
abbrev pub no_files : Files
no_files name = None
