-- What the calls of a load run give, and why they refuse.
use Rattle.std.specs.Prelude.{◌≡◌, ℕ, Result, Ok, Err}
use Rattle.arch_base.specs.Counts.{Rose}
use Rattle.load_run.specs.declared.refusal.LoadRefusal.{LoadRefusal}
use Rattle.load_run.specs.declared.refusal.LoadRefusal.TheVariants as refusal

-- The refusal is not that a file is damaged.
abbrev pub IsUndamagedLoad : LoadRefusal → Type 0
IsUndamagedLoad refusal.NoMemory = Unit {0}
IsUndamagedLoad refusal.DiskFault = Unit {0}
IsUndamagedLoad refusal.Damaged = ⊥

-- The value of a call has a property. If it refused, no file is damaged.
abbrev pub GivesUndamaged : {T : Type 0} → Result T LoadRefusal → (T → Type 0) → Type 0
GivesUndamaged (Ok x) P = P x
GivesUndamaged (Err why) P = IsUndamagedLoad why

-- Why a call refused: the disk failed, and its count of faults rose; or the count stayed.
abbrev pub LoadWhy : ℕ → ℕ → LoadRefusal → Type 0
LoadWhy before now refusal.NoMemory = now ≡ before
LoadWhy before now refusal.DiskFault = Rose before now
LoadWhy before now refusal.Damaged = now ≡ before

-- A refusal has a cause. A call that did its work met no fault.
abbrev pub LoadCause : {T : Type 0} → ℕ → ℕ → Result T LoadRefusal → Type 0
LoadCause before now (Ok x) = now ≡ before
LoadCause before now (Err why) = LoadWhy before now why
