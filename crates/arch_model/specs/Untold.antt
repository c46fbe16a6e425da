-- Private: a keeper that tells nothing: it holds no archive, and what a crash leaves of it isn't
-- told.
use Rattle.std.specs.Prelude.{◌≡◌, ℕ, Bool, List, Option}
use Rattle.arch_model.specs.Archives.{Archive}
use Rattle.arch_model.specs.Keeping.{Keeper, OnlyRead}
use Rattle.arch_model.specs.declared.command.Command.{Command}
use Rattle.arch_model.specs.declared.answer.Answer.{Answer}

-- It holds no archive, and its files are no archive's.
abbrev pub HoldsNone : {K : Type 0} → K → Archive → Type 0
HoldsNone k a = ⊥

-- No list of archives covers its crashes.
abbrev pub LeavesUntold : {K : Type 0} → K → K → List (Option Archive) → Type 0
LeavesUntold start k may = ⊥

-- No archive is found in its files.
abbrev pub FindsUntold : {K : Type 0} → K → K → Archive → Type 0
FindsUntold old new a = ⊥

-- Nothing is said of what a command did to its files.
abbrev pub TakesUntold : {K : Type 0} → K → K → Command → ℕ → Answer → Type 0
TakesUntold old new command moment reply = Unit {0}

-- Such a keeper.
abbrev pub untold : {K : Type 0} → (K → Bool) → (K → ℕ) → (K → ℕ) → (K → K → Type 0) → Keeper K
untold ready reads faults alike = record {
  holds = HoldsNone;
  ready = ready;
  reads = reads;
  faults = faults;
  alike = alike;
  files_are = HoldsNone;
  leaves = LeavesUntold;
  finds = FindsUntold;
  takes = TakesUntold;
}

-- What keeps the readiness only reads.
pub untold-read : {K : Type 0} (ready : K → Bool) (reads faults : K → ℕ) (alike : K → K → Type 0)
    (k m : K) → ready m ≡ ready k → OnlyRead (untold ready reads faults alike) k m
untold-read ready reads faults alike k m same = record {
  held = λ a no. no;
  back = λ a no. no;
  rested = λ a no. no;
  same = same;
  passes = λ start may has no. no;
}
