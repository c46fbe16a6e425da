-- Private: how a new entry of an adoption is planned, and what is planned once all own entries were taken.
use Rattle.std.specs.Prelude.{◌≡◌, ◌+◌, ℕ, List, [], ◌∷◌, ◌++◌, Option, Some, None}
use Rattle.disk_model.specs.Disk.{Content}
use Rattle.arch_model.specs.Archives.{Entry, Archive}
use Rattle.arch_model.specs.declared.line.EntryLine.{EntryLine}
use Rattle.root_slots.specs.declared.root.Root.{Root}
use Rattle.root_change.specs.Rewriting.{Plan, plan_count}
use Rattle.root_change.specs.declared.plan.Target.{Target}
use Rattle.root_change.specs.declared.plan.Target.TheVariants.{Anew, Behind}
use Rattle.store_finding.specs.Kept.{IsDiskWith, StoreState}
use Rattle.store_finding.specs.Recovery.{NamesArchive}
use Rattle.store_planning.specs.Epochs.{AreEpochsReady, PlansEpochs}
use Rattle.store_planning.specs.Planning.{Planning}
use Rattle.epoch_store.specs.Adopting.{AddsLine, AdoptionState, IsAdding, PlansAdopted, entry_of_line}

-- All own entries were taken, and the last epoch was closed: the entries are those of before.
pub record ClosesAdoption (v : StoreState) (old new : AdoptionState) : Type 0 where
  pub adding : IsAdding v new
  pub entries : new.planned.entries ≡ old.planned.entries
  pub epochs : (k : Content) (cache : List ℕ) (a : Archive) (es : List Entry) → IsDiskWith v cache a k
      → PlansAdopted v cache a k es old → PlansEpochs v.root cache a es new.planned

-- One more entry is planned, of a line and a text: its epoch is written with some bytes more, in a new
-- file if it was planned so before, and otherwise after its own bytes.
pub record PlansLine (root : Root) (old : Planning) (line : EntryLine) (text : List ℕ) (new : Planning)
    : Type 0 where
  pub added : AddsLine root.config.form line text old.entries new.entries
  pub current : new.current ≡ old.current
  pub ready : AreEpochsReady root new
  pub archive : (cache : List ℕ) (a : Archive) (es : List Entry) → NamesArchive root a
      → PlansEpochs root cache a es old
      → PlansEpochs root cache a (es ++ entry_of_line line text ∷ []) new

-- The number of bytes of a part after as many are written in place of its own, or after them.
abbrev pub end_at : Target → ℕ → ℕ → ℕ
end_at Anew own count = count
end_at Behind own count = own + count

-- The same by a plan.
abbrev pub end_by : ℕ → Plan → ℕ
end_by own plan = end_at plan.target own (plan_count plan)

-- The same, if there is a plan. Otherwise it stays.
abbrev pub end_if : ℕ → Option Plan → ℕ
end_if own None = own
end_if own (Some plan) = end_by own plan
