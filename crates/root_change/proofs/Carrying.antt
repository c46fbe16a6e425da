-- What carrying out plans promises, by how it ends.
use Rattle.std.specs.Prelude.{◌≡◌, ℕ, ◌-◌, ◌<◌, List, Option, Some, None, Result, Ok, Err, refl}
use Rattle.std.specs.Result.{IsErrAnd}
use Rattle.std.proofs.Common.{◌∙◌, sym, ap, subst, inl, inr, arith}
use Rattle.arch_base.specs.Counts.{Rose, HasCause, RoseIf}
use Rattle.arch_base.specs.declared.ids.Form.{Form}
use Rattle.disk_model.specs.declared.disk.Disk.{Ghosts as Disk}
use Rattle.disk_model.specs.Disk.{Content, File, BothTold, WhereTold, bytes_of}
use Rattle.disk_model.specs.Beside.{RunsBeside}
use Rattle.disk_model.specs.Moments.{LeavesOnly, weaker}
use Rattle.disk_model.specs.Tells.{told_then}
use Rattle.root_slots.specs.declared.root.Root.{Root}
use Rattle.root_slots.specs.RootName.{root_name}
use Rattle.root_slots.specs.OneRoot.{RunsOneRoot}
use Rattle.root_slots.specs.Spelling.{spelling}
use Rattle.root_slots.proofs.OneRoots.{joined_one}
use Rattle.root_slots.specs.Slots.{HasNewRoot, with_root}
use Rattle.root_slots.specs.Valid.{IsRoot, RootFits}
use Rattle.root_change.specs.declared.rewriting.RewriteRefusal.{RewriteRefusal}
use Rattle.root_change.specs.declared.rewriting.RewriteRefusal.TheVariants.{DiskFault, Short}
use Rattle.root_change.specs.Names.{bounds_of}
use Rattle.root_change.specs.Parts.{Parts, texts_of, IsOwnOfParts}
use Rattle.root_change.specs.Replacing.{ToReplace, StandsForEither}
use Rattle.root_change.specs.Rewriting.{Plan, CarriesOut, IfShort, IsFailed, IsPlannedPart, IsRootAfter, IsShort, MayCarryAll, RecoversPlanned, rewritten}
use Rattle.root_change.specs.Parts.{RecoversPartsBy}
use Rattle.root_change.specs.Texts.{Texts, OnDisk}
use Rattle.root_change.specs.Writing.{WritesPlans}
use Rattle.root_change.proofs.Changes.{writing_by, changing_by, to_replace, changed}
use Rattle.root_change.proofs.Phases.{beside_one, beside_went}
use Rattle.root_change.proofs.Rewritten.{reading, reads_told, becomes_told, fit_told}
use Rattle.root_change.proofs.Written.{part_isnt_root, short_handed}

-- A refusal is the same whatever the call returns otherwise.
short_as : (refusal : RewriteRefusal) → IsShort {T = Root} (Err refusal) → IsShort {T = Unit {0}} (Err refusal)
short_as DiskFault short = absurd short
short_as (Short file at) short = tt

whole_as : (refusal : RewriteRefusal) (k : Option Content) → WhereTold (λ (c : Content). IsShort {T = Unit {0}} (Err refusal) → ⊥) k → WhereTold (λ (c : Content). IsShort {T = Root} (Err refusal) → ⊥) k
whole_as refusal None whole = tt
whole_as refusal (Some k) whole = λ short. whole (short_as refusal short)

rose_as : (refusal : RewriteRefusal) (m n : ℕ) → RoseIf (IsFailed {T = Unit {0}} (Err refusal)) m n → RoseIf (IsFailed {T = Root} (Err refusal)) m n
rose_as DiskFault m n rose = rose
rose_as (Short file at) m n rose = rose

-- A fault after calls without one.
pub later_fault : {T E : Type 0} (before mid now : ℕ) (fault : E) → mid ≡ before → HasCause {T = T} mid now (Err fault) → RoseIf (Unit {0}) before now
later_fault before mid now fault same cause = record {
  later = (let later = cause.later in omega (arith, same, later));
  failed = λ is. subst (λ (n : ℕ). Rose n now) same cause.failed;
  kept = λ none. absurd (none tt);
}

-- No fault.
pub no_fault : {T E : Type 0} (before mid now : ℕ) (value : T) → mid ≡ before → HasCause {E = E} mid now (Ok value) → RoseIf ⊥ before now
no_fault before mid now value same cause = (let kept = cause.kept in record {
  later = omega (arith, same, kept);
  failed = λ is. absurd is;
  kept = λ none. omega (arith, same, kept);
})

-- Nothing is short.
pub not_short : (k : Option Content) → WhereTold (λ (c : Content). ⊥ → ⊥) k
not_short None = tt
not_short (Some k) = λ short. short

module _ {D : Type 0} (g : Disk D) (disk d : D) (old : Root) (free : ℕ) (plans : List Plan) (number : ℕ) (form : Form) (new : Root) (after : IsRootAfter old plans number form new) where
  failed_now : (refusal : RewriteRefusal) → ((parts : Parts) → IsOwnOfParts old free parts (g.content disk) → LeavesOnly g disk d (RecoversPlanned old plans number form parts)) → RunsBeside g (bounds_of old) disk d → WhereTold (λ (c : Content). IsShort {T = Root} (Err refusal) → ⊥) (g.content disk)
      → IfShort {T = Root} (Err refusal) (IsPlannedPart old plans) → RoseIf (IsFailed {T = Root} (Err refusal)) (g.faults disk) (g.faults d) → CarriesOut g disk d old free plans number form (Err refusal)
  failed_now refusal leaves run whole told rose = record {
    crash = leaves;
    done = λ parts own. tt;
    whole = whole;
    short = told;
    settled = tt;
    root_is = tt;
    valid = tt;
    sizes = tt;
    cause = rose;
    rooted = tt;
    crash_root = (new, after, beside_one g old free (Some (spelling new)) disk d run);
    crash_beside = λ short. run;
  }

  -- The plans weren't carried out: what a crash leaves stands for the old parts.
  pub writing_failed : (result : Result Root RewriteRefusal) (refusal : RewriteRefusal) → IsErrAnd result (λ r. r ≡ refusal) → RunsBeside g (bounds_of old) disk d → WhereTold (λ (c : Content). IsShort {T = Unit {0}} (Err refusal) → ⊥) (g.content disk) → IfShort {T = Unit {0}} (Err refusal) (IsPlannedPart old plans) → RoseIf (IsFailed {T = Unit {0}} (Err refusal)) (g.faults disk) (g.faults d)
      → CarriesOut g disk d old free plans number form result
  writing_failed (Ok made) refusal is run whole told rose = absurd is
  writing_failed (Err r) refusal is run whole told rose =
      subst (λ (x : RewriteRefusal). CarriesOut g disk d old free plans number form (Err x)) (sym is)
      (failed_now refusal
      (λ parts own. weaker g disk d (RecoversPartsBy old parts) (RecoversPlanned old plans number form parts) (writing_by free old new parts (rewritten old plans parts) g disk d own run) (λ image stands. inl stands))
      run (whole_as refusal (g.content disk) whole) (short_handed {T = Root} (IsPlannedPart old plans) (IsPlannedPart old plans) (Err refusal) refusal (λ file at part. part) refl told) (rose_as refusal (g.faults disk) (g.faults d) rose))

  -- The disk failed while the root was replaced.
  pub replacing_failed : (result : Result Root RewriteRefusal) → IsErrAnd result (λ r. r ≡ DiskFault) → ((parts : Parts) → IsOwnOfParts old free parts (g.content disk) → LeavesOnly g disk d (RecoversPlanned old plans number form parts)) → RoseIf (Unit {0}) (g.faults disk) (g.faults d) → RunsOneRoot g free (Some (spelling new)) disk d
      → CarriesOut g disk d old free plans number form result
  replacing_failed (Ok made) is leaves rose run = absurd is
  replacing_failed (Err r) is leaves rose run = subst (λ (x : RewriteRefusal). CarriesOut g disk d old free plans number form (Err x)) (sym is) (record {
    crash = leaves;
    done = λ parts own. tt;
    whole = not_short (g.content disk);
    short = tt;
    settled = tt;
    root_is = tt;
    valid = tt;
    sizes = tt;
    cause = rose;
    rooted = tt;
    crash_root = (new, after, run);
    crash_beside = λ short. absurd short;
  })

-- At most one root comes while plans are carried out and the root is replaced.
pub planned_root : {D : Type 0} (g : Disk D) (old : Root) (slot : ℕ) (came : Option (List ℕ)) (disk d1 d2 : D) → slot < 2 → RunsBeside g (bounds_of old) disk d1 → RunsOneRoot g slot came d1 d2 → RunsOneRoot g slot came disk d2
planned_root g old slot came disk d1 d2 low run replaces =
    joined_one g slot came disk d1 d2 low (beside_one g old slot came disk d1 run) (beside_went old slot came (g.content disk) (g.content d1) run.told) replaces

-- No plan is written to the root file, so it has only the new root then.
pub planned_rooted : (old new : Root) (plans : List Plan) (free : ℕ) (body : List ℕ) (k m o : Option Content) → MayCarryAll old plans → BothTold (WritesPlans old new plans) k m → BothTold (HasNewRoot free body) m o → BothTold (HasNewRoot free body) k o
planned_rooted old new plans free body k m o may wrote rooted =
    told_then (WritesPlans old new plans) (HasNewRoot free body) (HasNewRoot free body) k m o
    (λ a b c is told one two. two ∙ ap (λ (f : File). Some (with_root free body (bytes_of f))) (one.others root_name (λ i plan here same. part_isnt_root new plan.kind plan.number (may.each i plan here).part (sym same))))
    wrote rooted

-- Plans were carried out, and the root is replaced.
module _ (old new : Root) (plans : List Plan) (number : ℕ) (form : Form) (valid : IsRoot old) (fits : RootFits old) (may : MayCarryAll old plans) (after : IsRootAfter old plans number form new) (new_valid : IsRoot new) (new_fits : RootFits new) (free : ℕ) {D : Type 0} (g : Disk D) (disk d1 d2 : D) (run : RunsBeside g (bounds_of old) disk d1) (wrote : BothTold (WritesPlans old new plans) (g.content disk) (g.content d1)) (parts : Parts) (own : IsOwnOfParts old free parts (g.content disk)) where
  abbrev next : Parts
  next = rewritten old plans parts

  -- What a crash leaves.
  pub planned_leaves : ((texts nexts : Texts) → ToReplace free old texts new nexts (g.content d1) → LeavesOnly g d1 d2 (StandsForEither old texts new nexts)) → LeavesOnly g disk d2 (RecoversPlanned old plans number form parts)
  planned_leaves replaces =
      let k = g.content disk in
      let m = g.content d1 in
      let reads = reads_told old new plans number form valid fits may after parts own.long free k m own.on wrote in
      let becomes = becomes_told old new plans number form valid fits may after parts own.long free k m own.on wrote in
      let long = fit_told old new plans number form valid fits may after parts own.long free k m own.on wrote in
      weaker g disk d2 _ (RecoversPlanned old plans number form parts)
      (changing_by free old new parts next g disk d1 own run (reading old new plans number form valid fits may after parts own.long m) reads becomes new_valid new_fits long d2 replaces)
      (λ image either. elim either [ inl stands ↦ inl stands | inr stands ↦ inr (new, after, stands) ])

  -- What the disk is then.
  pub planned_done : ((texts nexts : Texts) → ToReplace free old texts new nexts (g.content d1) → OnDisk new (1 - free) nexts (g.content d2)) → IsOwnOfParts new (1 - free) next (g.content d2)
  planned_done done =
      let k = g.content disk in
      let m = g.content d1 in
      let so_far = reading old new plans number form valid fits may after parts own.long m in
      let reads = reads_told old new plans number form valid fits may after parts own.long free k m own.on wrote in
      let becomes = becomes_told old new plans number form valid fits may after parts own.long free k m own.on wrote in
      let long = fit_told old new plans number form valid fits may after parts own.long free k m own.on wrote in
      changed free old new parts next g disk d1 own run so_far reads becomes new_valid new_fits long d2
      (done (texts_of old parts) (texts_of new next) (to_replace free old new parts next g disk d1 own run so_far reads becomes new_valid new_fits long))
