-- An archive in memory never fails, whatever the count of faults of its owner.
use Rattle.std.proofs.Common.{ℕ, Result, Ok, Err, refl, arith}
use Rattle.arch_model.specs.Shelves.{ReadCause}
use Rattle.arch_model.specs.Keeping.{Ending, Accepts, Refuses, Starves, Fails, Breaks, CauseBy, OpeningCause}
use Rattle.arch_model.specs.declared.opening.OpenRefusal.{OpenRefusal}
use Rattle.arch_model.specs.declared.opening.OpenRefusal.TheVariants as opening
use Rattle.arch_model.specs.declared.text_refusal.TextRefusal.{TextRefusal}
use Rattle.arch_model.specs.declared.text_refusal.TextRefusal.TheVariants as refusal

pub never-read : {T : Type 0} (faults : ℕ) (r : Result T TextRefusal) → ReadCause 0 0 r → ReadCause faults faults r
never-read faults (Ok x) cause = refl
never-read faults (Err refusal.DiskFault) rose = absurd (omega (arith, rose))
never-read faults (Err (refusal.Damaged named found)) cause = (cause.0, refl)
never-read faults (Err refusal.NoMemory) cause = refl

pub never-caused : (faults : ℕ) (e : Ending) → CauseBy 0 0 e → CauseBy faults faults e
never-caused faults Accepts cause = refl
never-caused faults Refuses cause = refl
never-caused faults Starves cause = refl
never-caused faults Fails rose = absurd (omega (arith, rose))
never-caused faults Breaks cause = refl

pub never-opened : {T : Type 0} (faults : ℕ) (r : Result T OpenRefusal) → OpeningCause 0 0 r → OpeningCause faults faults r
never-opened faults (Ok x) cause = refl
never-opened faults (Err opening.DiskFault) rose = absurd (omega (arith, rose))
never-opened faults (Err opening.NoMemory) cause = refl
never-opened faults (Err opening.NoArchive) cause = refl
never-opened faults (Err (opening.Damaged file at)) cause = refl
