-- Files other than the one that is written read as before, and stay before its end.
use Rattle.std.specs.Prelude.{ℕ, List, length, Option, Some, None, Result, Ok, Err, OnOk, OnErr, refl}
use Rattle.std.proofs.Common.{◌∙◌, ap}
use Rattle.disk_model.specs.declared.disk.Disk.{Ghosts as Disk}
use Rattle.disk_model.specs.declared.name.FileName.{FileName}
use Rattle.disk_model.specs.Disk.{Kept, Content, Image, BothTold, OneFile, Unchanged, Wrote, Tore}
use Rattle.disk_model.specs.Beside.{Bounds, Beside, RunsBeside}
use Rattle.disk_model.specs.BesideLaws.{beside_now, unchanged_told}
use Rattle.disk_model.specs.Moments.{LeavesOnly, weaker}
use Rattle.disk_model.specs.Tells.{told_weaker, told_then}
use Rattle.root_change.specs.Copying.{OtherFilesStay}

-- No call was made.
pub others_first : (to : FileName) (k : Option Content) → BothTold (OtherFilesStay to) k k
others_first to None = tt
others_first to (Some k) = λ name apart. refl

-- A call that changes nothing.
pub others_unchanged : (to : FileName) (k m : Option Content) → BothTold Unchanged k m → BothTold (OtherFilesStay to) k m
others_unchanged to k m same = told_weaker Unchanged (OtherFilesStay to) k m (λ a b is told kept name apart. ap (λ (it : Kept). it.seen) (kept name)) same

-- A write, whatever it returns.
pub others_wrote : {T E : Type 0} (result : Result T E) (to : FileName) (at : ℕ) (bytes : List ℕ) (k m : Option Content) → OnOk result (BothTold (OneFile to (Wrote at bytes)) k m) → OnErr result (BothTold (OneFile to (Tore at (length bytes))) k m) → BothTold (OtherFilesStay to) k m
others_wrote (Ok v) to at bytes k m ok err = told_weaker (OneFile to (Wrote at bytes)) (OtherFilesStay to) k m (λ a b is told one name apart. ap (λ (it : Kept). it.seen) (one.elsewhere name apart)) ok
others_wrote (Err e) to at bytes k m ok err = told_weaker (OneFile to (Tore at (length bytes))) (OtherFilesStay to) k m (λ a b is told one name apart. ap (λ (it : Kept). it.seen) (one.elsewhere name apart)) err

-- Two calls, one after the other.
pub others_then : (to : FileName) (k m o : Option Content) → BothTold (OtherFilesStay to) k m → BothTold (OtherFilesStay to) m o → BothTold (OtherFilesStay to) k o
others_then to k m o first second =
    told_then (OtherFilesStay to) (OtherFilesStay to) (OtherFilesStay to) k m o (λ a b d is told one two name apart. two name apart ∙ one name apart) first second

unchanged_first : (k : Option Content) → BothTold Unchanged k k
unchanged_first None = tt
unchanged_first (Some k) = λ name. refl

-- A run that changes nothing stays up to any bounds.
pub run_looked : {D : Type 0} (g : Disk D) (bounds : Bounds) (old new : D) → LeavesOnly g old new (Image (g.content old)) → BothTold Unchanged (g.content old) (g.content new) → RunsBeside g bounds old new
run_looked g bounds old new moments same = record {
  moments = weaker g old new (Image (g.content old)) (Beside bounds (g.content old)) moments (λ image left. beside_now bounds (g.content old) (g.content old) image (unchanged_told bounds (g.content old) (g.content old) (unchanged_first (g.content old))) left);
  told = unchanged_told bounds (g.content old) (g.content new) same;
}
