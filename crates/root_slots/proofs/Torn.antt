-- What a crash leaves of the root file, traced back to one that a crash before the writes might have left.
use Rattle.std.specs.Prelude.{◌≡◌, ◌+◌, ◌<◌, ◌≤◌, ℕ, Option, Some, None, List, length, refl}
use Rattle.std.proofs.Common.{◌∙◌, ap, subst, arith}
use Rattle.disk_model.specs.Disk.{File, Files, Content, BothTold, WhereTold, ReadsFit, bytes_of, overlay}
use Rattle.disk_model.specs.Laws.{SameOutside, TornFile, overlay-size}
use Rattle.disk_model.specs.Synced.{WritingLeaves, IsWritten, writing_inside}
use Rattle.disk_model.specs.Tells.{told_where}
use Rattle.root_slots.specs.RootName.{root_name}
use Rattle.root_slots.specs.Each.{elsewhere_before, settled_file}
use Rattle.root_slots.specs.Slots.{HasRootSize, AreBoth, ComesBy}

-- A relation of the root file before and after, where the disk tells its content.
abbrev pub Comes : (List ℕ → List ℕ → Type 0) → Option Content → Files → Type 0
Comes P k image = WhereTold (λ (m : Content). ComesBy P m image) k

-- During a write.
pub comes_writing : (P : List ℕ → List ℕ → Type 0) (at n : ℕ) (k : Option Content) (image : Files) → ReadsFit k → WhereTold HasRootSize k → at + n ≤ 4096 → 0 < n → ((a b : List ℕ) → SameOutside at n a b → P a b) → WritingLeaves root_name at n k image → Comes P k image
comes_writing P at n None image fit size inside some step writing = tt
comes_writing P at n (Some k) image fit size inside some step writing =
    let origin = writing_inside root_name at n k image fit (omega (arith, size, inside)) some writing in
    record { file = origin.file; fits = origin.fits; by = both origin.file (image root_name) origin.torn; elsewhere = writing.elsewhere } where
      both : (file after : File) → TornFile at n file after → AreBoth P file after
      both None None torn = tt
      both None (Some b) torn = absurd torn
      both (Some a) None torn = absurd torn
      both (Some a) (Some b) torn = step a b torn

-- After a write that is synced.
pub comes_written : (P Q : List ℕ → List ℕ → Type 0) (at : ℕ) (bytes : List ℕ) (k m : Option Content) (image : Files) → ReadsFit k → WhereTold HasRootSize k → ((a b : List ℕ) → length a ≡ 4096 → P (overlay at bytes a) b → Q a b)
    → BothTold (IsWritten root_name at bytes) k m → Comes P m image → Comes Q k image
comes_written P Q at bytes None m image fit size step written comes = tt
comes_written P Q at bytes (Some k) None image fit size step written comes = absurd written
comes_written P Q at bytes (Some k) (Some m) image fit size step written comes = record {
  file = (k root_name).seen;
  fits = fit k refl root_name;
  by = both (k root_name).seen (image root_name) size (subst (λ (f : File). AreBoth P f (image root_name)) (settled_file m root_name comes.file written.settled comes.fits ∙ written.here) comes.by);
  elsewhere = λ other apart. elsewhere_before k m image fit written.settled written.elsewhere other apart (comes.elsewhere other apart);
} where
  both : (file after : File) → length (bytes_of file) ≡ 4096 → AreBoth P (Some (overlay at bytes (bytes_of file))) after → AreBoth Q file after
  both None after size by = absurd (omega (arith, size))
  both (Some a) None size by = absurd by
  both (Some a) (Some b) size by = step a b size by

-- The size of the root file stays.
pub size_stays : (at : ℕ) (bytes : List ℕ) (k m : Option Content) → at + length bytes ≤ 4096 → BothTold (IsWritten root_name at bytes) k m → WhereTold HasRootSize k → WhereTold HasRootSize m
size_stays at bytes k m inside =
    told_where (IsWritten root_name at bytes) HasRootSize HasRootSize k m
    (λ a b is told written size. ap (λ (f : File). length (bytes_of f)) written.here ∙ (overlay-size at bytes (bytes_of (a root_name).seen) (omega (arith, size, inside)) ∙ size))
