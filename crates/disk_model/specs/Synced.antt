-- What a write and a sync of one range of a file leave.
use Rattle.std.specs.Prelude.{◌≡◌, ◌≢◌, ◌+◌, ◌<◌, ◌≤◌, ℕ, Option, Some, None, List, length, refl}
use Rattle.std.proofs.Common.{subst, arith}
use Rattle.disk_model.specs.declared.name.FileName.{FileName}
use Rattle.disk_model.specs.Disk.{File, Files, Kept, Content, Image, BothTold, OneFile, MaySurvive, Within, exact, write_sure, bytes_of, overlay, Wrote, Tore, ReadsFit}
use Rattle.disk_model.specs.Laws.{Origin, MaySurvive-Within, MaySurvive-exact, write_wider, write_origin}

-- During the write and the sync a crash leaves this file as a crash in the write may, and each
-- other file as before.
pub record IsWriting (name : FileName) (at n : ℕ) (k : Content) (image : Files) : Type 0 where
  pub here : MaySurvive (write_sure at n (k name).seen (k name).sure) (image name)
  pub elsewhere : (other : FileName) → other ≢ name → MaySurvive (k other).sure (image other)

-- The same, if the disk tells its content.
abbrev pub WritingLeaves : FileName → ℕ → ℕ → Option Content → Files → Type 0
WritingLeaves name at n None image = Unit {0}
WritingLeaves name at n (Some k) image = IsWriting name at n k image

-- What reads give is on the disk, and a crash leaves nothing else.
abbrev pub IsSettled : Content → Type 0
IsSettled k = (name : FileName) → Within (k name).sure (exact (k name).seen)

-- After the write and the sync this file has the bytes, every other file reads as before, and all
-- of it is on the disk.
pub record IsWritten (name : FileName) (at : ℕ) (bytes : List ℕ) (old new : Content) : Type 0 where
  pub here : (new name).seen ≡ Some (overlay at bytes (bytes_of (old name).seen))
  pub elsewhere : (other : FileName) → other ≢ name → (new other).seen ≡ (old other).seen
  pub settled : IsSettled new

-- An image from before the write is one during the write.
pub writing_at_start : (name : FileName) (at n : ℕ) (content : Option Content) (image : Files)
    → Image content image → WritingLeaves name at n content image
writing_at_start name at n None image left = tt
writing_at_start name at n (Some k) image left = record {
  here = MaySurvive-Within (k name).sure (write_sure at n (k name).seen (k name).sure) (image name)
      (write_wider at n (k name).seen (k name).sure) (left name);
  elsewhere = λ other apart. left other;
}

-- An image after a write that returns `Ok` is one during the write.
pub writing_wrote : (name : FileName) (at : ℕ) (bytes : List ℕ) (old new : Option Content)
    (image : Files) → BothTold (OneFile name (Wrote at bytes)) old new → Image new image
    → WritingLeaves name at (length bytes) old image
writing_wrote name at bytes None None image told left = tt
writing_wrote name at bytes None (Some m) image told left = absurd told
writing_wrote name at bytes (Some k) None image told left = absurd told
writing_wrote name at bytes (Some k) (Some m) image told left = record {
  here = MaySurvive-Within (m name).sure (write_sure at (length bytes) (k name).seen (k name).sure)
      (image name) told.here.crash (left name);
  elsewhere = λ other apart. let P : Kept → Type 0 = λ kept. MaySurvive kept.sure (image other) in
      subst P (told.elsewhere other apart) (left other);
}

-- An image after a write that fails is one during the write.
pub writing_tore : (name : FileName) (at n : ℕ) (old new : Option Content) (image : Files)
    → BothTold (OneFile name (Tore at n)) old new → Image new image → WritingLeaves name at n old image
writing_tore name at n None None image told left = tt
writing_tore name at n None (Some m) image told left = absurd told
writing_tore name at n (Some k) None image told left = absurd told
writing_tore name at n (Some k) (Some m) image told left = record {
  here = MaySurvive-Within (m name).sure (write_sure at n (k name).seen (k name).sure) (image name)
      told.here.crash (left name);
  elsewhere = λ other apart. let P : Kept → Type 0 = λ kept. MaySurvive kept.sure (image other) in
      subst P (told.elsewhere other apart) (left other);
}

-- A write inside a file leaves a file from before it, with other bytes in the range.
pub writing_inside : (name : FileName) (at n : ℕ) (k : Content) (image : Files) → ReadsFit (Some k)
    → at + n ≤ length (bytes_of (k name).seen) → 0 < n → IsWriting name at n k image
    → Origin at n (k name).sure (image name)
writing_inside name at n k image fit inside some w =
    of_seen (k name).seen (fit k refl name) inside w.here where
      of_seen : (seen : File) → MaySurvive (k name).sure seen → at + n ≤ length (bytes_of seen)
          → MaySurvive (write_sure at n seen (k name).sure) (image name)
          → Origin at n (k name).sure (image name)
      of_seen None fits within here = absurd (omega (arith, within, some))
      of_seen (Some seen) fits within here =
          write_origin at n (k name).sure seen (image name) fits within here

-- A crash leaves settled files as they read.
pub settled_image : (k : Content) (image : Files) → IsSettled k → Image (Some k) image
    → (name : FileName) → image name ≡ (k name).seen
settled_image k image settled left name = MaySurvive-exact (k name).seen (image name)
    (MaySurvive-Within (k name).sure (exact (k name).seen) (image name) (settled name) (left name))
