-- What a disk holds, what each call makes of it, and what a crash may leave.
use Rattle.std.specs.Prelude.{◌≡◌, ◌≢◌, ◌⊎◌, ◌↔◌, ℕ, ◌+◌, ◌-◌, ◌<◌, ◌≤◌, min, max, Bool, true, false, Option, Some, None, IsSome, List, [], ◌∷◌, ◌++◌, length, get_or, take, drop, slice_get}
use Rattle.std.specs.List.{Contains}
use Rattle.std.specs.List.Sorted.{IsStrictlySortedBy}
use Rattle.disk_model.specs.Name.{name_cmp}
use Rattle.disk_model.specs.declared.name.FileName.{FileName}

-- The bytes of a file, or none if it is missing.
abbrev pub File : Type 0
File = Option (List ℕ)

-- The file of each name.
abbrev pub Files : Type 0
Files = FileName → File

-- A file's bytes, empty if it is missing.
abbrev pub bytes_of : File → List ℕ
bytes_of None = []
bytes_of (Some bytes) = bytes

-- What a crash may leave of a file.
pub record Survival : Type 0 where
  -- The file may be there.
  pub there : Bool
  -- The file may be missing.
  pub gone : Bool
  -- The least length since the last sync.
  pub least : ℕ
  -- The greatest length since the last sync.
  pub greatest : ℕ
  -- The ranges written since the last sync, as offsets and lengths.
  pub written : List (ℕ × ℕ)
  -- The bytes at the last sync.
  pub bytes : List ℕ

-- No write touched this offset.
abbrev pub NoWriteTouches : List (ℕ × ℕ) → ℕ → Type 0
NoWriteTouches [] i = Unit {0}
NoWriteTouches (w ∷ ws) i = ((i < w.0) ⊎ (w.0 + w.1 ≤ i)) × NoWriteTouches ws i

-- A crash may leave the file with these bytes: the length is between the least and the greatest,
-- and below the least each byte that no write touched is that of the last sync.
pub record MayHold (s : Survival) (bytes : List ℕ) : Type 0 where
  pub there : s.there ≡ true
  pub no_shorter : s.least ≤ length bytes
  pub no_longer : length bytes ≤ s.greatest
  pub outside : (i : ℕ) → i < s.least → NoWriteTouches s.written i → get_or bytes i 0 ≡ get_or s.bytes i 0

-- A crash may leave this file.
abbrev pub MaySurvive : Survival → File → Type 0
MaySurvive s None = s.gone ≡ true
MaySurvive s (Some bytes) = MayHold s bytes

-- What a crash may leave of a file that is on the disk as it reads: this file and no other.
abbrev pub exact : File → Survival
exact None = record { there = false; gone = true; least = 0; greatest = 0; written = []; bytes = [] }
exact (Some bytes) = record {
  there = true;
  gone = false;
  least = length bytes;
  greatest = length bytes;
  written = [];
  bytes = bytes;
}

-- The least length before a write, which is 0 if the write creates the file.
abbrev pub least_made : File → Survival → ℕ
least_made None s = 0
least_made (Some bytes) s = s.least

-- What a crash may leave after a write of n bytes to a file that read so.
abbrev pub write_sure : ℕ → ℕ → File → Survival → Survival
write_sure at n seen s = record {
  there = true;
  gone = s.gone;
  least = least_made seen s;
  greatest = max s.greatest (at + n);
  written = (at, n) ∷ s.written;
  bytes = s.bytes;
}

-- What a crash may leave after a cut to n bytes.
abbrev pub cut_sure : ℕ → Survival → Survival
cut_sure n s = record {
  there = s.there;
  gone = s.gone;
  least = min s.least n;
  greatest = s.greatest;
  written = s.written;
  bytes = s.bytes;
}

-- What a crash may leave after a removal.
abbrev pub remove_sure : Survival → Survival
remove_sure s = record {
  there = s.there;
  gone = true;
  least = s.least;
  greatest = s.greatest;
  written = s.written;
  bytes = s.bytes;
}

-- The first allows no more files than the second, and the same calls keep it so.
pub record Within (s t : Survival) : Type 0 where
  pub there : s.there ≡ true → t.there ≡ true
  pub gone : s.gone ≡ true → t.gone ≡ true
  pub least : t.least ≤ s.least
  pub greatest : s.greatest ≤ t.greatest
  pub outside : (i : ℕ) → i < t.least → NoWriteTouches t.written i → NoWriteTouches s.written i
      × (get_or s.bytes i 0 ≡ get_or t.bytes i 0)

-- A file as it reads, and what a crash may leave of it.
pub record Kept : Type 0 where
  pub seen : File
  pub sure : Survival

-- What a disk holds, by the names of files.
abbrev pub Content : Type 0
Content = FileName → Kept

-- A crash now may leave these files. A disk that doesn't tell its content may leave any.
abbrev pub Image : Option Content → Files → Type 0
Image None image = Unit {0}
Image (Some k) image = (name : FileName) → MaySurvive (k name).sure (image name)

-- A property of a disk's content, if the disk tells it.
abbrev pub WhereTold : (Content → Type 0) → Option Content → Type 0
WhereTold P None = Unit {0}
WhereTold P (Some k) = P k

-- A relation of the content before and after a call, if the disk tells both. It tells both or
-- neither.
abbrev pub BothTold : (Content → Content → Type 0) → Option Content → Option Content → Type 0
BothTold P (Some old) (Some new) = P old new
BothTold P None None = Unit {0}
BothTold P (Some old) None = ⊥
BothTold P None (Some new) = ⊥

-- A call that changes at most this file.
pub record OneFile (name : FileName) (P : Kept → Kept → Type 0) (old new : Content) : Type 0 where
  pub here : P (old name) (new name)
  pub elsewhere : (other : FileName) → other ≢ name → new other ≡ old other

-- A call that changes no file.
abbrev pub Unchanged : Content → Content → Type 0
Unchanged old new = (name : FileName) → new name ≡ old name

-- These bytes written at an offset, over the old ones and past their end.
abbrev pub overlay : ℕ → List ℕ → List ℕ → List ℕ
overlay at bytes old = take at old ++ bytes ++ drop (at + length bytes) old

-- A write that returns `Ok`: reads give the bytes, and a crash may leave anything in their range.
pub record Wrote (at : ℕ) (bytes : List ℕ) (old new : Kept) : Type 0 where
  pub seen : new.seen ≡ Some (overlay at bytes (bytes_of old.seen))
  pub crash : Within new.sure (write_sure at (length bytes) old.seen old.sure)

-- A write that fails: reads too may give anything in its range.
pub record Tore (at n : ℕ) (old new : Kept) : Type 0 where
  pub seen : MaySurvive (write_sure at n old.seen (exact old.seen)) new.seen
  pub crash : Within new.sure (write_sure at n old.seen old.sure)

-- A file cut to n bytes.
abbrev pub cut_file : ℕ → File → File
cut_file n None = None
cut_file n (Some bytes) = Some (take n bytes)

-- A cut that returns `Ok`.
pub record CutTo (n : ℕ) (old new : Kept) : Type 0 where
  pub seen : new.seen ≡ cut_file n old.seen
  pub crash : Within new.sure (cut_sure n old.sure)

-- A cut that fails.
pub record TornCut (n : ℕ) (old new : Kept) : Type 0 where
  pub seen : MaySurvive (cut_sure n (exact old.seen)) new.seen
  pub crash : Within new.sure (cut_sure n old.sure)

-- A removal that returns `Ok`.
pub record Removed (old new : Kept) : Type 0 where
  pub seen : new.seen ≡ None
  pub crash : Within new.sure (remove_sure old.sure)

-- A removal that fails.
pub record TornRemoval (old new : Kept) : Type 0 where
  pub seen : MaySurvive (remove_sure (exact old.seen)) new.seen
  pub crash : Within new.sure (remove_sure old.sure)

-- A sync that returns `Ok`: files read as before, and a crash leaves what reads give.
pub record Synced (old new : Content) : Type 0 where
  pub seen : (name : FileName) → (new name).seen ≡ (old name).seen
  pub crash : (name : FileName) → Within (new name).sure (exact (old name).seen)

-- A sync that fails: reads may give what a crash might have left, and a crash leaves no more than
-- before.
pub record NotSynced (old new : Content) : Type 0 where
  pub seen : (name : FileName) → MaySurvive (old name).sure (new name).seen
  pub crash : (name : FileName) → Within (new name).sure (old name).sure

-- The n bytes of a file from an offset on are copied to the front of a buffer, as many as fit and
-- as there are.
pub record HasRead (name : FileName) (offset n : ℕ) (before after : List ℕ) (k : Content)
    : Type 0 where
  pub count : n ≡ min (length before) (length (bytes_of (k name).seen) - offset)
  pub bytes : after ≡ take n (drop offset (bytes_of (k name).seen)) ++ drop n before

-- The length of a file, 0 if it is missing.
abbrev pub IsLength : FileName → ℕ → Content → Type 0
IsLength name n k = n ≡ length (bytes_of (k name).seen)

-- A number up to the length of a file.
abbrev pub IsAtMostLength : FileName → ℕ → Content → Type 0
IsAtMostLength name n k = n ≤ length (bytes_of (k name).seen)

-- The name at an index among the names of the files that are there, in the order of names.
pub record IsNameAt (index : ℕ) (name : Option FileName) (k : Content) : Type 0 where
  pub names : List FileName
  pub in_order : IsStrictlySortedBy name_cmp names
  pub all : (other : FileName) → IsSome (k other).seen ↔ Contains names other
  pub at : name ≡ slice_get names index

-- Time advances over a call: a crash at some moment since t may have left what it might have left
-- before the call, or what it may leave now, and nothing that it might have left is lost.
pub record Elapses (before now : ℕ) (past since : ℕ → Files → Type 0) (content : Option Content)
    : Type 0 where
  pub later : before ≤ now
  pub nothing_else : (t : ℕ) (image : Files) → t ≤ before → since t image → past t image
      ⊎ Image content image
  pub keeps : (t : ℕ) (image : Files) → t ≤ before → past t image → since t image

-- The files as they read are one of the images.
abbrev pub ReadsFit : Option Content → Type 0
ReadsFit content = (k : Content) → content ≡ Some k → (name : FileName)
    → MaySurvive (k name).sure (k name).seen
