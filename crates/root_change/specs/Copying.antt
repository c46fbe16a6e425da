-- What is added to a file by writes and by copies of ranges of other files.
use Rattle.std.specs.Prelude.{◌≡◌, ◌≢◌, ℕ, ◌+◌, ◌≤◌, Option, Some, None, List, [], ◌++◌, length, take, drop}
use Rattle.disk_model.specs.declared.name.FileName.{FileName}
use Rattle.disk_model.specs.Disk.{Content, bytes_of}

-- So many bytes from an offset on, or as many as there are.
abbrev pub range_of : List ℕ → ℕ → ℕ → List ℕ
range_of bytes offset count = take count (drop offset bytes)

-- The same of a file, as reads give it.
abbrev pub file_range : Content → FileName → ℕ → ℕ → List ℕ
file_range k file offset count = range_of (bytes_of (k file).seen) offset count

-- A disk tells that a range is whole in its file.
abbrev pub HasRange : FileName → ℕ → ℕ → Option Content → Type 0
HasRange file offset count None = ⊥
HasRange file offset count (Some k) = offset + count ≤ length (bytes_of (k file).seen)

-- Files other than this one read as before.
abbrev pub OtherFilesStay : FileName → Content → Content → Type 0
OtherFilesStay to k m = (name : FileName) → name ≢ to → (m name).seen ≡ (k name).seen

-- A file that ended at an offset has these bytes after it, and one that went on has at least as
-- many. Without bytes it is as it was. No other file reads otherwise.
pub record Added (bytes : List ℕ) (to : FileName) (end_ : ℕ) (old new : Content) : Type 0 where
  pub there : length (bytes_of (old to).seen) ≡ end_
      → bytes_of (new to).seen ≡ bytes_of (old to).seen ++ bytes
  pub reaches : end_ + length bytes ≤ length (bytes_of (new to).seen)
  pub alone : bytes ≡ [] → (new to).seen ≡ (old to).seen
  pub others : (name : FileName) → name ≢ to → (new name).seen ≡ (old name).seen

-- So many bytes were added to a file.
pub record Put (bytes : List ℕ) (count : ℕ) (to : FileName) (end_ : ℕ) (old new : Content)
    : Type 0 where
  pub added : Added bytes to end_ old new
  pub full : length bytes ≡ count

-- The bytes of a whole range of a file were added to another one.
abbrev pub Copied : FileName → ℕ → ℕ → FileName → ℕ → Content → Content → Type 0
Copied file offset count to end_ old new =
    Put (file_range old file offset count) count to end_ old new
