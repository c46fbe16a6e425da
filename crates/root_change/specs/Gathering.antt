-- Bytes that are gathered from several sources into one file.
use Rattle.std.specs.Prelude.{◌≡◌, ◌≢◌, ℕ, ◌+◌, ◌^◌, ◌<◌, ◌≤◌, Option, Some, List, length, slice_get}
use Rattle.std.specs.List.{flat_map, sum_by}
use Rattle.disk_model.specs.declared.name.FileName.{FileName}
use Rattle.disk_model.specs.Disk.{Content}
use Rattle.root_change.specs.declared.sources.Source.{Source}
use Rattle.root_change.specs.declared.sources.Source.TheVariants.{Bytes, Range}
use Rattle.root_change.specs.Copying.{range_of, file_range, HasRange, Put}

-- The number of bytes of a source.
abbrev pub source_count : Source → ℕ
source_count (Bytes offset count) = count
source_count (Range range) = range.count

-- The bytes of a source: a range of the bytes that are passed beside it, or of a file.
abbrev pub source_bytes : List ℕ → Content → Source → List ℕ
source_bytes bytes k (Bytes offset count) = range_of bytes offset count
source_bytes bytes k (Range range) = file_range k range.file range.offset range.count

-- The bytes of several sources, one after the other.
abbrev pub gathered : List ℕ → Content → List Source → List ℕ
gathered bytes k sources = flat_map (source_bytes bytes k) sources

-- A source for a file: bytes, or a range of another file that ends below 2^64.
abbrev pub IsSourceFor : FileName → Source → Type 0
IsSourceFor to (Bytes offset count) = Unit {0}
IsSourceFor to (Range range) = (range.file ≢ to) × (range.offset + range.count < 2 ^ 64)

-- Each of them is one.
abbrev pub AreSources : FileName → List Source → Type 0
AreSources to sources = (i : ℕ) (source : Source) → slice_get sources i ≡ Some source
    → IsSourceFor to source

-- A source is whole.
abbrev pub HasSource : List ℕ → Option Content → Source → Type 0
HasSource bytes content (Bytes offset count) = offset + count ≤ length bytes
HasSource bytes content (Range range) = HasRange range.file range.offset range.count content

-- Each source is whole.
abbrev pub HasSources : List ℕ → Option Content → List Source → Type 0
HasSources bytes content sources = (i : ℕ) (source : Source) → slice_get sources i ≡ Some source
    → HasSource bytes content source

-- The bytes of a source were added to a file.
abbrev pub PutSource : List ℕ → Source → FileName → ℕ → Content → Content → Type 0
PutSource bytes source to end_ old new =
    Put (source_bytes bytes old source) (source_count source) to end_ old new

-- The bytes of several sources were added to a file, one after the other.
abbrev pub PutSources : List ℕ → List Source → FileName → ℕ → Content → Content → Type 0
PutSources bytes sources to end_ old new =
    Put (gathered bytes old sources) (sum_by source_count sources) to end_ old new
