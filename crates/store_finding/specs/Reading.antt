-- Texts that are read from files.
use Rattle.std.specs.Prelude.{◌≡◌, ◌+◌, ◌≤◌, ℕ, List, length, take, drop}
use Rattle.disk_model.specs.Disk.{Content, bytes_of}
use Rattle.git_objects.specs.Objects.{blob_id_of}
use Rattle.root_slots.specs.declared.root.Root.{Root}
use Rattle.store_finding.specs.declared.entries.StoredEntry.{StoredEntry}
use Rattle.store_finding.specs.Files.{epoch_file_of}

-- A text is the bytes of a file from an offset on, if the file has so many.
abbrev pub StandsAt : List ℕ → ℕ → ℕ → List ℕ → Type 0
StandsAt file offset size text = offset + size ≤ length file → text ≡ take size (drop offset file)

-- The text of an entry is in its place in the file of its epoch: bytes with the entry's blob id, in
-- the form of the root's settings.
pub record HasText (root : Root) (s : StoredEntry) (k : Content) : Type 0 where
  pub long : s.seen.text_at + s.seen.size
      ≤ length (bytes_of (k (epoch_file_of root s.epoch)).seen)
  pub blob : blob_id_of root.config.form (take s.seen.size (drop s.seen.text_at
      (bytes_of (k (epoch_file_of root s.epoch)).seen))) ≡ s.seen.blob
