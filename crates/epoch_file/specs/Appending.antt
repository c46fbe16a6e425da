-- What appending an entry writes, and what it leaves of the disk.
use Rattle.std.specs.Prelude.{◌≡◌, ℕ, ◌+◌, ◌==◌, List, [], ◌++◌, length, Option, Result, Ok, Err, if◌then◌else◌}
use Rattle.arch_base.specs.declared.ids.Form.{Form}
use Rattle.disk_model.specs.declared.name.FileName.{FileName}
use Rattle.disk_model.specs.Disk.{Content, BothTold, OneFile, Wrote, Tore}
use Rattle.git_objects.specs.Objects.{blob_id_of}
use Rattle.mail_commits.specs.Entries.{magic}
use Rattle.epoch_file.specs.declared.entry.NewEntry.{NewEntry}
use Rattle.epoch_file.specs.declared.entry.Written.{Written}
use Rattle.epoch_file.specs.declared.refusal.StoreRefusal.{StoreRefusal}
use Rattle.epoch_file.specs.declared.refusal.StoreRefusal.TheVariants.{DiskFault, NoMemory, Damaged}
use Rattle.epoch_file.specs.Entries.{EpochEntry, bytes_after, commit_after}

-- The new entry.
abbrev pub entry_of : NewEntry → EpochEntry
entry_of new = record { kind = new.kind; text = new.text.now; moment = new.moment }

-- The bytes before an entry at an offset: the magic at offset 0, and otherwise none.
abbrev pub front_at : Form → ℕ → List ℕ
front_at form offset = if offset == 0 then magic form else []

-- The bytes that are written for a new entry at an offset.
abbrev pub appended : ℕ → NewEntry → List ℕ
appended offset new = front_at new.form offset ++ bytes_after new.form new.parent (entry_of new)

-- The result of an append: the offset after the last byte, and the ids of the entry's blob and
-- commit.
abbrev pub written_of : ℕ → NewEntry → Written
written_of offset new = record {
  end = offset + length (appended offset new);
  blob = blob_id_of new.form new.text.now;
  commit = commit_after new.form new.parent (entry_of new);
}

-- What an append leaves of the disk: the bytes are written, or the write failed, or nothing was
-- done.
abbrev pub AppendLeaves : {D : Type 0} → FileName → ℕ → List ℕ → (D → Option Content) → D → D
    → Result Written StoreRefusal → Type 0
AppendLeaves file offset piece content old new (Ok written) =
    BothTold (OneFile file (Wrote offset piece)) (content old) (content new)
AppendLeaves file offset piece content old new (Err DiskFault) =
    BothTold (OneFile file (Tore offset (length piece))) (content old) (content new)
AppendLeaves file offset piece content old new (Err NoMemory) = new ≡ old
AppendLeaves file offset piece content old new (Err (Damaged name at)) = ⊥
