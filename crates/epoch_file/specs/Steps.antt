-- Private: the steps of a walk.
use Rattle.std.specs.Prelude.{◌≡◌, ◌≢◌, ℕ, ◌+◌, ◌<◌, ◌≤◌, min, Bool, true, false, List, [], ◌∷◌, ◌++◌, length, take, drop, Option, Some, None, Result, Ok, Err}
use Rattle.arch_base.specs.declared.ids.Form.{Form}
use Rattle.arch_base.specs.declared.ids.ObjectId.{ObjectId}
use Rattle.arch_base.specs.declared.sequence.NoMemory.{NoMemory as NoRoom}
use Rattle.git_objects.specs.Commits.{IsParent}
use Rattle.disk_model.specs.declared.refusal.WalkRefusal.{WalkRefusal}
use Rattle.disk_model.specs.declared.name.FileName.{FileName}
use Rattle.disk_model.specs.Disk.{Content, bytes_of}
use Rattle.mail_commits.specs.Entries.{magic}
use Rattle.epoch_file.specs.declared.entry.Seen.{Seen}
use Rattle.epoch_file.specs.declared.window.Part.{Part}
use Rattle.epoch_file.specs.declared.state.State.{State}
use Rattle.epoch_file.specs.Entries.{EpochEntry, IsEpochEntry, AreEpochEntries, bytes_after, chain, last_of, epoch_of}
use Rattle.epoch_file.specs.Forms.{HaveIdsOf}
use Rattle.epoch_file.specs.Lying.{LieIn}
use Rattle.epoch_file.specs.Reading.{IsEntryRead}
use Rattle.epoch_file.specs.Walking.{seen_from, LacksEntry, LacksMagic, WalksEpoch}
use Rattle.epoch_file.specs.Windows.{Shows, IsInsidePart}

-- The bytes of a part that are left after its offset.
abbrev pub left_of : List ℕ → Part → List ℕ
left_of bytes part = drop part.offset (take part.end bytes)

-- The window has all of the entry of a form at the part's offset if there is one; or there is none,
-- after any parent.
abbrev pub Brings : Form → Part → List ℕ → List ℕ → Result Bool WalkRefusal → Content → Type 0
Brings form part old new (Ok true) k =
    Shows (bytes_of (k part.file).seen) part old
    → Shows (bytes_of (k part.file).seen) part new
    × ((parent : Option ObjectId) (e : EpochEntry) (rest : List ℕ) → IsEpochEntry e
    → left_of (bytes_of (k part.file).seen) part ≡ bytes_after form parent e ++ rest
    → length (bytes_after form parent e) ≤ length new)
Brings form part old new (Ok false) k = Shows (bytes_of (k part.file).seen) part old
    → (parent : Option ObjectId) → LacksEntry form parent (left_of (bytes_of (k part.file).seen) part)
Brings form part old new (Err e) k = Unit {0}

-- A window that showed a part of a file still shows it.
abbrev pub KeepsShown : Part → List ℕ → List ℕ → Content → Type 0
KeepsShown part old new k = Shows (bytes_of (k part.file).seen) part old
    → Shows (bytes_of (k part.file).seen) part new

-- So far a walk has found entries from the front of a file on.
pub record Walked (bytes : List ℕ) (s : State) : Type 0 where
  pub entries : List EpochEntry
  pub valid : AreEpochEntries entries
  pub spelled : take s.part.end bytes ≡ epoch_of s.form entries ++ left_of bytes s.part
  pub offset : s.part.offset ≡ 8 + length (chain s.form None entries)
  pub parent : s.parent ≡ last_of s.form None entries
  pub seen : s.seen ≡ seen_from s.form 8 None entries
  pub shows : Shows bytes s.part s.window

-- The state of a walk after an entry that was found, with its length.
abbrev pub next_state : State → Seen × ℕ → State
next_state s found = record {
  part = record { file = s.part.file; offset = s.part.offset + found.1; end = s.part.end };
  window = drop found.1 s.window;
  parent = Some found.0.commit;
  seen = s.seen ++ found.0 ∷ [];
  form = s.form;
}

-- The entry at the front of the window is taken, or there is none.
abbrev pub TakesEntry : State → State → Result Bool NoRoom → Type 0
TakesEntry old new (Ok true) = (found : Seen × ℕ)
    × IsEntryRead old.form old.part.offset old.parent old.window found
    × (new ≡ next_state old found)
TakesEntry old new (Ok false) =
    (IsParent old.form old.parent → LacksEntry old.form old.parent old.window) × (new ≡ old)
TakesEntry old new (Err e) = Unit {0}

-- A turn of a walk finds one more entry, or that there is none.
abbrev pub WalkTurns : State → State → Result Bool WalkRefusal → Content → Type 0
WalkTurns old new (Ok true) k = Walked (bytes_of (k old.part.file).seen) old
    → Walked (bytes_of (k old.part.file).seen) new
WalkTurns old new (Ok false) k = Walked (bytes_of (k old.part.file).seen) old
    → LacksEntry old.form old.parent (left_of (bytes_of (k old.part.file).seen) old.part)
WalkTurns old new (Err e) k = Unit {0}

-- The part that is walked keeps its file and its end.
pub record SamePart (old new : Part) : Type 0 where
  pub file : new.file ≡ old.file
  pub end : new.end ≡ old.end

-- A turn advances in the part if it finds an entry, which lies up to the new offset and has ids of
-- the form, and otherwise stays.
abbrev pub WalkMoves : State → State → Result Bool WalkRefusal → Type 0
WalkMoves old new (Ok true) = (old.part.offset < new.part.offset) × IsInsidePart new.part new.window
    × (LieIn 0 old.part.offset old.seen → LieIn 0 new.part.offset new.seen)
    × (HaveIdsOf old.form old.seen → HaveIdsOf new.form new.seen)
WalkMoves old new (Ok false) = new.part.offset ≡ old.part.offset
WalkMoves old new (Err e) = Unit {0}

-- A walk over the first n bytes of a file starts after the magic of a form, or finds that it isn't
-- there.
abbrev pub BeginsWalk : Form → ℕ → List ℕ → Result (Option State) WalkRefusal → Type 0
BeginsWalk form n bytes (Ok None) = LacksMagic form n bytes
BeginsWalk form n bytes (Ok (Some s)) = Walked bytes s × (s.part.end ≡ min n (length bytes))
BeginsWalk form n bytes (Err e) = Unit {0}

-- The same for n bytes that the file has.
abbrev pub BeginsAt : Form → ℕ → List ℕ → Result (Option State) WalkRefusal → Type 0
BeginsAt form n bytes (Ok None) = n ≤ length bytes → LacksMagic form n bytes
BeginsAt form n bytes (Ok (Some s)) = n ≤ length bytes → Walked bytes s × (s.part.end ≡ n)
BeginsAt form n bytes (Err e) = Unit {0}

-- A window starts with the magic of a form, or it doesn't.
abbrev pub HasMagic : Form → List ℕ → Bool → Type 0
HasMagic form window true = (rest : List ℕ) × (window ≡ magic form ++ rest)
HasMagic form window false = (rest : List ℕ) → window ≢ magic form ++ rest

-- A walk starts after the magic of a form at the front of a window, or the magic isn't there.
abbrev pub BeginsAfterMagic : Form → Part → List ℕ → Option State → Type 0
BeginsAfterMagic form part window None = (rest : List ℕ) → window ≢ magic form ++ rest
BeginsAfterMagic form part window (Some s) =
    (rest : List ℕ) × (window ≡ magic form ++ rest) × (s ≡ record {
      part = record {
        file = part.file;
        offset = 8;
        end = part.end;
      };
      window = rest;
      parent = None;
      seen = [];
      form = form;
    })

-- A walk in a form starts in a part of this file, with at most n bytes, and has found no entry yet.
abbrev pub BeginsIn : Form → FileName → ℕ → Result (Option State) WalkRefusal → Type 0
BeginsIn form file n (Ok None) = Unit {0}
BeginsIn form file n (Ok (Some s)) = (s.part.file ≡ file) × (s.part.end ≤ n)
    × IsInsidePart s.part s.window × (s.seen ≡ []) × (s.form ≡ form)
BeginsIn form file n (Err e) = Unit {0}

-- Another entry is needed; or none is, since all n bytes are walked and there is an entry.
abbrev pub WantsEntry : State → ℕ → Bool → Type 0
WantsEntry s n true = s.part.offset ≡ n → length s.seen ≡ 0
WantsEntry s n false = (s.part.offset ≡ n) × (0 < length s.seen)

-- A walk that led from one state to another.
abbrev pub KeepsWalked : State → State → Content → Type 0
KeepsWalked old new k = Walked (bytes_of (k old.part.file).seen) old
    → Walked (bytes_of (k old.part.file).seen) new

-- The result of a walk over the first n bytes, continued from a state.
abbrev pub WalkGoesOn : ℕ → List ℕ → State → Result (List Seen) WalkRefusal → Type 0
WalkGoesOn n bytes s result = Walked bytes s → s.part.end ≡ min n (length bytes)
    → WalksEpoch s.form n bytes result
