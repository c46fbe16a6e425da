-- The root file, its two slots, and which of them has the current root.
use Rattle.std.specs.Prelude.{◌≡◌, ◌≢◌, ◌⊎◌, Bool, true, false, ℕ, ◌+◌, ◌-◌, ◌*◌, ◌<◌, Option, Some, None, Result, Ok, Err, List, [], ◌∷◌, length, get_or, take, drop, replicate, refl}
use Rattle.std.specs.Int.{from_be_bytes, w64}
use Rattle.std.proofs.Common.{arith}
use Rattle.disk_model.specs.declared.name.FileName.{FileName}
use Rattle.disk_model.specs.Disk.{File, Files, Content, MaySurvive, WhereTold, bytes_of, overlay}
use Rattle.disk_model.specs.Laws.{SameOutside}
use Rattle.disk_model.specs.Synced.{IsSettled}
use Rattle.root_slots.specs.declared.root.Root.{Root}
use Rattle.root_slots.specs.declared.slot.Slot.{Slot}
use Rattle.root_slots.specs.declared.slot.Slot.TheVariants.{First, Second}
use Rattle.root_slots.specs.declared.refusal.RootRefusal.{RootRefusal}
use Rattle.root_slots.specs.declared.refusal.RootRefusal.TheVariants.{DiskFault, Damaged}
use Rattle.root_slots.specs.RootName.{root_name}
use Rattle.root_slots.specs.Each.{IfThere}
use Rattle.root_slots.specs.Spelling.{body_size, spelling}
use Rattle.root_slots.specs.Valid.{RootFits, IsRoot}

-- The number of a slot, which is the offset of its gate, too.
abbrev pub slot_number : Slot → ℕ
slot_number First = 0
slot_number Second = 1

-- A slot is 0 or 1.
pub slot_below : (slot : Slot) → slot_number slot < 2
slot_below First = omega arith
slot_below Second = omega arith

-- Slots of equal numbers are equal.
pub slot_is : (s t : Slot) → slot_number s ≡ slot_number t → s ≡ t
slot_is First First is = refl
slot_is First Second is = absurd (omega (arith, is))
slot_is Second First is = absurd (omega (arith, is))
slot_is Second Second is = refl

-- The length of the root file.
abbrev pub root_size : ℕ
root_size = 4096

-- The root file has its size.
abbrev pub HasRootSize : Content → Type 0
HasRootSize k = length (bytes_of (k root_name).seen) ≡ root_size

-- All other files are as a crash before might have left them.
abbrev pub Elsewhere : Content → Files → Type 0
Elsewhere k image = (other : FileName) → other ≢ root_name → MaySurvive (k other).sure (image other)

-- The same, if the disk tells its content.
abbrev pub OthersStayInImage : Option Content → Files → Type 0
OthersStayInImage None image = Unit {0}
OthersStayInImage (Some k) image = Elsewhere k image

-- The gate of a slot: 1 is open, any other byte is shut.
abbrev pub gate : List ℕ → ℕ → ℕ
gate file slot = get_or file slot 0

-- Whether the gate of a slot is open, as reads give the root file.
abbrev pub IsGateOpen : ℕ → Bool → Content → Type 0
IsGateOpen slot true k = gate (bytes_of (k root_name).seen) slot ≡ 1
IsGateOpen slot false k = gate (bytes_of (k root_name).seen) slot ≢ 1

-- The offset of the body of a slot.
abbrev pub body_offset : ℕ → ℕ
body_offset slot = 1024 + body_size * slot

-- The body of a slot.
unfoldable pub body_at : List ℕ → ℕ → List ℕ
body_at file slot = take body_size (drop (body_offset slot) file)

-- The sequence of a body, its first 8 bytes.
unfoldable pub sequence_of : List ℕ → ℕ
sequence_of body = from_be_bytes w64 (take 8 body)

-- Of two open slots the other one is older. Of equal sequences slot 0 counts as the newer.
abbrev pub Precedes : List ℕ → List ℕ → ℕ → Type 0
Precedes other body slot = (sequence_of other < sequence_of body)
    ⊎ ((sequence_of other ≡ sequence_of body) × (slot ≡ 0))

-- The current root of a file has this body and this slot: the open slot, and of two open ones the
-- newer.
pub record Current (slot : ℕ) (body file : List ℕ) : Type 0 where
  pub in_range : slot < 2
  pub size : length file ≡ root_size
  pub opened : gate file slot ≡ 1
  pub holds : body_at file slot ≡ body
  pub newest : gate file (1 - slot) ≡ 1 → Precedes (body_at file (1 - slot)) body slot

-- The current root has this body, in either slot.
abbrev pub HasRoot : List ℕ → List ℕ → Type 0
HasRoot body file = (slot : ℕ) × Current slot body file

-- A commit to this slot is safe: the other slot has the current root, and this slot is open, or has
-- the body of the current root, or a body of a lesser sequence.
pub record Ready (slot : ℕ) (old file : List ℕ) : Type 0 where
  pub current : Current (1 - slot) old file
  pub other : (gate file slot ≡ 1)
      ⊎ ((body_at file slot ≡ old) ⊎ (sequence_of (body_at file slot) < sequence_of old))

-- The old root or the new one, and all other files as a crash before might have left them.
pub record OldOrNew (old new : List ℕ) (k : Content) (image : Files) : Type 0 where
  pub root : IfThere (HasRoot old) (image root_name) ⊎ IfThere (HasRoot new) (image root_name)
  pub elsewhere : Elsewhere k image

-- The same, if the disk tells its content.
abbrev pub IsOldOrNew : List ℕ → List ℕ → Option Content → Files → Type 0
IsOldOrNew old new None image = Unit {0}
IsOldOrNew old new (Some k) image = OldOrNew old new k image

-- A root file with this body in a slot whose gate is open, and otherwise as it was.
abbrev pub with_root : ℕ → List ℕ → List ℕ → List ℕ
with_root slot body file = overlay slot (1 ∷ []) (overlay (body_offset slot) body file)

-- After a commit the root file reads so.
abbrev pub HasNewRoot : ℕ → List ℕ → Content → Content → Type 0
HasNewRoot slot body old new =
    (new root_name).seen ≡ Some (with_root slot body (bytes_of (old root_name).seen))

-- A root file whose slot is shut.
abbrev pub shut_in : ℕ → List ℕ → List ℕ
shut_in slot file = overlay slot (0 ∷ []) file

-- A root file during a commit to a slot: its gate is being shut, or then its body written, or then its
-- gate opened.
abbrev pub IsInCommit : ℕ → List ℕ → List ℕ → List ℕ → Type 0
IsInCommit slot body old file = SameOutside slot 1 old file
    ⊎ (((length old ≡ root_size) × SameOutside (body_offset slot) body_size (shut_in slot old) file)
    ⊎ ((length old ≡ root_size) × (length body ≡ body_size)
    × SameOutside slot 1 (overlay (body_offset slot) body (shut_in slot old)) file))

-- Two files are both missing, or both there and of this relation.
abbrev pub AreBoth : (List ℕ → List ℕ → Type 0) → File → File → Type 0
AreBoth P None None = Unit {0}
AreBoth P (Some old) (Some new) = P old new
AreBoth P None (Some new) = ⊥
AreBoth P (Some old) None = ⊥

-- The root file comes by this relation from one that a crash before might have left, and all other
-- files are as such a crash might have left them.
pub record ComesBy (P : List ℕ → List ℕ → Type 0) (k : Content) (image : Files) : Type 0 where
  pub file : File
  pub fits : MaySurvive (k root_name).sure file
  pub by : AreBoth P file (image root_name)
  pub elsewhere : Elsewhere k image

-- The root file has this body in the first slot, whose gate is open, and is otherwise zeros.
abbrev pub HasFirstRoot : List ℕ → Content → Type 0
HasFirstRoot body k = (k root_name).seen ≡ Some (with_root 0 body (replicate root_size 0))

-- After a commit what reads give is on the disk, and every other file reads as before.
pub record IsCommitted (old new : Content) : Type 0 where
  pub elsewhere : (other : FileName) → other ≢ root_name → (new other).seen ≡ (old other).seen
  pub settled : IsSettled new

-- No slot is open.
abbrev pub IsShut : List ℕ → Type 0
IsShut file = (length file ≢ root_size) ⊎ ((gate file 0 ≢ 1) × (gate file 1 ≢ 1))

-- The body of the current slot spells no root; the offset is that of the body.
pub record SpellsNoRoot (at : ℕ) (file : List ℕ) : Type 0 where
  pub slot : ℕ
  pub current : Current slot (body_at file slot) file
  pub offset : at ≡ body_offset slot
  pub none : (r : Root) → RootFits r → IsRoot r → body_at file slot ≢ spelling r

-- The results of reading a root file with these bytes.
abbrev pub ReadsRootFile : List ℕ → Result (Option (Slot × Root)) RootRefusal → Type 0
ReadsRootFile file (Ok None) = IsShut file
ReadsRootFile file (Ok (Some found)) = Current (slot_number found.0) (spelling found.1) file
    × IsRoot found.1
ReadsRootFile file (Err (Damaged at)) = SpellsNoRoot at file
ReadsRootFile file (Err DiskFault) = Unit {0}

-- A current root that is spelled in the file is the one read, unless the disk failed.
abbrev pub ReadsBack : List ℕ → Result (Option (Slot × Root)) RootRefusal → Type 0
ReadsBack file (Err DiskFault) = Unit {0}
ReadsBack file (Err (Damaged at)) = (slot : Slot) (r : Root) → RootFits r → IsRoot r
    → Current (slot_number slot) (spelling r) file → ⊥
ReadsBack file (Ok found) = (slot : Slot) (r : Root) → RootFits r → IsRoot r
    → Current (slot_number slot) (spelling r) file → found ≡ Some (slot, r)

-- No slot of this file is open.
abbrev pub IsShutFile : File → Type 0
IsShutFile None = Unit {0}
IsShutFile (Some bytes) = IsShut bytes

-- No crash leaves an open slot.
abbrev pub EachShut : Option Content → Type 0
EachShut None = Unit {0}
EachShut (Some k) = (file : File) → MaySurvive (k root_name).sure file → IsShutFile file

-- No slot is open, and all other files are as a crash before might have left them.
pub record StaysShut (k : Content) (image : Files) : Type 0 where
  pub root : IsShutFile (image root_name)
  pub elsewhere : Elsewhere k image

-- The same, if the disk tells its content.
abbrev pub LeavesShut : Option Content → Files → Type 0
LeavesShut None image = Unit {0}
LeavesShut (Some k) image = StaysShut k image

-- The root file reads so, every other file reads as before, and all of it is on the disk.
pub record RootBecomes (file : File) (old new : Content) : Type 0 where
  pub root : (new root_name).seen ≡ file
  pub elsewhere : (other : FileName) → other ≢ root_name → (new other).seen ≡ (old other).seen
  pub settled : IsSettled new

-- No slot is open if none was before, and all other files are as a crash before might have left them.
pub record KeepsShut (k : Content) (image : Files) : Type 0 where
  pub root : EachShut (Some k) → IsShutFile (image root_name)
  pub elsewhere : Elsewhere k image

-- The same, if the disk tells its content.
abbrev pub StillShut : Option Content → Files → Type 0
StillShut content image = WhereTold (λ (k : Content). KeepsShut k image) content

-- The root file is whole and all zeros.
abbrev pub IsBegun : Content → Content → Type 0
IsBegun old new = RootBecomes (Some (replicate root_size 0)) old new

-- The root file is gone.
abbrev pub IsCleared : Content → Content → Type 0
IsCleared old new = RootBecomes None old new

-- The bytes of a root file of its size, or that it has another size.
abbrev pub AreRootBytes : Bool → List ℕ → Content → Type 0
AreRootBytes true file k = file ≡ bytes_of (k root_name).seen
AreRootBytes false file k = length (bytes_of (k root_name).seen) ≢ root_size
