-- Private: how much of an entry is at the front of held bytes that more bytes follow.
use Rattle.std.specs.Prelude.{◌≡◌, ◌⊎◌, ℕ, ◌+◌, ◌<◌, ◌≤◌, ◌^◌, Bool, true, false, List, ◌∷◌, ◌++◌, length, drop, codes, Option, Some}
use Rattle.std.specs.Fmt.{decimal}
use Rattle.arch_base.specs.declared.ids.Form.{Form}
use Rattle.arch_base.specs.declared.ids.ObjectId.{ObjectId}
use Rattle.git_objects.specs.Trees.{tree_size}
use Rattle.epoch_file.specs.declared.sight.Sight.{Sight}
use Rattle.epoch_file.specs.declared.sight.Sight.TheVariants.{Lacks, Short, Whole}
use Rattle.epoch_file.specs.Entries.{EpochEntry, IsEpochEntry, bytes_after}
use Rattle.epoch_file.specs.Walking.{blob_front}

-- The held bytes start with an entry of a form, and they are the first of the bytes that are left.
pub record StartsWithEntry (form : Form) (parent : Option ObjectId) (e : EpochEntry)
    (held more rest : List ℕ) (left : ℕ) : Type 0 where
  pub valid : IsEpochEntry e
  pub is : held ++ more ≡ bytes_after form parent e ++ rest
  pub all : length (held ++ more) ≡ left

-- What a result says of the entries of a form with a property.
abbrev pub SeesWhere : Form → (Option ObjectId → EpochEntry → Type 0) → List ℕ → ℕ → Sight → Type 0
SeesWhere form P held left Lacks = (parent : Option ObjectId) (e : EpochEntry) (more rest : List ℕ)
    → P parent e → StartsWithEntry form parent e held more rest left → ⊥
SeesWhere form P held left Short = length held < left
SeesWhere form P held left Whole =
    (parent : Option ObjectId) (e : EpochEntry) (more rest : List ℕ) → P parent e
    → StartsWithEntry form parent e held more rest left
    → length (bytes_after form parent e) ≤ length held

-- What a result says of any entry of a form.
abbrev pub Sees : Form → List ℕ → ℕ → Sight → Type 0
Sees form = SeesWhere form (λ parent e. Unit {0})

-- The offset of the commit in an entry of a text: after the blob and the tree.
abbrev pub commit_offset : Form → List ℕ → ℕ
commit_offset form text = blob_front text + length text + tree_size form

-- What a result says of an entry whose commit has this offset.
abbrev pub SeesCommit : Form → ℕ → List ℕ → ℕ → Sight → Type 0
SeesCommit form at = SeesWhere form (λ parent e. at ≡ commit_offset form e.text)

-- What a result says of an entry of this length.
abbrev pub SeesAll : Form → ℕ → List ℕ → ℕ → Sight → Type 0
SeesAll form len = SeesWhere form (λ parent e. len ≡ length (bytes_after form parent e))

-- Fewer bytes are held than are left; or at least `count` are held, or all that are left.
abbrev pub IsRoomFor : List ℕ → ℕ → ℕ → Bool → Type 0
IsRoomFor held left count true = length held < left
IsRoomFor held left count false = (count ≤ length held) ⊎ (left ≤ length held)

-- If there is a commit's type and size at an offset, the result is the offset after its content.
abbrev pub EndsCommit : ℕ → List ℕ → Option ℕ → Type 0
EndsCommit at held found =
    (size : ℕ) (rest : List ℕ) → at ≤ length held
    → at + length (codes "commit " ++ decimal size) + 1 + size < 2 ^ 64
    → drop at held ≡ codes "commit " ++ (decimal size ++ 0 ∷ rest)
    → found ≡ Some (at + length (codes "commit " ++ decimal size) + 1 + size)
