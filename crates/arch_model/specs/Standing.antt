-- What a keeper stands for: its archive, and the one in doubt; and what its calls give and leave.
use Rattle.std.specs.Prelude.{◌≡◌, ◌⊎◌, ◌≤◌, ◌<◌, ℕ, Bool, true, false, List, [], ◌∷◌, ◌++◌, Option, Some, None, is_some, Result, Ok, Err}
use Rattle.arch_base.specs.declared.ids.Form.{Form}
use Rattle.arch_model.specs.Archives.{Entry, Archive, text_of, has_entry}
use Rattle.arch_model.specs.Epochs.{epoch_bytes}
use Rattle.arch_model.specs.declared.answer.Answer.{Answer}
use Rattle.arch_model.specs.declared.answer.Answer.TheVariants as answer
use Rattle.arch_model.specs.declared.text_refusal.TextRefusal.{TextRefusal}
use Rattle.arch_model.specs.declared.text_refusal.TextRefusal.TheVariants as text_refusal

-- What is last known of a keeper's archive, its standing: the archive that is answered from, and the
-- one that a command in doubt would have left. After a fault of the disk it is in doubt whether the
-- command was carried out.
pub record LastKnown : Type 0 where
  pub archive : Archive
  pub in_doubt : Option Archive

-- The standing of an archive, and of one in doubt, if there is one.
abbrev pub standing : Archive → Option Archive → LastKnown
standing archive in_doubt = record { archive = archive; in_doubt = in_doubt }

-- The archive, and the one in doubt, if there is one.
abbrev pub with_doubt : Archive → Option Archive → List (Option Archive)
with_doubt a None = Some a ∷ []
with_doubt a (Some b) = Some a ∷ Some b ∷ []

-- The archives that a crash may leave, and that reopening may find.
abbrev pub one_of : LastKnown → List (Option Archive)
one_of s = with_doubt s.archive s.in_doubt

-- The same archives, where it isn't said that nothing is in doubt: if nothing was, the archive itself is.
-- An opening at which the disk fails leaves this, since it may stop between two writes.
abbrev pub unsure_of : Archive → Option Archive → LastKnown
unsure_of a None = standing a (Some a)
unsure_of a (Some b) = standing a (Some b)

-- The same of a standing.
abbrev pub unsure : LastKnown → LastKnown
unsure s = unsure_of s.archive s.in_doubt

-- The least number among live entries that is at least `n`, or none.
abbrev pub IsLeastLive : List Entry → ℕ → Option ℕ → Type 0
IsLeastLive entries n None = (m : ℕ) → n ≤ m → text_of entries m ≡ None
IsLeastLive entries n (Some found) = (n ≤ found) × (is_some (text_of entries found) ≡ true)
    × ((m : ℕ) → n ≤ m → m < found → text_of entries m ≡ None)

-- The result of reading the text of a number among live entries: the text is appended, and no damage
-- is found.
abbrev pub GivesTextIn : List Entry → ℕ → List ℕ → List ℕ → Result Unit TextRefusal → Type 0
GivesTextIn entries n old new (Ok _) = (text : List ℕ) × (text_of entries n ≡ Some text)
    × (new ≡ old ++ text)
GivesTextIn entries n old new (Err (text_refusal.Damaged named found)) = ⊥
GivesTextIn entries n old new (Err text_refusal.DiskFault) = Unit {0}
GivesTextIn entries n old new (Err text_refusal.NoMemory) = Unit {0}

-- The result of reading an epoch of these entries in a form: its bytes are appended, and it is told
-- whether it has an entry.
abbrev pub GivesEpochIn : Form → List Entry → List ℕ → List ℕ → Result Bool TextRefusal → Type 0
GivesEpochIn form entries old new (Ok found) = (new ≡ old ++ epoch_bytes form entries)
    × (found ≡ has_entry entries)
GivesEpochIn form entries old new (Err (text_refusal.Damaged named found)) = ⊥
GivesEpochIn form entries old new (Err text_refusal.DiskFault) = Unit {0}
GivesEpochIn form entries old new (Err text_refusal.NoMemory) = Unit {0}

-- A refusal, and an epoch without an entry, leave the bytes unchanged.
abbrev pub KeepsUnlessFound : List ℕ → List ℕ → Result Bool TextRefusal → Type 0
KeepsUnlessFound old new (Ok true) = Unit {0}
KeepsUnlessFound old new (Ok false) = new ≡ old
KeepsUnlessFound old new (Err refused) = new ≡ old

-- A command that was refused, or ran out of memory, leaves the keeper unchanged.
abbrev pub IsUntouched : {K : Type 0} → Answer → K → K → Type 0
IsUntouched (answer.Ok number id) old new = Unit {0}
IsUntouched answer.DiskFault old new = Unit {0}
IsUntouched (answer.Damaged file at) old new = Unit {0}
IsUntouched other old new = new ≡ old

-- Reopening found the archive, or the one in doubt.
abbrev pub IsFound : LastKnown → Archive → Type 0
IsFound s b = (b ≡ s.archive) ⊎ (s.in_doubt ≡ Some b)
