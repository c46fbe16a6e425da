-- The valid lists: each line may follow those before it.
use Rattle.std.specs.Prelude.{◌≡◌, ◌≢◌, ◌≤◌, ◌<◌, ℕ, List, [], ◌∷◌, ◌++◌}
use Rattle.std.specs.List.{AllByRecursion}
use Rattle.arch_base.specs.declared.ids.Form.{Form}
use Rattle.arch_base.specs.Ids.{IsObjectId}
use Rattle.arch_base.specs.Moments.{IsMoment}
use Rattle.arch_base.specs.Names.{IsArchiveName}
use Rattle.git_objects.specs.declared.entry_kind.EntryKind.{EntryKind}
use Rattle.git_objects.specs.declared.entry_kind.EntryKind.TheVariants.{Message, Deletion}
use Rattle.disk_model.specs.Sizes.{greatest_epoch}
use Rattle.mail_reader.specs.StorageTexts.{max_text_len}
use Rattle.thread_model.specs.Members.{Among}
use Rattle.arch_model.specs.declared.line.EntryLine.{EntryLine}
use Rattle.mirror_wire.specs.declared.list.MirrorList.{MirrorList}

-- The number of a message is at least 1, below the next number of the list, and above the numbers of
-- the lines before it.
pub record NumberRises (next : ℕ) (before : List EntryLine) (l : EntryLine) : Type 0 where
  pub least : 1 ≤ l.number
  pub below : l.number < next
  pub above : AllByRecursion (λ (m : EntryLine). m.number < l.number) before

-- A deletion has the number, the blob id and the size of a message before it, and no deletion before
-- it has the number.
pub record EndsListed (before : List EntryLine) (l : EntryLine) : Type 0 where
  pub message : EntryLine
  pub there : Among before message
  pub kind : message.kind ≡ Message
  pub number : message.number ≡ l.number
  pub blob : message.blob ≡ l.blob
  pub size : message.size ≡ l.size
  pub live : AllByRecursion (λ (m : EntryLine). m.kind ≡ Deletion → m.number ≢ l.number) before

-- The number of an entry may follow, by its kind.
abbrev pub NumberMayFollow : EntryKind → ℕ → List EntryLine → EntryLine → Type 0
NumberMayFollow Message next before l = NumberRises next before l
NumberMayFollow Deletion next before l = EndsListed before l

-- The line of an entry may follow others in a list with a next number: its ids are of the form, its
-- epoch is one of 0 to 63 and none before it is greater, its moment and its size are in their ranges,
-- its number may follow, and each line before it with its blob id has its size.
pub record MayFollow (form : Form) (next : ℕ) (before : List EntryLine) (l : EntryLine) : Type 0 where
  pub blob : IsObjectId form l.blob
  pub commit : IsObjectId form l.commit
  pub epoch : l.epoch ≤ greatest_epoch
  pub later : AllByRecursion (λ (m : EntryLine). m.epoch ≤ l.epoch) before
  pub moment : IsMoment l.secs
  pub size : l.size ≤ max_text_len
  pub number : NumberMayFollow l.kind next before l
  pub sizes : AllByRecursion (λ (m : EntryLine). m.blob ≡ l.blob → m.size ≡ l.size) before

-- Each of these lines may follow those before it.
abbrev pub EachMayFollow : Form → ℕ → List EntryLine → List EntryLine → Type 0
EachMayFollow form next before [] = Unit {0}
EachMayFollow form next before (l ∷ ls) =
    MayFollow form next before l × EachMayFollow form next (before ++ l ∷ []) ls

-- A next number: 1 to 2^31.
pub record IsNext (n : ℕ) : Type 0 where
  pub least : 1 ≤ n
  pub most : n ≤ 2147483648

-- A list with ids of a form is valid: it has a valid name and a next number, and each line of an entry
-- may follow those before it.
pub record IsMirrorList (form : Form) (list : MirrorList) : Type 0 where
  pub name : IsArchiveName list.name
  pub next : IsNext list.next
  pub lines : EachMayFollow form list.next [] list.lines
