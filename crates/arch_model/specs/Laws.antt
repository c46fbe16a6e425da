-- The laws of commands.
use Rattle.std.specs.Prelude.{◌≡◌, ◌≢◌, ◌<◌, ◌≤◌, ◌^◌, ℕ, false, zero, suc, List, Option, Some, None, IsSome, Result, Ok, Err, length}
use Rattle.arch_base.specs.declared.ids.ObjectId.{ObjectId}
use Rattle.arch_base.specs.Names.{IsArchiveName}
use Rattle.mail_reader.specs.StorageTexts.{IsStorageText}
use Rattle.mail_reader.specs.Stored.{stored}
use Rattle.mail_reader.specs.Ids.{own_id}
use Rattle.mail_reader.specs.Content.{content_id_of}
use Rattle.arch_model.specs.Archives.{Archive, without_entries, owner, live, text_of}
use Rattle.arch_model.specs.Candidates.{made_id, with_made, met, choice_of}
use Rattle.arch_model.specs.Delivery.{delivered, removed, is_accepted, edited, applied}
use Rattle.arch_model.specs.Following.{Follows}
use Rattle.arch_model.specs.Validity.{IsArchive}
use Rattle.arch_model.specs.Standing.{LastKnown, standing}
use Rattle.arch_model.specs.Keeping.{Reopens}
use Rattle.arch_base.specs.Moments.{last_moment}
use Rattle.arch_model.specs.declared.answer.Answer.TheVariants as answer
use Rattle.arch_model.specs.declared.choice.Meeting.{Meeting}
use Rattle.arch_model.specs.declared.choice.Meeting.TheVariants.{Free, Same, Other}
use Rattle.arch_model.specs.declared.choice.Choice.{Choice}
use Rattle.arch_model.specs.declared.choice.Choice.TheVariants.{Take, Repeat}
use Rattle.arch_model.specs.declared.command.Command.{Command}
use Rattle.arch_model.specs.declared.opening.OpenRefusal.{OpenRefusal}
use Rattle.arch_model.specs.declared.opening.OpenRefusal.TheVariants as opening

-- Each live number is at least 1 and below the next one.
abbrev pub NumbersInRange : Archive → Type 0
NumbersInRange a = (n : ℕ) (text : List ℕ) → text_of (live a.entries) n ≡ Some text
    → (1 ≤ n) × (n < a.next)

-- A delivery leaves each number with its text.
abbrev pub KeepsNumbers : Type 0
KeepsNumbers =
    (a : Archive) (bytes : List ℕ) (moment n : ℕ) (text : List ℕ)
    → text_of (live a.entries) n ≡ Some text
    → text_of (live (delivered a bytes moment).archive.entries) n ≡ Some text

-- A removal leaves each other number with its text, or without one. If it is accepted, its own
-- number has none.
abbrev pub TakesFromView : Type 0
TakesFromView = (a : Archive) (number moment : ℕ)
    → ((n : ℕ) → n ≢ number
    → text_of (live (removed a number moment).archive.entries) n ≡ text_of (live a.entries) n)
    × ((id : ObjectId) → (removed a number moment).answer ≡ answer.Ok number id
    → text_of (live (removed a number moment).archive.entries) number ≡ None)

-- After a command on a valid archive each live number is at least 1 and below the next one.
abbrev pub StaysNumbered : Type 0
StaysNumbered = (a : Archive) (command : Command) (moment : ℕ) → IsArchive a
    → (1 ≤ (applied a command moment).archive.next) × NumbersInRange (applied a command moment).archive

-- An edit that is accepted is the delivery on the archive without the text of its number. Any other
-- edit leaves the archive unchanged.
abbrev pub EditsWhole : Type 0
EditsWhole = (a : Archive) (number moment : ℕ) (bytes : List ℕ)
    → ((n : ℕ) (id : ObjectId) → (edited a number bytes moment).answer ≡ answer.Ok n id →
    (text : List ℕ) × (text_of (live a.entries) number ≡ Some text)
    × (edited a number bytes moment ≡ delivered (without_entries a text) bytes moment))
    × (is_accepted (edited a number bytes moment).answer ≡ false
    → (edited a number bytes moment).archive ≡ a)

-- The storage form of bytes is a storage text if it has an own id, and it is one with a made id at
-- the front.
abbrev pub TakenAreStorage : Type 0
TakenAreStorage =
    (name bytes text : List ℕ) → stored bytes ≡ Ok text
    → (IsSome (own_id text) → IsStorageText text)
    × (IsArchiveName name → (k : ℕ) → k < 2 ^ 64 → IsStorageText (with_made name text k))

-- A command up to the last moment leaves a valid archive valid.
abbrev pub KeepsValid : Type 0
KeepsValid = (a : Archive) (command : Command) (moment : ℕ) → moment ≤ last_moment → IsArchive a
    → IsArchive (applied a command moment).archive

-- The archive after a command follows the one before it: over all commands, a number that named a text
-- never names another one, nor comes back once it was purged.
abbrev pub CommandFollows : Type 0
CommandFollows = (a : Archive) (command : Command) (moment : ℕ)
    → Follows a (applied a command moment).archive

-- The message that goes in comes out: the number of an accepted message has the text that the
-- candidate ids decided on. That is the storage form of its bytes, with a Message-ID field at the
-- front or not.
abbrev pub ShowsDelivered : Type 0
ShowsDelivered =
    (a : Archive) (bytes : List ℕ) (moment number : ℕ) (id : ObjectId) → NumbersInRange a
    → (delivered a bytes moment).answer ≡ answer.Ok number id →
    (text : List ℕ) × (kept : List ℕ) × (stored bytes ≡ Ok text) × (choice_of a text ≡ Take kept)
    × (text_of (live (delivered a bytes moment).archive.entries) number ≡ Some kept)

-- The candidate ids of a text in order: its own id, if it has one, and then the made ids.
abbrev pub candidate : List ℕ → List ℕ → Option (List ℕ) → ℕ → List ℕ
candidate name text None k = made_id name text k
candidate name text (Some id) zero = id
candidate name text (Some id) (suc k) = made_id name text k

-- The text as it is kept with the k-th candidate.
abbrev pub kept_with : List ℕ → List ℕ → Option (List ℕ) → ℕ → List ℕ
kept_with name text None k = with_made name text k
kept_with name text (Some id) zero = text
kept_with name text (Some id) (suc k) = with_made name text k

-- How the k-th candidate meets the live messages of an archive.
abbrev pub meeting : Archive → List ℕ → ℕ → Meeting
meeting a text k =
    met (owner (live a.entries) (candidate a.config.name text (own_id text) k)) (content_id_of text)

-- What a candidate that isn't skipped decides.
abbrev pub Decides : Meeting → List ℕ → Choice → Type 0
Decides Free text choice = choice ≡ Take text
Decides (Same number) text choice = choice ≡ Repeat number
Decides Other text choice = ⊥

-- The k-th candidate decides, and all before it are skipped.
abbrev pub IsChosenAt : Archive → List ℕ → ℕ → Choice → Type 0
IsChosenAt a text k choice =
    ((j : ℕ) → j < k → meeting a text j ≡ Other)
    × Decides (meeting a text k) (kept_with a.config.name text (own_id text) k) choice

-- Among fewer than 2^63 live messages some candidate decides on the choice, and no candidate after
-- skipped ones decides otherwise.
abbrev pub FirstDecides : Type 0
FirstDecides =
    (a : Archive) (text : List ℕ) → length (live a.entries) < 2 ^ 63
    → ((k : ℕ) × IsChosenAt a text k (choice_of a text))
    × ((k : ℕ) (choice : Choice) → IsChosenAt a text k choice → choice ≡ choice_of a text)

-- Where nothing is in doubt, a keeper that reads its files again stands for the archive that it stood
-- for, whether it answers with the number of live messages or refuses; but after a fault of the disk the
-- archive itself is in doubt.
abbrev pub ReindexStays : Type 0
ReindexStays = (a : Archive) (t : LastKnown) (result : Result ℕ OpenRefusal)
    → Reopens (standing a None) result t
    → (result ≢ Err opening.DiskFault → t ≡ standing a None)
    × (result ≡ Err opening.DiskFault → t ≡ standing a (Some a))
