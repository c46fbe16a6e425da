-- What the calls of a keeper leave and answer, and what crashes leave of it.
use Rattle.std.specs.Prelude.{◌≡◌, ◌⊎◌, ◌≤◌, ℕ, Bool, true, false, List, [], ◌∷◌, Option, Some, None, is_some, Result, Ok, Err}
use Rattle.std.specs.List.{Contains}
use Rattle.arch_base.specs.Counts.{Rose}
use Rattle.arch_base.specs.declared.ids.Form.{Form}
use Rattle.mail_reader.specs.Stored.{stored}
use Rattle.mail_reader.specs.declared.storing.StoredRefusal.{StoredRefusal}
use Rattle.git_objects.specs.Objects.{blob_id_of}
use Rattle.disk_model.specs.declared.name.FileKind.TheVariants.{Root}
use Rattle.disk_model.specs.declared.name.FileName.{FileName}
use Rattle.arch_model.specs.Archives.{Entry, Archive, blob_number}
use Rattle.arch_model.specs.Candidates.{choice_of}
use Rattle.arch_model.specs.Delivery.{Done, applied}
use Rattle.arch_model.specs.Shelves.{ReadsOnce}
use Rattle.arch_model.specs.Standing.{LastKnown, standing, unsure, IsFound}
use Rattle.arch_model.specs.declared.choice.Choice.{Choice}
use Rattle.arch_model.specs.declared.choice.Choice.TheVariants.{Take, Repeat}
use Rattle.arch_model.specs.declared.command.Command.{Command}
use Rattle.arch_model.specs.declared.command.Command.TheVariants.{Deliver, Remove, Purge, Edit}
use Rattle.arch_model.specs.declared.answer.Answer.{Answer}
use Rattle.arch_model.specs.declared.answer.Answer.TheVariants as answer
use Rattle.arch_model.specs.declared.opening.OpenRefusal.{OpenRefusal}
use Rattle.arch_model.specs.declared.opening.OpenRefusal.TheVariants as opening

-- The archive in doubt, if there is one, is among these.
abbrev pub HasDoubt : List (Option Archive) → Option Archive → Type 0
HasDoubt may None = Unit {0}
HasDoubt may (Some b) = Contains may (Some b)

-- The archive of a standing is among these, and so is the one in doubt, if there is one.
pub record Has (may : List (Option Archive)) (s : LastKnown) : Type 0 where
  pub archive : Contains may (Some s.archive)
  pub in_doubt : HasDoubt may s.in_doubt

-- The archives of all these standings are among these.
abbrev pub HasAll : List (Option Archive) → List LastKnown → Type 0
HasAll may [] = Unit {0}
HasAll may (s ∷ ss) = Has may s × HasAll may ss

-- A crash on the way from one state of a keeper to another leaves an archive of one of these
-- standings, or one in doubt there. Said of a run that began at any state before: its list of what a
-- crash may have left stays right, if it has the archives of these standings.
abbrev pub CrashesLeaveOnly : {K : Type 0} → (K → K → List (Option Archive) → Type 0) → K → K → List LastKnown
    → Type 0
CrashesLeaveOnly {K} leaves old new standings = (start : K) (may : List (Option Archive))
    → HasAll may standings → leaves start old may → leaves start new may

-- A keeper: the archives that it holds, whether it is ready, its counts of reads and of faults of the
-- disk, and what reading leaves unchanged; the archives of which its files are exactly, what each crash
-- since a state may have left, the archive as which its files were found, and what a command did to
-- them. These are the members of `Shelf` and of `Keep`, in their order, as `Self.Keep` gives them to the
-- clauses of `Keep`.
abbrev pub Keeper : Type 0 → Type 1
Keeper K = record {
  holds : K → Archive → Type 0;
  ready : K → Bool;
  reads : K → ℕ;
  faults : K → ℕ;
  alike : K → K → Type 0;
  files_are : K → Archive → Type 0;
  leaves : K → K → List (Option Archive) → Type 0;
  finds : K → K → Archive → Type 0;
  takes : K → K → Command → ℕ → Answer → Type 0;
}

module _ {K : Type 0} (g : Keeper K) where
  -- The keeper matches a standing: if it is ready, it holds the archive and nothing is in doubt; ready or
  -- not, if nothing is in doubt, its files are exactly the archive's; and a crash now leaves the archive
  -- or the one in doubt.
  pub record MatchesKnown (k : K) (s : LastKnown) : Type 0 where
    pub settled : g.ready k ≡ true → g.holds k s.archive × (s.in_doubt ≡ None)
    pub exact : s.in_doubt ≡ None → g.files_are k s.archive
    pub left : (may : List (Option Archive)) → Has may s → g.leaves k k may

  -- The keeper matched one standing and now matches another, and a crash meanwhile leaves an archive of
  -- one of the two.
  pub record KeeperMoves (old : K) (s : LastKnown) (new : K) (t : LastKnown) : Type 0 where
    pub fits : MatchesKnown new t
    pub passes : CrashesLeaveOnly g.leaves old new (s ∷ t ∷ [])

  -- Nothing changed but what reading changes: the archive, the files and the readiness stay, and a
  -- crash leaves nothing else. What is held after it was held before.
  pub record OnlyRead (old new : K) : Type 0 where
    pub held : (a : Archive) → g.holds old a → g.holds new a
    pub back : (a : Archive) → g.holds new a → g.holds old a
    pub rested : (a : Archive) → g.files_are old a → g.files_are new a
    pub same : g.ready new ≡ g.ready old
    pub passes : CrashesLeaveOnly g.leaves old new []

-- Reopening found the archive, or the one in doubt, and nothing is in doubt after it.
pub record Settles (s t : LastKnown) : Type 0 where
  pub found : IsFound s t.archive
  pub sure : t.in_doubt ≡ None

-- A refusal to reopen leaves all as it was, but that a fault of the disk may leave files beside the
-- archive's, so that something is in doubt then. Where an archive is there, that there is none or that a
-- file is damaged is never the reason.
abbrev pub ReopeningRefused : LastKnown → OpenRefusal → LastKnown → Type 0
ReopeningRefused s opening.DiskFault t = t ≡ unsure s
ReopeningRefused s opening.NoMemory t = t ≡ s
ReopeningRefused s opening.NoArchive t = ⊥
ReopeningRefused s (opening.Damaged file at) t = ⊥

-- The results of reopening.
abbrev pub Reopens : {T : Type 0} → LastKnown → Result T OpenRefusal → LastKnown → Type 0
Reopens s (Ok x) t = Settles s t
Reopens s (Err why) t = ReopeningRefused s why t

-- How an answer to a command ends it: it was carried out or refused by the rules, memory ran out, the
-- disk failed, or a file is damaged.
pub data Ending : Type 0 where
  Accepts : Ending
  Refuses : Ending
  Starves : Ending
  Fails : Ending
  Breaks : Ending

-- The way in which each answer ends a command.
abbrev pub ending : Answer → Ending
ending (answer.Ok number id) = Accepts
ending answer.DiskFault = Fails
ending (answer.Damaged file at) = Breaks
ending answer.NoMemory = Starves
ending other = Refuses

-- A command was answered by the rules, on the archive that was found.
pub record Obeys (s : LastKnown) (wanted : Archive → Done) (reply : Answer) (t : LastKnown)
    : Type 0 where
  pub found : Archive
  pub is_found : IsFound s found
  pub answer_is : (wanted found).answer ≡ reply
  pub stands : t ≡ standing (wanted found).archive None

-- After a fault of the disk it is in doubt whether the command was carried out on the archive that
-- was found.
pub record Doubts (s : LastKnown) (wanted : Archive → Done) (t : LastKnown) : Type 0 where
  pub found : Archive
  pub is_found : IsFound s found
  pub stands : t ≡ standing found (Some (wanted found).archive)

-- The keeper had to be reopened, which was refused, and it stands so.
pub record StaysStale (was_ready : Bool) (s t : LastKnown) : Type 0 where
  pub stale : was_ready ≡ false
  pub same : t ≡ s

-- What a command does by the way that it ends. A keeper that isn't ready is reopened first, which may
-- be refused. Where an archive is there, no file is damaged.
abbrev pub CommandGivesBy : Bool → LastKnown → (Archive → Done) → Answer → LastKnown → Ending → Type 0
CommandGivesBy was_ready s wanted reply t Accepts = Obeys s wanted reply t
CommandGivesBy was_ready s wanted reply t Refuses = Obeys s wanted reply t
CommandGivesBy was_ready s wanted reply t Starves = StaysStale was_ready s t ⊎ Settles s t
CommandGivesBy was_ready s wanted reply t Fails = StaysStale was_ready (unsure s) t ⊎ Doubts s wanted t
CommandGivesBy was_ready s wanted reply t Breaks = ⊥

-- What a command does: the answer, and the standing after it.
abbrev pub CommandGives : Bool → LastKnown → (Archive → Done) → Answer → LastKnown → Type 0
CommandGives was_ready s wanted reply t = CommandGivesBy was_ready s wanted reply t (ending reply)

module _ {K : Type 0} (g : Keeper K) where
  -- A keeper that had to be reopened was: its files read as those of the archive of this standing.
  abbrev pub FindsStanding : {T : Type 0} → K → K → Result T OpenRefusal → LastKnown → Type 0
  FindsStanding old new (Ok x) t = g.ready old ≡ false → g.finds old new t.archive
  FindsStanding old new (Err why) t = Unit {0}

  -- Before a command at a moment a keeper was reopened, up to a state between: its files read as those
  -- of this archive, which is the one before or the one in doubt. There it was ready, and from there the
  -- command was taken and answered, on that archive.
  pub record FindsFirst (old : K) (s : LastKnown) (command : Command) (moment : ℕ) (new : K)
      (reply : Answer) (t : LastKnown) : Type 0 where
    pub middle : K
    pub found : Archive
    pub is_found : IsFound s found
    pub finds : g.finds old middle found
    pub holds : g.holds middle found
    pub opened : KeeperMoves g old s middle (standing found None)
    pub takes : g.takes middle new command moment reply
    pub taken : KeeperMoves g middle (standing found None) new t
    pub gives : CommandGives true (standing found None) (λ a. applied a command moment) reply t

  -- That it was reopened first, by the way in which a command ends: where memory ran out, or the disk
  -- failed, the reopening itself may have been refused.
  abbrev pub FindsFirstBy : K → LastKnown → Command → ℕ → K → Answer → LastKnown → Ending → Type 0
  FindsFirstBy old s command moment new reply t Accepts =
      FindsFirst old s command moment new reply t
  FindsFirstBy old s command moment new reply t Refuses =
      FindsFirst old s command moment new reply t
  FindsFirstBy old s command moment new reply t Starves = (t ≡ s)
      ⊎ FindsFirst old s command moment new reply t
  FindsFirstBy old s command moment new reply t Fails = (t ≡ unsure s)
      ⊎ FindsFirst old s command moment new reply t
  FindsFirstBy old s command moment new reply t Breaks = ⊥

  -- What a command at a moment did to a keeper's files. One that had to be reopened took it from what
  -- its files read as.
  abbrev pub CommandTakenBy : Bool → K → LastKnown → Command → ℕ → K → Answer → LastKnown → Type 0
  CommandTakenBy true old s command moment new reply t = g.takes old new command moment reply
  CommandTakenBy false old s command moment new reply t =
      FindsFirstBy old s command moment new reply t (ending reply)

  -- The same by whether the keeper was ready.
  abbrev pub CommandTaken : K → LastKnown → Command → ℕ → K → Answer → LastKnown → Type 0
  CommandTaken old s command moment new reply t =
      CommandTakenBy (g.ready old) old s command moment new reply t

-- A refusal by the rules leaves the keeper ready, and so does `NoMemory` if it was ready. After a
-- fault, or damage, it has to be reopened. After a command that was carried out it may have to be.
abbrev pub ReadyBy : Bool → Bool → Ending → Type 0
ReadyBy was now Accepts = Unit {0}
ReadyBy was now Refuses = now ≡ true
ReadyBy was now Starves = was ≡ true → now ≡ true
ReadyBy was now Fails = now ≡ false
ReadyBy was now Breaks = now ≡ false

-- The same by the answer.
abbrev pub StaysReady : Bool → Answer → Bool → Type 0
StaysReady was reply now = ReadyBy was now (ending reply)

-- The disk's count of faults rises exactly when the answer is that it failed. So no fault of the
-- disk is told as out of memory, and none is left out.
abbrev pub CauseBy : ℕ → ℕ → Ending → Type 0
CauseBy before now Fails = Rose before now
CauseBy before now other = now ≡ before

-- The same by the answer.
abbrev pub AnswerCause : ℕ → ℕ → Answer → Type 0
AnswerCause before now reply = CauseBy before now (ending reply)

-- Why an archive wasn't opened: the count of faults rises exactly when the disk failed.
abbrev pub OpeningWhy : ℕ → ℕ → OpenRefusal → Type 0
OpeningWhy before now opening.DiskFault = Rose before now
OpeningWhy before now other = now ≡ before

-- A refusal to open has a cause. An opening that succeeded met no fault.
abbrev pub OpeningCause : {T : Type 0} → ℕ → ℕ → Result T OpenRefusal → Type 0
OpeningCause before now (Ok x) = now ≡ before
OpeningCause before now (Err why) = OpeningWhy before now why

-- The name of the root's file.
abbrev pub root_file : FileName
root_file = record { kind = Root; number = 0; generation = 0 }

-- The answer to a command whose archive could not be reopened. If there is none, its root is damaged.
abbrev pub opening_answer : OpenRefusal → Answer
opening_answer opening.NoArchive = answer.Damaged root_file 0
opening_answer (opening.Damaged file at) = answer.Damaged file at
opening_answer opening.DiskFault = answer.DiskFault
opening_answer opening.NoMemory = answer.NoMemory

-- An entry has the blob id, in a form, of a text that a choice keeps.
abbrev pub keeps_known : Form → List Entry → Choice → Bool
keeps_known form entries (Take text) = is_some (blob_number form entries (blob_id_of form text))
keeps_known form entries (Repeat number) = false

-- An entry has the blob id of the text that a delivery of this form would keep.
abbrev pub form_known : Archive → Result (List ℕ) StoredRefusal → Bool
form_known a (Ok text) = keeps_known a.config.form a.entries (choice_of a text)
form_known a (Err why) = false

-- A delivery and a removal read the disk at most once. Nothing bounds how often a purge and an edit
-- read it: they read what they write anew.
abbrev pub ReadsFor : Command → ℕ → ℕ → Type 0
ReadsFor (Deliver bytes) before now = ReadsOnce before now
ReadsFor (Remove number) before now = ReadsOnce before now
ReadsFor (Purge number) before now = before ≤ now
ReadsFor (Edit number bytes) before now = before ≤ now

-- An entry has the blob id of the text of a command: the new text of a delivery, or the one that is
-- removed, purged or edited.
abbrev pub text_known : Archive → Command → Bool
text_known a (Deliver bytes) = form_known a (stored bytes.now)
text_known a other = true
