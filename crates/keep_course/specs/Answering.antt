-- What one act over a keeper does, for any door: it answers a request, or reopens the archive.
use Rattle.std.specs.Prelude.{◌≡◌, ◌⊎◌, ℕ, Bool, true, false, List, [], Option, Some, None, is_some}
use Rattle.line_door.specs.Acts.{ConnectionState, Said, Departure, Plain, Memory, Disk, Newer, SaidWhole, SaidLost, Acts, PlainActs, held_if}
use Rattle.line_door.specs.Making.{says, closes}
use Rattle.arch_model.specs.Archives.{Archive}
use Rattle.arch_model.specs.Delivery.{applied}
use Rattle.arch_model.specs.Standing.{LastKnown, standing, unsure}
use Rattle.arch_model.specs.Keeping.{MatchesKnown, KeeperMoves, Ending, Accepts, Refuses, Starves, Fails, Breaks, ending, CommandGives, CommandTaken, StaysReady, AnswerCause, Keeper}
use Rattle.arch_model.specs.declared.answer.Answer.{Answer}
use Rattle.arch_model.specs.declared.command.Command.{Command}
use Rattle.arch_model.specs.declared.command.Command.TheVariants.{Deliver, Remove, Purge, Edit}
use Rattle.arch_model.specs.declared.opening.OpenRefusal.{OpenRefusal}
use Rattle.arch_model.specs.declared.opening.OpenRefusal.TheVariants as opening

-- The archive in doubt, or the other one if none is.
abbrev pub newer_of : Archive → Option Archive → Archive
newer_of a None = a
newer_of a (Some b) = b

-- The archive in doubt, if there is one.
abbrev pub newer : LastKnown → Archive
newer s = newer_of s.archive s.in_doubt

-- What reopening says to the session `h`: nothing, if it finds the older archive or the one in doubt;
-- otherwise a door's line for the refusal, and the session is closed. After a fault of the disk the
-- archives are those that were there, in doubt.
abbrev pub said_reopening : {H : Type 0} → (OpenRefusal → List ℕ) → LastKnown → H → Departure
    → Said H LastKnown
said_reopening line s h Plain = says (standing s.archive None) h []
said_reopening line s h Newer = says (standing (newer s) None) h []
said_reopening line s h Memory = closes s (line opening.NoMemory)
said_reopening line s h Disk = closes (unsure s) (line opening.DiskFault)

-- All words of an act were sent, or a send was lost.
abbrev pub SaidAll : {H A : Type 0} → Said H A → ConnectionState → Option H → A → ConnectionState → Type 0
SaidAll s i held a j = SaidWhole s i held a j ⊎ SaidLost s i held a j

-- An act of these words was refused: memory ran out, or the disk failed.
abbrev pub RefusedBy : {H A : Type 0} → (Departure → Said H A) → ConnectionState → Option H → A
    → ConnectionState → Type 0
RefusedBy words i held a j = SaidAll (words Memory) i held a j ⊎ SaidAll (words Disk) i held a j

-- The way in which an act goes that carries out a command, by how the answer ends it: by the rules, out
-- of memory, or at a fault of the disk. Where an archive is there, no file is damaged.
abbrev pub way_of_ending : Ending → Departure
way_of_ending Accepts = Plain
way_of_ending Refuses = Plain
way_of_ending Starves = Memory
way_of_ending Fails = Disk
way_of_ending Breaks = Disk

-- A command, by its numbers and the bytes of its message.
pub data CommandAsked : Type 0 where
  AsksDelivery : List ℕ → CommandAsked
  AsksRemoval : ℕ → CommandAsked
  AsksPurge : ℕ → CommandAsked
  AsksEdit : ℕ → List ℕ → CommandAsked

-- What a command asks.
abbrev pub command_asked : Command → CommandAsked
command_asked (Deliver bytes) = AsksDelivery bytes.now
command_asked (Remove number) = AsksRemoval number
command_asked (Purge number) = AsksPurge number
command_asked (Edit number bytes) = AsksEdit number bytes.now

-- What an act of a session asks of its keeper: nothing for which the disk is used; to read; to be
-- reopened; to be reindexed; or to carry out a command.
pub data KeeperAsked : Type 0 where
  AsksNoDisk : KeeperAsked
  AsksReading : KeeperAsked
  AsksReopening : KeeperAsked
  AsksReindexing : KeeperAsked
  AsksCommand : CommandAsked → KeeperAsked

-- What an act of a reading door asks, given whether it may use the disk.
abbrev pub reading_asked : Bool → KeeperAsked
reading_asked true = AsksReading
reading_asked false = AsksNoDisk

module _ {K : Type 0} (g : Keeper K) where
  -- An act of these words carried out a command at a moment: the keeper took it, as its `command` says.
  -- What was said is what the act says in the way of the keeper's answer.
  pub record TookCommand {H : Type 0} (words : Departure → Said H LastKnown) (command : Command)
      (moment : ℕ) (old : K) (s : LastKnown) (i : ConnectionState) (held : Option H) (new : K)
      (t : LastKnown) (j : ConnectionState) : Type 0 where
    pub reply : Answer
    pub gives : CommandGives (g.ready old) s (λ (a : Archive). applied a command moment) reply t
    pub taken : CommandTaken g old s command moment new reply t
    pub ready : StaysReady (g.ready old) reply (g.ready new)
    pub cause : AnswerCause i.disk j.disk reply
    pub said : SaidAll (words (way_of_ending (ending reply))) i held t j

  -- Memory ran out before the keeper was asked for a command. It stays.
  pub record StarvedUnasked {H : Type 0} (words : Departure → Said H LastKnown) (old : K)
      (i : ConnectionState) (held : Option H) (new : K) (t : LastKnown) (j : ConnectionState)
      : Type 0 where
    pub kept : new ≡ old
    pub said : SaidAll (words Memory) i held t j

  -- An act of these words carries out what it asks at a moment: the keeper takes the command, unless
  -- memory runs out before.
  abbrev pub DoesCommand : {H : Type 0} → ℕ → CommandAsked → (Departure → Said H LastKnown) → K
      → LastKnown → ConnectionState → Option H → K → LastKnown → ConnectionState → Type 0
  DoesCommand moment asked words old s i held new t j =
      ((command : Command) × (command_asked command ≡ asked)
      × TookCommand words command moment old s i held new t j)
      ⊎ StarvedUnasked words old i held new t j

  -- After an act of these words the keeper is ready; or the act was refused, and the keeper has to be
  -- reopened.
  abbrev pub EndsReady : {H : Type 0} → (Departure → Said H LastKnown) → ConnectionState → Option H → K
      → LastKnown → ConnectionState → Type 0
  EndsReady words i held new t j =
      (g.ready new ≡ true) ⊎ ((g.ready new ≡ false) × RefusedBy words i held t j)

  -- A reopening by an act of these words. It changes nothing of a ready keeper: then it goes by the
  -- rules, as where memory is ample and the disk answers. Of one that isn't, if it isn't refused, it
  -- finds the archive as which the files read.
  pub record ReopenedAs {H : Type 0} (words : Departure → Said H LastKnown) (old : K)
      (i : ConnectionState) (held : Option H) (new : K) (t : LastKnown) (j : ConnectionState)
      : Type 0 where
    pub nothing : g.ready old ≡ true → (new ≡ old) × PlainActs (words Plain) i held t j
    pub found : g.ready old ≡ false → g.ready new ≡ true → g.finds old new t.archive
    pub ends : EndsReady words i held new t j

  -- The files were read again by an act of these words, or that was refused. After a refusal the keeper
  -- has to be reopened.
  abbrev pub ReindexedAs : {H : Type 0} → (Departure → Said H LastKnown) → K → ConnectionState → Option H
      → K → LastKnown → ConnectionState → Type 0
  ReindexedAs words old i held new t j =
      (g.finds old new t.archive × (g.ready new ≡ true) × SaidAll (words Plain) i held t j)
      ⊎ ((g.ready new ≡ false) × RefusedBy words i held t j)

  -- An act of these words at a moment did what it asks of the keeper. One that doesn't change the
  -- archive changes nothing of the keeper but what reading changes; and if it doesn't use the disk, the
  -- disk's count of faults stays.
  abbrev pub DoesAsked : {H : Type 0} → ℕ → KeeperAsked → (Departure → Said H LastKnown) → K → LastKnown
      → ConnectionState → Option H → K → LastKnown → ConnectionState → Type 0
  DoesAsked moment AsksNoDisk words old s i held new t j = g.alike old new × (j.disk ≡ i.disk)
  DoesAsked moment AsksReading words old s i held new t j = g.alike old new
  DoesAsked moment AsksReopening words old s i held new t j = ReopenedAs words old i held new t j
  DoesAsked moment AsksReindexing words old s i held new t j =
      ReindexedAs words old i held new t j
  DoesAsked moment (AsksCommand asked) words old s i held new t j =
      DoesCommand moment asked words old s i held new t j

  -- Whichever archive is held, an act of these words at a moment does what it asks, and the keeper
  -- matches what it leaves. The session after it, if it is open, is `after` of what follows the request.
  abbrev pub ActsOnArchive : {H R : Type 0} → (Archive → R → Departure → Said H LastKnown) → (R → H)
      → ℕ → (Archive → KeeperAsked) → K → ConnectionState → Bool → K → ConnectionState → Type 0
  ActsOnArchive {H} {R} words after moment asked old i goes_on new j =
      (a : Archive) (rest : R) → g.holds old a → (t : LastKnown)
      × KeeperMoves g old (standing a None) new t
      × Acts (words a rest) i (held_if goes_on (after rest)) t j
      × DoesAsked moment (asked a) (words a rest) old (standing a None) i
      (held_if goes_on (after rest)) new t j

  -- Whatever the keeper matches, it is reopened by an act of these words, and matches what that leaves.
  abbrev pub ReopensBy : {H R : Type 0} → (LastKnown → R → Departure → Said H LastKnown) → (R → H) → K
      → ConnectionState → Bool → K → ConnectionState → Type 0
  ReopensBy {H} {R} words after old i opened new j =
      (s : LastKnown) (rest : R) → MatchesKnown g old s → (t : LastKnown)
      × KeeperMoves g old s new t
      × Acts (words s rest) i (held_if opened (after rest)) t j
      × ReopenedAs (words s rest) old i (held_if opened (after rest)) new t j
