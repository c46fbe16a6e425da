-- How what is due is printed, and what is read of the input.
use Rattle.std.specs.Prelude.{◌≡◌, ◌<◌, ◌≤◌, ◌⊎◌, ◌+◌, ℕ, List, [], ◌++◌, length, take, codes, Option, Result, Ok, Err, is_ok, if◌then◌else◌}
use Rattle.arch_base.specs.Counts.{Rose}
use Rattle.arch_base.specs.declared.config.Config.{Config}
use Rattle.edge_io.specs.declared.sink.Sink.{Ghosts as Sink}
use Rattle.edge_io.specs.Coming.{after_first}
use Rattle.edge_io.specs.Phrases.{Says}
use Rattle.edge_io.specs.Scripts.{Arrival}
use Rattle.edge_io.specs.declared.sink.SinkFault.{SinkFault}
use Rattle.disk_model.specs.Disk.{Content}
use Rattle.answer_lines.specs.Lines.{whole_line}
use Rattle.archive_cli.specs.declared.outcome.Outcome.{Outcome}
use Rattle.archive_cli.specs.Loading.{loaded_line}
use Rattle.archive_cli.specs.Program.{RunState, NoneFailed, JobEnds, MessageActs, IsSilent, IsInput, input_limit, message_of, PlaysPart, Replays, PlaysShort}
use Rattle.edge_io.specs.Left.{before, IsUsedUp}
use Rattle.archive_cli.specs.Serving.{ServeRun, run_line, run_status}
use Rattle.archive_cli.specs.Statuses.{code_of}
use Rattle.archive_cli.specs.declared.status.Status.{Status}
use Rattle.archive_cli.specs.declared.status.Status.TheVariants as exit
use Rattle.archive_cli.specs.Turns.{Transcript}
use Rattle.archive_cli.specs.declared.playing.Played.{Played}
use Rattle.archive_cli.specs.declared.playing.Played.TheVariants.{Whole, Cut}
use Rattle.archive_cli.specs.declared.reading.Piece.{Piece}
use Rattle.archive_cli.specs.declared.reading.Piece.TheVariants.{End, More}
use Rattle.archive_cli.specs.declared.reading.InputRefusal.{InputRefusal}
use Rattle.archive_cli.specs.declared.reading.InputRefusal.TheVariants.{Fault, TooLong, NoMemory}

-- Something was due, with a status. It was printed whole, and that is the status, or the output
-- failed.
pub record Printed (due : Status → List ℕ → Type 0) (status : Status) (out : Option (List ℕ))
    (lost : ℕ) (out' : Option (List ℕ)) (lost' : ℕ) : Type 0 where
  pub due_status : Status
  pub words : List ℕ
  pub is_due : due due_status words
  pub sent : Result Unit SinkFault
  pub said : Says words out lost out' lost' sent
  pub status_is : status ≡ (if is_ok sent then due_status else exit.Edges)

-- The same, said of the sink.
abbrev pub PrintedTo : {O : Type 0} → Sink O → (Status → List ℕ → Type 0) → Status → O → O → Type 0
PrintedTo o due status old new =
    Printed due status (o.taken old) (o.faults old) (o.taken new) (o.faults new)

-- These words are due, with this status.
pub record Exactly (words : List ℕ) (status due_status : Status) (printed : List ℕ) : Type 0 where
  pub status_is : due_status ≡ status
  pub words_is : printed ≡ words

-- What a script on an input is due to print, over an archive with these settings.
abbrev pub IsReplayDue : Config → List ℕ → Status → List ℕ → Type 0
IsReplayDue config input status printed = Replays config input status printed
    ⊎ PlaysShort config input status printed

-- What a load is due to print: the line of its archive, or that memory ran out.
abbrev pub IsLoadDue : ℕ → ℕ → Status → List ℕ → Type 0
IsLoadDue count seed status printed =
    Exactly (whole_line (loaded_line count seed)) exit.Done status printed
    ⊎ Exactly (whole_line (codes "12 no memory")) exit.Memory status printed

-- What was played of a script, with this text and these events, over an empty archive with these
-- settings.
abbrev pub IsPlayedAs : Config → List ℕ → List Arrival → Played → Type 0
IsPlayedAs config text arrivals (Whole frames) = Transcript config arrivals frames
IsPlayedAs config text arrivals (Cut frames) = (frames ≡ []) ⊎ PlaysPart config text frames

-- One more piece of the input was appended, and the bytes are at most `most`; or none remains; or
-- the source failed; or memory ran out for a piece, which was taken all the same. The count of faults
-- stays unless the source failed.
abbrev pub IsPieceRead : ℕ → Result Piece InputRefusal → Option (List ℕ) → Option (List ℕ) → List ℕ
    → List ℕ → ℕ → ℕ → Type 0
IsPieceRead most (Ok End) left left' bytes bytes' faults faults' = (left ≡ left') × IsUsedUp left'
    × (bytes' ≡ bytes) × (faults' ≡ faults)
IsPieceRead most (Ok More) left left' bytes bytes' faults faults' =
    (piece : List ℕ) × (left ≡ before piece left') × (bytes' ≡ bytes ++ piece) × (0 < length piece)
    × (length bytes + length piece ≤ most) × (faults' ≡ faults)
IsPieceRead most (Err Fault) left left' bytes bytes' faults faults' = (left' ≡ left)
    × Rose faults faults'
IsPieceRead most (Err TooLong) left left' bytes bytes' faults faults' = ⊥
IsPieceRead most (Err NoMemory) left left' bytes bytes' faults faults' =
    (piece : List ℕ) × (left ≡ before piece left') × (length bytes + length piece ≤ most)
    × (faults' ≡ faults)

-- The first `most` bytes of the input were read, or all of it; or the source failed. Memory may run
-- out at any time. The count of faults stays unless the source failed.
abbrev pub IsFrontRead : ℕ → Option (List ℕ) → ℕ → Result (List ℕ) InputRefusal → ℕ → Type 0
IsFrontRead most left faults (Ok bytes) faults' =
    ((input : List ℕ) × IsInput left input × (bytes ≡ take most input)) × (faults' ≡ faults)
IsFrontRead most left faults (Err TooLong) faults' = ⊥
IsFrontRead most left faults (Err Fault) faults' = Rose faults faults'
IsFrontRead most left faults (Err NoMemory) faults' = faults' ≡ faults

-- The whole input was read, or it is too long, or the source failed. Memory may run out at any
-- time. The count of faults stays unless the source failed.
abbrev pub IsInputRead : Option (List ℕ) → ℕ → Result (List ℕ) InputRefusal → ℕ → Type 0
IsInputRead left faults (Ok bytes) faults' = IsInput left bytes × (length bytes ≤ input_limit)
    × (faults' ≡ faults)
IsInputRead left faults (Err TooLong) faults' = (input : List ℕ) × IsInput left input
    × (input_limit < length input) × (faults' ≡ faults)
IsInputRead left faults (Err Fault) faults' = Rose faults faults'
IsInputRead left faults (Err NoMemory) faults' = faults' ≡ faults

-- A script on the input was run, and the input didn't fail: what was due is printed. Or the input
-- failed and nothing is printed.
abbrev pub Replayed : Config → Status → RunState → RunState → Type 0
Replayed config status i j =
    ((input : List ℕ) × IsInput i.left input × (j.unread ≡ i.unread)
    × Printed (IsReplayDue config input) status i.taken i.lost j.taken j.lost)
    ⊎ ((status ≡ exit.Edges) × Rose i.unread j.unread × (j.taken ≡ i.taken) × (j.lost ≡ i.lost))

-- The clock failed: nothing was printed, and the disk is unchanged. The input didn't fail.
abbrev pub MissesMoment : Status → RunState → RunState → Type 0
MissesMoment status i j = IsSilent status i j × Rose i.missed j.missed × (j.unread ≡ i.unread)

-- A job over the disk at the clock's moment: what was due by what it did is printed, or the clock
-- failed.
abbrev pub JobDone : (ℕ → Option Content → Option Content → Outcome → Type 0) → Status → RunState
    → RunState → Type 0
JobDone did status i j = Printed (JobEnds did after_first i j) status i.taken i.lost j.taken j.lost
    ⊎ MissesMoment status i j

-- The message was not read, because memory ran out. No device failed, and the clock wasn't asked.
pub record IsInputUnread (i j : RunState) (status : Status) (printed : List ℕ) : Type 0 where
  pub status_is : status ≡ exit.Memory
  pub printed_is : printed ≡ whole_line (codes "12 no memory")
  pub kept : j.content ≡ i.content
  pub spared : NoneFailed i j

-- The message on the input was to be delivered, or to take the place of a number: what was due is
-- printed, or the message was not read, or the input failed. The last two leave the clock.
abbrev pub InputDone : Option ℕ → Status → RunState → RunState → Type 0
InputDone place status i j =
    ((input : List ℕ) × IsInput i.left input
    × JobDone (MessageActs place (message_of input)) status i j)
    ⊎ (Printed (IsInputUnread i j) status i.taken i.lost j.taken j.lost
    ⊎ (IsSilent status i j × Rose i.unread j.unread × (j.missed ≡ i.missed)))

-- What is due of a run of `serve` was printed, or the output failed; and this is the number of the
-- status.
abbrev pub RunPrinted : {O : Type 0} → Sink O → ServeRun → ℕ → O → O → Type 0
RunPrinted o run code old new = (status : Status) × (code ≡ code_of status)
    × PrintedTo o (Exactly (run_line run) (run_status run)) status old new
