-- Where the sessions of the code stand, and their acts.
use Rattle.std.specs.Prelude.{◌≡◌, ◌⊎◌, ◌≤◌, ◌<◌, ◌+◌, ℕ, Bool, true, false, List, [], length, drop, Option, Some, None}
use Rattle.line_door.specs.Acts.{ConnectionState, Acts, held_if}
use Rattle.arch_model.specs.Archives.{Archive}
use Rattle.arch_model.specs.Keeping.{MatchesKnown, KeeperMoves, Keeper}
use Rattle.arch_model.specs.Standing.{LastKnown}
use Rattle.keep_course.specs.Answering.{DoesAsked}
use Rattle.lmtp_data.specs.Readings.{DataReading, Finished, Unfinished, data_limit, read_on}
use Rattle.lmtp_door.specs.Commands.{command_of}
use Rattle.lmtp_door.specs.Courses.{at_work}
use Rattle.lmtp_door.specs.Door.{Guest, guest, said, said_order, has_request, asks, kept, recipients, given_to}
use Rattle.lmtp_door.specs.Phases.{LmtpPhase, Ungreeted, Greeted, Mailing, Receiving, Giving, replies, replied, starved, data_reply, starved_data}
use Rattle.lmtp_door.specs.declared.notice.LmtpNotice.{LmtpNotice}
use Rattle.lmtp_door.specs.declared.order.LmtpOrder.{LmtpOrder}
use Rattle.lmtp_door.specs.declared.stage.LmtpStage.{LmtpStage}
use Rattle.lmtp_door.specs.declared.stage.LmtpStage.TheVariants as stage
use Rattle.lmtp_door.specs.declared.stage.LmtpWork.{LmtpWork}
use Rattle.lmtp_door.specs.declared.stage.LmtpWork.TheVariants as work
use Rattle.lmtp_door.specs.declared.session.LmtpAct.{LmtpAct}
use Rattle.lmtp_door.specs.declared.session.LmtpAct.TheVariants as act

-- Where a session stands in the data, given whether that has ended.
abbrev pub data_phase : Bool → ℕ → DataReading → LmtpPhase
data_phase true left r = Giving left r.text r.count
data_phase false left r = Receiving left r

-- Where a session stands.
abbrev pub phase_of : LmtpStage → LmtpPhase
phase_of stage.Ungreeted = Ungreeted
phase_of stage.Greeted = Greeted
phase_of (stage.Mailing n) = Mailing n
phase_of (stage.Transferring t) = data_phase t.ended t.left t.reader

-- What a session does with the bytes that come next.
abbrev pub work_in : LmtpPhase → LmtpWork
work_in Ungreeted = work.ReadsLines
work_in Greeted = work.ReadsLines
work_in (Mailing n) = work.ReadsLines
work_in (Receiving n r) = work.ReadsData
work_in (Giving n text count) = work.AnswersRecipient

-- Only a session that reads lines holds bytes.
abbrev pub HoldsFor : LmtpWork → List ℕ → Type 0
HoldsFor work.ReadsLines held = Unit {0}
HoldsFor work.ReadsData held = held ≡ []
HoldsFor work.AnswersRecipient held = held ≡ []

-- A command was answered with this notice, by the table or out of memory.
abbrev pub IsTurn : LmtpPhase → LmtpOrder → LmtpNotice → LmtpPhase → Type 0
IsTurn old asked notice new = (replied old asked ≡ replies notice new)
    ⊎ (starved old asked ≡ replies notice new)

-- The same of DATA.
abbrev pub IsDataTurn : LmtpPhase → LmtpNotice → LmtpPhase → Type 0
IsDataTurn old notice new = (data_reply old ≡ replies notice new)
    ⊎ (starved_data old ≡ replies notice new)

-- A piece of the data was read: it goes on, or it has ended after `n` bytes of the piece.
abbrev pub ReadsPhase : LmtpPhase → List ℕ → Option ℕ → LmtpPhase → Type 0
ReadsPhase (Receiving left r) piece None new = (after : DataReading)
    × (read_on data_limit r piece ≡ Unfinished after) × (new ≡ Receiving left after)
ReadsPhase (Receiving left r) piece (Some n) new = (text : List ℕ) × (count : ℕ)
    × (n ≤ length piece) × (read_on data_limit r piece ≡ Finished text count (drop n piece))
    × (new ≡ Giving left text count)
ReadsPhase other piece used new = Unit {0}

-- How many recipients there are after the next one.
abbrev pub left_in : LmtpPhase → ℕ
left_in (Giving left text count) = left
left_in other = 0

-- The octets that are kept of data that has ended.
abbrev pub text_in : LmtpPhase → List ℕ
text_in (Giving left text count) = text
text_in other = []

-- How many octets data that has ended has.
abbrev pub count_in : LmtpPhase → ℕ
count_in (Giving left text count) = count
count_in other = 0

-- The data is given to a recipient and so many more.
abbrev pub giving_to : ℕ → LmtpPhase → LmtpPhase
giving_to n phase = Giving n (text_in phase) (count_in phase)

-- Where a session stands after a recipient was answered.
abbrev pub phase_after : LmtpPhase → LmtpPhase
phase_after phase = (given_to (left_in phase) (text_in phase) (count_in phase) []).phase

-- One act on the bytes at the front: the archive was reopened before a recipient; a line or data that
-- took `n` bytes of the piece was answered; a recipient was answered; the piece was kept; or the session
-- was closed.
abbrev pub IsLmtpAct : ℕ → Bool → LastKnown → Guest → List ℕ → ConnectionState → LmtpAct → LastKnown
    → Guest → ConnectionState → Type 0
IsLmtpAct moment opened s old piece i act.Opened t new j =
    (has_request (at_work old piece opened) ≡ true)
    × Acts (said moment s (at_work old piece opened)) i (Some (at_work new piece true)) t j
IsLmtpAct moment opened s old piece i (act.Went n) t new j =
    (has_request (at_work old piece opened) ≡ true)
    × Acts (said moment s (at_work old piece opened)) i (Some (at_work new (drop n piece) opened)) t j
IsLmtpAct moment opened s old piece i act.Gave t new j =
    (has_request (at_work old piece opened) ≡ true)
    × Acts (said moment s (at_work old piece opened)) i (Some (at_work new piece false)) t j
IsLmtpAct moment opened s old piece i act.Kept t new j =
    (has_request (at_work old piece opened) ≡ false) × (j.disk ≡ i.disk)
    × (new ≡ kept (at_work old piece opened))
    × Acts (said moment s (at_work old piece opened)) i (Some (at_work old piece opened)) t j
IsLmtpAct moment opened s old piece i act.Closed t new j =
    Acts (said moment s (at_work old piece opened)) i None t j

-- The act of a session that read the data in a piece.
abbrev pub went_or_kept : Option ℕ → LmtpAct
went_or_kept None = act.Kept
went_or_kept (Some n) = act.Went n

-- The session that an act leaves, if it is open.
abbrev pub left_by : Bool → Guest → List ℕ → LmtpAct → Guest → Option Guest
left_by opened old piece act.Opened new = Some (at_work new piece true)
left_by opened old piece (act.Went n) new = Some (at_work new (drop n piece) opened)
left_by opened old piece act.Gave new = Some (at_work new piece false)
left_by opened old piece act.Kept new = Some (at_work old piece opened)
left_by opened old piece act.Closed new = None

-- A reply to a line, after which these bytes follow.
abbrev pub IsLineReply : LastKnown → List ℕ → LmtpPhase → Bool → List ℕ → List ℕ → ConnectionState
    → Bool → LmtpPhase → ConnectionState → Type 0
IsLineReply s name old opened line rest i goes_on new j =
    Acts (said_order s old opened (command_of name line) rest) i
    (held_if goes_on (guest new rest opened)) s j

-- An act that leaves the session open makes its work less: it takes bytes, and accepts one recipient at
-- most; or it answers one; or the archive was not reopened before.
abbrev pub TakesWork : Bool → Guest → List ℕ → LmtpAct → Guest → Type 0
TakesWork opened old piece act.Opened new = (opened ≡ false)
    × (recipients new.phase ≡ recipients old.phase)
TakesWork opened old piece (act.Went n) new = (0 < n) × (n ≤ length piece)
    × (recipients new.phase ≤ recipients old.phase + 1)
TakesWork opened old piece act.Gave new = recipients new.phase < recipients old.phase
TakesWork opened old piece act.Kept new = Unit {0}
TakesWork opened old piece act.Closed new = Unit {0}

-- A keeper is ready after a reopening that wasn't refused, and as before after a line or data.
abbrev pub StaysReadyAfter : LmtpAct → Bool → Bool → Type 0
StaysReadyAfter act.Opened before now = now ≡ true
StaysReadyAfter (act.Went n) before now = now ≡ before
StaysReadyAfter act.Gave before now = Unit {0}
StaysReadyAfter act.Kept before now = now ≡ before
StaysReadyAfter act.Closed before now = Unit {0}

-- The archive in doubt, if there is one, has this name.
abbrev pub DoubtHasName : List ℕ → Option Archive → Type 0
DoubtHasName name None = Unit {0}
DoubtHasName name (Some a) = a.config.name ≡ name

-- The archive has this name, and so has the one in doubt.
abbrev pub HasName : List ℕ → LastKnown → Type 0
HasName name s = (s.archive.config.name ≡ name) × DoubtHasName name s.in_doubt

module _ {K : Type 0} (g : Keeper K) where
  -- Whatever the keeper matches, if its archives have this name, one act is done, and the keeper matches
  -- what that leaves, whose archives have the name, too. The act did what it asks of the keeper.
  abbrev pub LmtpActs : ℕ → List ℕ → Bool → Guest → List ℕ → K → ConnectionState → LmtpAct → Guest → K
      → ConnectionState → Type 0
  LmtpActs moment name opened held piece old i turn left new j =
      (s : LastKnown) → MatchesKnown g old s → HasName name s → (t : LastKnown)
      × KeeperMoves g old s new t × HasName name t
      × IsLmtpAct moment opened s held piece i turn t left j
      × DoesAsked g moment (asks s (at_work held piece opened))
      (said moment s (at_work held piece opened)) old s i
      (left_by opened held piece turn left) new t j
