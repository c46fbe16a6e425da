-- What a session holds between pieces, the front of its bytes, and its acts.
use Rattle.std.specs.Prelude.{◌≡◌, ◌+◌, ◌<◌, ◌≤◌, ℕ, Bool, true, false, List, ◌++◌, length, drop, Option, Some, None}
use Rattle.line_door.specs.Lines as line
use Rattle.line_door.specs.Acts.{ConnectionState, Departure, Acts, held_if}
use Rattle.line_door.specs.Course.{talk}
use Rattle.keep_course.specs.Answering as answering
use Rattle.keep_course.specs.Courses.{SessionRunLeft}
use Rattle.arch_model.specs.Archives.{Archive}
use Rattle.arch_model.specs.Keeping.{MatchesKnown, KeeperMoves, Keeper}
use Rattle.arch_model.specs.Standing.{LastKnown, standing}
use Rattle.arch_model.specs.declared.command.Command.{Command}
use Rattle.arch_model.specs.declared.command.Command.TheVariants.{Deliver, Remove, Purge, Edit}
use Rattle.control_door.specs.Orders.{order_of}
use Rattle.control_door.specs.Requests.{Request, Delivers, Shows, Removes, Purges, Edits, Threads, Lists, Reindexes, Quits, Mistakes, Exceeds, Asked, ahead, line_limit, is_request}
use Rattle.control_door.specs.Door.{Waiting, waiting, said, said_to, said_opening, keeper_asked, asks, control_at}
use Rattle.control_door.specs.declared.order.Order.{Order}
use Rattle.control_door.specs.declared.order.Order.TheVariants as order
use Rattle.control_door.specs.declared.front.Aim.{Aim}
use Rattle.control_door.specs.declared.front.Aim.TheVariants.{New, InPlaceOf}
use Rattle.control_door.specs.declared.front.Payload.{Payload}
use Rattle.control_door.specs.declared.front.Requested.{Requested}
use Rattle.control_door.specs.declared.front.Requested.TheVariants as requested
use Rattle.control_door.specs.declared.front.Front.{Front}
use Rattle.control_door.specs.declared.front.Front.TheVariants as found
use Rattle.control_door.specs.declared.session.Act.{Act}
use Rattle.control_door.specs.declared.session.Act.TheVariants.{Opened, Went, Kept, Closed}

-- The order that announces a message with an aim, of this size.
abbrev pub order_with : Aim → ℕ → Order
order_with New size = order.Deliver size
order_with (InPlaceOf number) size = order.Edit number size

-- The bytes are the beginning of a delivery or an edit whose message starts at `start` and ends at
-- `end`.
pub record IsPayload (bytes : List ℕ) (aim : Aim) (start end : ℕ) : Type 0 where
  pub text : List ℕ
  pub rest : List ℕ
  pub size : ℕ
  pub front : line.front line_limit bytes ≡ line.Whole text rest
  pub order : order_of (line.content text) ≡ order_with aim size
  pub starts : start ≡ length text + 1
  pub ends : end ≡ start + size
  pub missing : length bytes < end

-- What is held is a part of a line, or the beginning of a delivery or an edit.
abbrev pub IsHeldRequest : List ℕ → Option Payload → Type 0
IsHeldRequest bytes None = line.front line_limit bytes ≡ line.Partial
IsHeldRequest bytes (Some payload) = IsPayload bytes payload.aim payload.start payload.end

-- The request for a command.
abbrev pub request_for : Command → Request
request_for (Deliver bytes) = Delivers bytes.now
request_for (Remove number) = Removes number
request_for (Purge number) = Purges number
request_for (Edit number bytes) = Edits number bytes.now

-- The request of a message with an aim.
abbrev pub request_with : Aim → List ℕ → Request
request_with New message = Delivers message
request_with (InPlaceOf number) message = Edits number message

-- The request that was found, given what is held.
abbrev pub request_of : List ℕ → Requested → Request
request_of held (requested.Message aim message) = request_with aim message.now
request_of held (requested.Joined aim start last) =
    request_with aim (drop start (held ++ last.now))
request_of held (requested.Text number) = Shows number
request_of held (requested.Removal number) = Removes number
request_of held (requested.Purge number) = Purges number
request_of held (requested.Thread number) = Threads number
request_of held requested.Epochs = Lists
request_of held requested.Reindexing = Reindexes
request_of held requested.Quit = Quits
request_of held requested.Mistake = Mistakes
request_of held requested.Excess = Exceeds

-- A message of which a part is held starts within what is held.
abbrev pub StartsWithin : List ℕ → Requested → Type 0
StartsWithin held (requested.Joined aim start last) = start ≤ length held
StartsWithin held other = Unit {0}

-- A whole request is at the front, and takes `taken` bytes of the piece.
pub record IsRequested (held piece : List ℕ) (request : Requested) (taken : ℕ) : Type 0 where
  pub some : 0 < taken
  pub within : taken ≤ length piece
  pub starts : StartsWithin held request
  pub stands : ahead (held ++ piece) ≡ Asked (request_of held request) (drop taken piece)

-- The front is the beginning of a request, or a whole one.
abbrev pub IsRequestFront : List ℕ → List ℕ → Front → Type 0
IsRequestFront held piece (found.Rest payload) = IsHeldRequest (held ++ piece) payload
IsRequestFront held piece (found.Whole request taken) = IsRequested held piece request taken

-- One act on the bytes at the front, given whether the archive was already reopened. It is the
-- reopening, or a request that took `n` bytes of the piece and left the session open, or the
-- keeping of the piece, or the close.
abbrev pub IsControlAct : ℕ → Bool → LastKnown → List ℕ → List ℕ → ConnectionState → Act → LastKnown → List ℕ
    → ConnectionState → Type 0
IsControlAct moment opened s old piece i Opened t new j =
    (is_request (old ++ piece) ≡ true) × Acts (said moment s (waiting (old ++ piece) opened)) i
    (Some (waiting (new ++ piece) true)) t j
IsControlAct moment opened s old piece i (Went n) t new j =
    (is_request (old ++ piece) ≡ true) × Acts (said moment s (waiting (old ++ piece) opened)) i
    (Some (waiting (new ++ drop n piece) false)) t j
IsControlAct moment opened s old piece i Kept t new j =
    (is_request (old ++ piece) ≡ false) × (j.disk ≡ i.disk)
    × Acts (said moment s (waiting (old ++ piece) opened)) i (Some (waiting new opened)) t j
IsControlAct moment opened s old piece i Closed t new j =
    Acts (said moment s (waiting (old ++ piece) opened)) i None t j

-- The session that an act leaves, if it is open.
abbrev pub left_by_act : Bool → List ℕ → Act → List ℕ → Option Waiting
left_by_act opened piece Opened new = Some (waiting (new ++ piece) true)
left_by_act opened piece (Went n) new = Some (waiting (new ++ drop n piece) false)
left_by_act opened piece Kept new = Some (waiting new opened)
left_by_act opened piece Closed new = None

-- A reopening comes only if there was none yet, and a request takes bytes of the piece.
abbrev pub TakesRequest : Bool → List ℕ → Act → Type 0
TakesRequest opened piece Opened = opened ≡ false
TakesRequest opened piece (Went n) = (0 < n) × (n ≤ length piece)
TakesRequest opened piece Kept = Unit {0}
TakesRequest opened piece Closed = Unit {0}

module _ {K : Type 0} (g : Keeper K) where
  -- Whichever archive is held, a request to it is answered, and the keeper matches the archive after
  -- it, and did what the request asks.
  abbrev pub AnswersRequest : ℕ → Request → K → ConnectionState → Bool → K → ConnectionState → Type 0
  AnswersRequest moment request old i goes_on new j = answering.ActsOnArchive g
      (λ (a : Archive) (rest : List ℕ) (way : Departure). said_to moment (standing a None) request rest way)
      (λ (rest : List ℕ). waiting rest false) moment
      (λ (a : Archive). keeper_asked (standing a None) request) old i goes_on new j

  -- Whatever the keeper matches, it is reopened, or reopening is refused.
  abbrev pub ReopensForCommand : K → ConnectionState → Bool → K → ConnectionState → Type 0
  ReopensForCommand old i opened new j = answering.ReopensBy g
      (λ (s : LastKnown) (bytes : List ℕ) (way : Departure). said_opening s bytes way)
      (λ (bytes : List ℕ). waiting bytes true) old i opened new j

  -- Whatever the keeper matches, one act is done, and the keeper matches what the act leaves, and did
  -- what the act asks.
  abbrev pub ControlActs : ℕ → Bool → List ℕ → List ℕ → K → ConnectionState → Act → List ℕ → K
      → ConnectionState → Type 0
  ControlActs moment opened held piece old i turn left new j =
      (s : LastKnown) → MatchesKnown g old s → (t : LastKnown)
      × KeeperMoves g old s new t
      × IsControlAct moment opened s held piece i turn t left j
      × answering.DoesAsked g moment (asks s (waiting (held ++ piece) opened))
      (said moment s (waiting (held ++ piece) opened)) old s i
      (left_by_act opened piece turn left) new t j

  -- Whatever the keeper matches, these bytes of a session are answered by a course, and the keeper matches
  -- what that leaves. A crash since the start leaves an archive of one of its talks, or one in doubt
  -- there.
  abbrev pub AnswersCommands : ℕ → List ℕ → K → ConnectionState → Bool → List ℕ → K → ConnectionState → Type 0
  AnswersCommands moment bytes old i goes_on left new j =
      (s : LastKnown) → MatchesKnown g old s → (t : LastKnown) × (opened : Bool)
      × MatchesKnown g new t
      × SessionRunLeft g (control_at moment) old new
      (talk (Some (waiting bytes true)) s i)
      (talk (held_if goes_on (waiting left opened)) t j)
