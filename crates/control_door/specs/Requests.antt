-- The front of the bytes of a control connection.
use Rattle.std.specs.Prelude.{ℕ, Bool, true, false, nat_le, List, [], length, take, drop, if◌then◌else◌}
use Rattle.line_door.specs.Lines as line
use Rattle.control_door.specs.Orders.{order_of}
use Rattle.control_door.specs.declared.order.Order.{Order}
use Rattle.control_door.specs.declared.order.Order.TheVariants.{Deliver, TooMuch, Show, Remove, Purge, Edit, Thread, Epochs, Reindex, Quit, Bad}

-- A whole request: a message to deliver, a number to show, to remove or to purge, a number and the message
-- in its place, a number whose thread to show, the list of epochs, a reindexing, the end, a line that
-- is not an order, or a line that is too long or announces too much, after which the door closes.
pub data Request : Type 0 where
  Delivers : List ℕ → Request
  Shows : ℕ → Request
  Removes : ℕ → Request
  Purges : ℕ → Request
  Edits : ℕ → List ℕ → Request
  Threads : ℕ → Request
  Lists : Request
  Reindexes : Request
  Quits : Request
  Mistakes : Request
  Exceeds : Request

-- A whole request and the bytes after it, or the beginning of a request.
pub data Ahead : Type 0 where
  Asked : Request → List ℕ → Ahead
  Unfinished : Ahead

-- The request of an order that these bytes follow. `deliver SIZE` and `edit N SIZE` are whole once their
-- SIZE bytes are there.
abbrev pub asked_by : Order → List ℕ → Ahead
asked_by (Deliver size) rest = if nat_le size (length rest)
    then Asked (Delivers (take size rest)) (drop size rest) else Unfinished
asked_by TooMuch rest = Asked Exceeds rest
asked_by (Show number) rest = Asked (Shows number) rest
asked_by (Remove number) rest = Asked (Removes number) rest
asked_by (Purge number) rest = Asked (Purges number) rest
asked_by (Edit number size) rest = if nat_le size (length rest)
    then Asked (Edits number (take size rest)) (drop size rest) else Unfinished
asked_by (Thread number) rest = Asked (Threads number) rest
asked_by Epochs rest = Asked Lists rest
asked_by Reindex rest = Asked Reindexes rest
asked_by Quit rest = Asked Quits rest
asked_by Bad rest = Asked Mistakes rest

-- The request of the line at the front.
abbrev pub asked_at : line.LineFront → Ahead
asked_at (line.Whole text rest) = asked_by (order_of (line.content text)) rest
asked_at line.Long = Asked Exceeds []
asked_at line.Partial = Unfinished

-- The greatest length of a line with its line end, in octets.
abbrev pub line_limit : ℕ
line_limit = 512

-- The front of these bytes.
abbrev pub ahead : List ℕ → Ahead
ahead bytes = asked_at (line.front line_limit bytes)

-- The front is a whole request.
abbrev pub is_asked : Ahead → Bool
is_asked (Asked request rest) = true
is_asked Unfinished = false

-- The bytes start with a whole request.
abbrev pub is_request : List ℕ → Bool
is_request bytes = is_asked (ahead bytes)
