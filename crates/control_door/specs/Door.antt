-- What the control door answers. Its session is the bytes that are not answered yet, and its
-- requests read and change an archive.
use Rattle.std.specs.Prelude.{◌+◌, ◌*◌, ℕ, zero, suc, Bool, true, false, List, [], ◌∷◌, ◌++◌, length, codes, decimal, Option, Some, None, if◌then◌else◌}
use Rattle.arch_base.specs.declared.ids.Form.{Form}
use Rattle.line_door.specs.Acts.{Said, Departure}
use Rattle.line_door.specs.Making.{says, closes, in_ways}
use Rattle.line_door.specs.Plain.{silent}
use Rattle.disk_model.specs.Sizes.{epoch_count}
use Rattle.arch_model.specs.Archives.{Entry, live, text_of, in_epoch}
use Rattle.arch_model.specs.Epochs.{epoch_bytes}
use Rattle.arch_model.specs.Delivery.{Done, delivered, removed, purged, edited, answer_line}
use Rattle.arch_model.specs.Standing.{LastKnown, standing, unsure}
use Rattle.answer_lines.specs.Lines.{whole_line, memory_word, disk_word, unopened_words}
use Rattle.keep_course.specs.Answering.{KeeperAsked, AsksNoDisk, AsksReading, AsksReopening, AsksReindexing, AsksCommand, AsksDelivery, AsksRemoval, AsksPurge, AsksEdit, said_reopening}
use Rattle.keep_course.specs.Courses.{KeeperDoor}
use Rattle.keep_course.specs.declared.refusal.Refusal.{Refusal}
use Rattle.keep_course.specs.declared.refusal.Refusal.TheVariants as refused
use Rattle.shelf_trees.specs.Twigs.{thread_twigs}
use Rattle.thread_tree.specs.Laid.{tree_lines}
use Rattle.control_door.specs.Threads.{tree_words}
use Rattle.control_door.specs.Requests.{Request, Delivers, Shows, Removes, Purges, Edits, Threads, Lists, Reindexes, Quits, Mistakes, Exceeds, Ahead, Asked, Unfinished, ahead, is_request}

-- The word for a line that is not an order, or that is too long.
abbrev pub bad_word : List ℕ
bad_word = whole_line (codes "13 bad line")

-- Why a connection is refused.
abbrev pub refusal_words : Refusal → List ℕ
refusal_words refused.Busy = whole_line (codes "14 busy")
refusal_words refused.NoMemory = memory_word
refusal_words (refused.Unopened why) = unopened_words why

-- A line with the length of the text, and then the text; or a line that the number is not live.
abbrev pub shown : ℕ → Option (List ℕ) → List ℕ
shown number None = whole_line (codes "7 not live " ++ decimal number)
shown number (Some text) = whole_line (codes "text " ++ decimal (length text)) ++ text

-- The tree of the thread of a number, if it has a text; or a line that the number is not live.
abbrev pub threaded : List Entry → ℕ → Option (List ℕ) → List ℕ
threaded es number None = shown number None
threaded es number (Some text) = tree_words es (tree_lines (thread_twigs es number))

-- An epoch: a line with its number and the length of its bytes, and then the bytes and a line feed.
abbrev pub epoch_words : ℕ → List ℕ → List ℕ
epoch_words epoch bytes = whole_line (codes "epoch "
    ++ (decimal epoch ++ 32 ∷ decimal (length bytes))) ++ whole_line bytes

-- The words of an epoch of a form. One without an entry has none.
abbrev pub listed : Form → ℕ → List Entry → List ℕ
listed form epoch [] = []
listed form epoch (e ∷ es) = epoch_words epoch (epoch_bytes form (e ∷ es))

-- The words of the epochs with numbers below the given one, in order.
abbrev pub listed_below : Form → ℕ → List Entry → List ℕ
listed_below form zero entries = []
listed_below form (suc epoch) entries =
    listed_below form epoch entries ++ listed form epoch (in_epoch entries epoch)

-- The words of all epochs, 0 to 63, in order, and a last line.
abbrev pub epochs_words : Form → List Entry → List ℕ
epochs_words form entries = listed_below form epoch_count entries ++ whole_line (codes "end")

-- The line of a reindexing: how many messages are live.
abbrev pub reindexed_words : ℕ → List ℕ
reindexed_words live = whole_line (codes "reindexed " ++ decimal live)

-- A session: its bytes that are not answered yet, and whether the archive was reopened since the
-- last request. It is reopened before a request, which does nothing while no command is in doubt.
pub record Waiting : Type 0 where
  pub bytes : List ℕ
  pub opened : Bool

-- The session of these two parts.
abbrev pub waiting : List ℕ → Bool → Waiting
waiting bytes opened = record { bytes = bytes; opened = opened }

-- What an act of a session says, and the session and the archive after it.
abbrev pub ControlSays : Type 0
ControlSays = Said Waiting LastKnown

-- The session continues with these bytes.
abbrev pub goes_on : List ℕ → List ℕ → LastKnown → ControlSays
goes_on rest words s = says s (waiting rest false) words

-- The line of a command's answer, and its archive.
abbrev pub carries_out : Done → List ℕ → ControlSays
carries_out done rest =
    goes_on rest (whole_line (answer_line done.answer)) (standing done.archive None)

-- The disk's word, and the archive that the command would have left is in doubt.
abbrev pub doubts : LastKnown → Done → List ℕ → ControlSays
doubts s done rest = goes_on rest disk_word (standing s.archive (Some done.archive))

-- The answer to a request at a moment, by the rules.
abbrev pub answered : ℕ → LastKnown → Request → List ℕ → ControlSays
answered moment s (Delivers message) rest = carries_out (delivered s.archive message moment) rest
answered moment s (Shows number) rest =
    goes_on rest (shown number (text_of (live s.archive.entries) number)) s
answered moment s (Removes number) rest = carries_out (removed s.archive number moment) rest
answered moment s (Purges number) rest = carries_out (purged s.archive number) rest
answered moment s (Edits number message) rest =
    carries_out (edited s.archive number message moment) rest
answered moment s (Threads number) rest = goes_on rest
    (threaded (live s.archive.entries) number (text_of (live s.archive.entries) number)) s
answered moment s Lists rest =
    goes_on rest (epochs_words s.archive.config.form s.archive.entries) s
answered moment s Reindexes rest =
    goes_on rest (reindexed_words (length (live s.archive.entries))) s
answered moment s Quits rest = closes s []
answered moment s Mistakes rest = goes_on rest bad_word s
answered moment s Exceeds rest = closes s bad_word

-- The answer to a request that runs out of memory. A command and a reindexing leave the archive
-- unchanged, and a text, a tree or a list of epochs is said whole or not at all. Other requests need
-- no memory.
abbrev pub refused_memory : ℕ → LastKnown → Request → List ℕ → ControlSays
refused_memory moment s Quits rest = answered moment s Quits rest
refused_memory moment s Mistakes rest = answered moment s Mistakes rest
refused_memory moment s Exceeds rest = answered moment s Exceeds rest
refused_memory moment s other rest = goes_on rest memory_word s

-- The answer to a request at which the disk fails. It is then in doubt whether a command was
-- carried out. A text or a list of epochs is said whole or not at all, and a reindexing leaves the
-- archives that were there, in doubt. Other requests don't use the disk.
abbrev pub refused_disk : ℕ → LastKnown → Request → List ℕ → ControlSays
refused_disk moment s (Delivers message) rest = doubts s (delivered s.archive message moment) rest
refused_disk moment s (Shows number) rest = goes_on rest disk_word s
refused_disk moment s (Removes number) rest = doubts s (removed s.archive number moment) rest
refused_disk moment s (Purges number) rest = doubts s (purged s.archive number) rest
refused_disk moment s (Edits number message) rest =
    doubts s (edited s.archive number message moment) rest
refused_disk moment s (Threads number) rest = answered moment s (Threads number) rest
refused_disk moment s Lists rest = goes_on rest disk_word s
refused_disk moment s Reindexes rest = goes_on rest disk_word (unsure s)
refused_disk moment s Quits rest = answered moment s Quits rest
refused_disk moment s Mistakes rest = answered moment s Mistakes rest
refused_disk moment s Exceeds rest = answered moment s Exceeds rest

-- The answer to a request in each way.
abbrev pub said_to : ℕ → LastKnown → Request → List ℕ → Departure → ControlSays
said_to moment s request rest way = in_ways (answered moment s request rest)
    (refused_memory moment s request rest) (refused_disk moment s request rest) way

-- Reopening finds the older archive or the one in doubt, or it closes the session because memory
-- ran out or the disk failed.
abbrev pub said_opening : LastKnown → List ℕ → Departure → ControlSays
said_opening s bytes way = said_reopening unopened_words s (waiting bytes true) way

-- Out of memory for the beginning of a request, the session is closed with a word. An empty rest
-- needs no memory.
abbrev pub unkept : LastKnown → Waiting → List ℕ → ControlSays
unkept s w [] = silent s w
unkept s w (byte ∷ bytes) = closes s memory_word

-- The beginning of a request is kept without a word, or memory runs out.
abbrev pub said_keeping : LastKnown → Waiting → Departure → ControlSays
said_keeping s w way = in_ways (silent s w) (unkept s w w.bytes) (silent s w) way

-- At a whole request the archive is reopened, and then the request is answered.
abbrev pub said_asked : Bool → ℕ → LastKnown → List ℕ → Request → List ℕ → Departure → ControlSays
said_asked true moment s bytes request rest way = said_to moment s request rest way
said_asked false moment s bytes request rest way = said_opening s bytes way

-- What is said to what is at the front of a session.
abbrev pub said_at : ℕ → LastKnown → Waiting → Ahead → Departure → ControlSays
said_at moment s w (Asked request rest) way = said_asked w.opened moment s w.bytes request rest way
said_at moment s w Unfinished way = said_keeping s w way

-- What the door says to a session at a moment.
abbrev pub said : ℕ → LastKnown → Waiting → Departure → ControlSays
said moment s w way = said_at moment s w (ahead w.bytes) way

-- The session starts with a whole request.
abbrev pub has_request : Waiting → Bool
has_request w = is_request w.bytes

-- What `show` asks of the keeper: to read, if the number has a text.
abbrev pub asked_to_show : Option (List ℕ) → KeeperAsked
asked_to_show None = AsksNoDisk
asked_to_show (Some text) = AsksReading

-- What a request asks of the keeper of an archive.
abbrev pub keeper_asked : LastKnown → Request → KeeperAsked
keeper_asked s (Delivers message) = AsksCommand (AsksDelivery message)
keeper_asked s (Shows number) = asked_to_show (text_of (live s.archive.entries) number)
keeper_asked s (Removes number) = AsksCommand (AsksRemoval number)
keeper_asked s (Purges number) = AsksCommand (AsksPurge number)
keeper_asked s (Edits number message) = AsksCommand (AsksEdit number message)
keeper_asked s Lists = AsksReading
keeper_asked s Reindexes = AsksReindexing
keeper_asked s other = AsksNoDisk

-- What is asked of it at what is at the front of a session: before each request it is reopened.
abbrev pub keeper_asked_at : Bool → LastKnown → Ahead → KeeperAsked
keeper_asked_at true s (Asked request rest) = keeper_asked s request
keeper_asked_at false s (Asked request rest) = AsksReopening
keeper_asked_at opened s Unfinished = AsksNoDisk

-- What an act of a session asks of the keeper.
abbrev pub asks : LastKnown → Waiting → KeeperAsked
asks s w = keeper_asked_at w.opened s (ahead w.bytes)

-- The door at a moment.
abbrev pub control_at : ℕ → KeeperDoor Waiting
control_at moment = record {
  said = said moment;
  is_request = has_request;
  asks = asks;
  moment = moment;
}

-- The session with a piece after its bytes.
abbrev pub with_piece : List ℕ → Waiting → Waiting
with_piece piece w = waiting (w.bytes ++ piece) w.opened

-- The size of a session. Each request makes it smaller, and so does the reopening before one.
abbrev pub left : Waiting → ℕ
left w = 2 * length w.bytes + (if w.opened then 0 else 1)
