-- The rules of a fetch: what a mirror asks for over the replies of its peer, and where that leads.
use Rattle.std.specs.Prelude.{◌≡◌, ◌+◌, ℕ, Bool, true, false, not, ◌&&◌, ◌||◌, ◌==◌, nat_lt, List, [], ◌∷◌, ◌++◌, length, Option, Some, None, is_some, Result, Ok, Err, if◌then◌else◌}
use Rattle.std.specs.Bool.{MatchBool}
use Rattle.std.specs.Str.{bytes_eq}
use Rattle.arch_base.specs.Ids.{id_eq}
use Rattle.arch_base.specs.declared.ids.Form.{Form}
use Rattle.arch_base.specs.declared.ids.ObjectId.{ObjectId}
use Rattle.git_objects.specs.Objects.{blob_id_of}
use Rattle.mail_reader.specs.Stored.{storage_form}
use Rattle.mail_reader.specs.Ids.{own_id}
use Rattle.mail_commits.specs.Entries.{commit_id}
use Rattle.arch_model.specs.Archives.{Entry, Archive, is_message, in_epoch, live, messages, owner, text_of}
use Rattle.arch_model.specs.Epochs.{last_commit}
use Rattle.arch_model.specs.Shelves.{blob_text}
use Rattle.arch_model.specs.declared.line.EntryLine.{EntryLine}
use Rattle.edge_io.specs.declared.peer.Reply.{Reply}
use Rattle.mirror_wire.specs.declared.list.MirrorList.{MirrorList}
use Rattle.mirror_wire.specs.declared.list.ListRefusal.{ListRefusal}
use Rattle.mirror_wire.specs.declared.list.ListRefusal.TheVariants as list
use Rattle.mirror_wire.specs.Reading.{ReadsList}
use Rattle.fetch_course.specs.declared.answer.FetchAnswer.{FetchAnswer}
use Rattle.fetch_course.specs.declared.answer.FetchAnswer.TheVariants as answer
use Rattle.fetch_course.specs.Peering.{list_path, blob_path}

-- Where the rules lead over some replies: the last path that was asked for has no reply yet; or an answer
-- comes; or all lines of the list are right, and this is their archive.
pub data FetchStage : Type 0 where
  AsksOn : FetchStage
  ComesTo : FetchAnswer → FetchStage
  HoldsAll : Archive → FetchStage

-- What the rules ask for over some replies, in order, and where they lead.
pub record FetchCourse : Type 0 where
  pub asked : List (List ℕ)
  pub stage : FetchStage

-- Nothing more is asked for, and this answer comes.
abbrev pub comes_to : FetchAnswer → FetchCourse
comes_to why = record { asked = []; stage = ComesTo why }

-- A path that gets no reply.
abbrev pub asks_for : List ℕ → FetchCourse
asks_for path = record { asked = path ∷ []; stage = AsksOn }

-- Paths that get replies, followed by the rest of a course.
abbrev pub after_paths : List (List ℕ) → FetchCourse → FetchCourse
after_paths paths course = record { asked = paths ++ course.asked; stage = course.stage }

-- The rest of a course, unless an answer comes before it.
abbrev pub unless : Option FetchAnswer → FetchCourse → FetchCourse
unless None rest = rest
unless (Some why) rest = comes_to why

-- A text is its own storage form, whatever its size.
abbrev pub is_own_form : Option (List ℕ) → List ℕ → Bool
is_own_form None text = false
is_own_form (Some form) text = bytes_eq form text

-- One of some entries has the own id of a text. Without an own id it counts as taken.
abbrev pub is_id_taken : List Entry → Option (List ℕ) → Bool
is_id_taken entries None = true
is_id_taken entries (Some id) = is_some (owner entries id)

-- A text is none for its line after other entries: its size isn't that of the line, it isn't its own
-- storage form, it has no own id, or the line is that of a message and a live entry has the own id.
abbrev pub misfits : List Entry → EntryLine → List ℕ → Bool
misfits before line text =
    not (length text == line.size) || not (is_own_form (storage_form text) text)
    || not (is_some (own_id text)) || (is_message line.kind && is_id_taken (live before) (own_id text))

-- The commit in a form of the entry of a line with a text, after other entries.
abbrev pub commit_on : Form → List Entry → EntryLine → List ℕ → ObjectId
commit_on form before line text =
    commit_id form line.kind text line.secs (last_commit form None (in_epoch before line.epoch))

-- What is wrong with a text for a line after other entries, if anything. The line is this one of the
-- list's text, counted from 1.
abbrev pub wrong_text : Form → ℕ → List Entry → EntryLine → List ℕ → Option FetchAnswer
wrong_text form at before line text =
    if misfits before line text then Some (answer.BadList at)
    else if id_eq (commit_on form before line text) line.commit then None
    else Some (answer.BadCommit line.commit (commit_on form before line text))

-- What is wrong with the reply for a blob, if anything.
abbrev pub wrong_reply : Form → ObjectId → Reply → Option FetchAnswer
wrong_reply form blob reply =
    if reply.status == 404 then Some (answer.Changed blob)
    else if not (reply.status == 200) then Some (answer.BadReply reply.status)
    else if id_eq blob (blob_id_of form reply.body) then None
    else Some (answer.WrongId blob (blob_id_of form reply.body))

-- The first of two options that is there.
abbrev pub first_there : {X : Type 0} → Option X → Option X → Option X
first_there None other = other
first_there (Some x) other = Some x

-- The text with a blob id that needs no reply: that of the mirror's own entries, or that of the entries of
-- earlier lines.
abbrev pub known_text : Form → List Entry → List Entry → ObjectId → Option (List ℕ)
known_text form own before blob = first_there (blob_text form own blob) (blob_text form before blob)

-- The entry that a line of a list and its text stand for.
abbrev pub entry_on : EntryLine → List ℕ → Entry
entry_on line text = record {
  kind = line.kind;
  number = line.number;
  epoch = line.epoch;
  text = text;
  moment = line.secs;
}

-- An archive with the settings of another one, these entries and this next number.
abbrev pub archive_with : Archive → List Entry → ℕ → Archive
archive_with a entries next = record { config = a.config; entries = entries; next = next }

-- One line after other entries in a mirror, by its text if that is known: otherwise the first reply has it,
-- if there is one. With the text the rest of the course goes on, over the other replies.
abbrev pub line_course : Archive → ℕ → List Entry → EntryLine → Option (List ℕ) → List Reply
    → (List Reply → List ℕ → FetchCourse) → FetchCourse
line_course a at before line (Some text) replies rest =
    unless (wrong_text a.config.form at before line text) (rest replies text)
line_course a at before line None [] rest = asks_for (blob_path a.config.name line.blob)
line_course a at before line None (reply ∷ replies) rest =
    after_paths (blob_path a.config.name line.blob ∷ []) (unless
    (wrong_reply a.config.form line.blob reply) (unless
    (wrong_text a.config.form at before line reply.body) (rest replies reply.body)))

-- The lines of a list with a next number, from one on, after the entries of those before it.
abbrev pub lines_course : Archive → ℕ → ℕ → List Entry → List EntryLine → List Reply → FetchCourse
lines_course a next at before [] replies =
    record { asked = []; stage = HoldsAll (archive_with a before next) }
lines_course a next at before (line ∷ lines) replies =
    line_course a at before line (known_text a.config.form a.entries before line.blob) replies
    (λ (left : List Reply) (text : List ℕ).
    lines_course a next (at + 1) (before ++ entry_on line text ∷ []) lines left)

-- A message of a list has a number under which the mirror has a message with another blob id, or has none
-- any more though it is below the mirror's next number.
abbrev pub renamed_by : Form → Option (List ℕ) → ℕ → EntryLine → Option FetchAnswer
renamed_by form None next line =
    if nat_lt line.number next then Some (answer.Revived line.number) else None
renamed_by form (Some text) next line =
    if id_eq (blob_id_of form text) line.blob then None
    else Some (answer.Renamed line.number (blob_id_of form text) line.blob)

-- What is wrong so with a line, if it is that of a message.
abbrev pub line_renamed : Archive → EntryLine → Option FetchAnswer
line_renamed a line =
    if is_message line.kind
    then renamed_by a.config.form (text_of (messages a.entries) line.number) a.next line else None

-- The same of the first line of a list with which something is wrong. No other one has a lesser number, as
-- numbers rise.
abbrev pub first_renamed : Archive → List EntryLine → Option FetchAnswer
first_renamed a [] = None
first_renamed a (line ∷ lines) = first_there (line_renamed a line) (first_renamed a lines)

-- What is wrong with a list that was read, if anything: it has another name, a lesser next number than the
-- mirror, or a message that is another one in the mirror.
abbrev pub wrong_list : Archive → MirrorList → Option FetchAnswer
wrong_list a l =
    if not (bytes_eq l.name a.config.name) then Some (answer.BadList 2)
    else if nat_lt l.next a.next then Some (answer.Behind a.next l.next)
    else first_renamed a l.lines

-- The course over a list that was read and the replies after it. Entries begin on the fourth line.
abbrev pub read_course : Archive → List Reply → Result MirrorList ListRefusal → FetchCourse
read_course a replies (Err (list.BadList line)) = comes_to (answer.BadList line)
read_course a replies (Err list.NoMemory) = comes_to answer.NoMemory
read_course a replies (Ok l) = unless (wrong_list a l) (lines_course a l.next 4 [] l.lines replies)

-- The course after the reply for the list, which is read if its status is 200.
abbrev pub ListLeads : Archive → Reply → List Reply → FetchCourse → Type 0
ListLeads a reply replies rest =
    MatchBool (reply.status == 200) ((read : Result MirrorList ListRefusal)
    × ReadsList a.config.form reply.body read × (rest ≡ read_course a replies read))
    (rest ≡ comes_to (answer.BadReply reply.status))

-- The course of a fetch of a mirror over replies: the list is asked for first.
abbrev pub MirrorLeads : Archive → List Reply → FetchCourse → Type 0
MirrorLeads a [] course = course ≡ asks_for (list_path a.config.name)
MirrorLeads a (reply ∷ replies) course = (rest : FetchCourse) × ListLeads a reply replies rest
    × (course ≡ after_paths (list_path a.config.name ∷ []) rest)

-- The course of a fetch over replies. An archive that is no mirror asks for nothing.
abbrev pub FetchLeads : Archive → List Reply → FetchCourse → Type 0
FetchLeads a replies course = MatchBool a.config.mirror (MirrorLeads a replies course)
    (course ≡ comes_to answer.NotMirror)

-- An answer that no reply decides: the peer or the disk failed, or memory ran out.
abbrev pub is_free : FetchAnswer → Bool
is_free answer.PeerFault = true
is_free answer.DiskFault = true
is_free answer.NoMemory = true
is_free other = false
