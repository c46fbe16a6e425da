-- What the calls of a keeper mean at the control door.
use Rattle.std.proofs.Common.{◌≡◌, ◌==◌, ◌≤◌, ◌⊎◌, inl, inr, ℕ, Bool, true, false, List, [], ◌∷◌, ◌++◌, length, drop, Option, Some, None, is_some, is_ok, OnOk, Result, Ok, Err, refl, sym, ap, ◌∙◌, subst, arith, if◌then◌else◌}
use Rattle.std.specs.List.{Contains}
use Rattle.line_door.specs.Acts.{ConnectionState, Said, Departure, Plain, Memory, Disk, Acts, held_if}
use Rattle.line_door.specs.Making.{closes}
use Rattle.edge_io.specs.Phrases.{Says}
use Rattle.edge_io.specs.declared.sink.SinkFault.{SinkFault}
use Rattle.line_door.proofs.Acting.{acts-by_held, acts-closing, acts-silent}
use Rattle.arch_base.specs.declared.ids.Form.{Form}
use Rattle.arch_model.specs.Archives.{Archive, Entry, live, text_of}
use Rattle.arch_model.specs.Listings.{row_at, row_in}
use Rattle.arch_model.specs.Overviews.{id_fact}
use Rattle.arch_model.specs.Rows.{row_of}
use Rattle.arch_model.specs.Delivery.{applied, answer_line}
use Rattle.arch_model.specs.Keeping.{KeeperMoves, OnlyRead, CommandGives, AnswerCause, Settles, ReopeningRefused, OpeningWhy, ending, Keeper}
use Rattle.arch_model.specs.Shelves.{IsUndamaged, ReadingWhy}
use Rattle.arch_model.specs.Standing.{LastKnown, standing}
use Rattle.arch_model.specs.declared.command.Command.{Command}
use Rattle.arch_model.specs.declared.command.Command.TheVariants.{Deliver, Remove, Purge, Edit}
use Rattle.arch_model.specs.declared.answer.Answer.{Answer}
use Rattle.arch_model.specs.declared.opening.OpenRefusal.{OpenRefusal}
use Rattle.arch_model.specs.declared.opening.OpenRefusal.TheVariants as opening
use Rattle.arch_model.specs.declared.text_refusal.TextRefusal.{TextRefusal}
use Rattle.arch_model.specs.declared.text_refusal.TextRefusal.TheVariants as reading
use Rattle.arch_model.proofs.Keepers.{settled-is, settled-sure, moves-same, moves-read, fits-held}
use Rattle.keep_course.proofs.Commands.{all-said, commanded}
use Rattle.answer_lines.specs.Lines.{whole_line, memory_word, disk_word, unread_words, unopened_words}
use Rattle.control_door.specs.Threads.{id_of, own_id_of}
use Rattle.control_door.specs.Requests.{Request, Shows, Threads, Lists, Reindexes, Quits, Mistakes, Exceeds, Ahead, Asked, Unfinished, ahead}
use Rattle.control_door.specs.Door as door
use Rattle.control_door.specs.Door.{Waiting, waiting, keeper_asked, keeper_asked_at, asks, asked_to_show, said_opening, said_to, goes_on, carries_out, doubts, answered, refused_memory, refused_disk, epochs_words, shown, threaded, reindexed_words, bad_word}
use Rattle.keep_course.specs.Answering.{SaidAll, way_of_ending, CommandAsked, AsksDelivery, AsksEdit, command_asked, KeeperAsked, AsksCommand, TookCommand, ReopenedAs, DoesAsked}
use Rattle.control_door.specs.Sessions.{request_for, request_with, left_by_act, IsControlAct, AnswersRequest, ReopensForCommand, ControlActs}
use Rattle.control_door.specs.declared.front.Aim.{Aim}
use Rattle.control_door.specs.declared.front.Aim.TheVariants.{New, InPlaceOf}
use Rattle.control_door.specs.declared.session.Act.{Act}
use Rattle.control_door.specs.declared.session.Act.TheVariants.{Opened, Went, Closed}
use Rattle.control_door.proofs.Holding.{turn-went, turn-opened}

-- Acts at requests that change no archive.

-- A text is said.
pub acts-shown : (moment : ℕ) (s : LastKnown) (number : ℕ) (text rest : List ℕ) (i j : ConnectionState) (sent : Result Unit SinkFault) → text_of (live s.archive.entries) number ≡ Some text → j.disk ≡ i.disk → Says (shown 0 (Some text)) i.out i.lost j.out j.lost sent
    → Acts (said_to moment s (Shows number) rest) i (held_if (is_ok sent) (waiting rest false)) s j
acts-shown moment s number text rest i j sent is kept words =
    acts-by_held (said_to moment s (Shows number) rest) Plain (goes_on rest (shown number (Some text)) s) i j (waiting rest false) s sent (rw is refl) refl kept (omega (arith, kept)) words refl

-- A number without a text.
pub acts-hidden : (moment : ℕ) (s : LastKnown) (number : ℕ) (rest : List ℕ) (i j : ConnectionState) (sent : Result Unit SinkFault) → is_some (text_of (live s.archive.entries) number) ≡ false → j.disk ≡ i.disk → Says (shown number None) i.out i.lost j.out j.lost sent
    → Acts (said_to moment s (Shows number) rest) i (held_if (is_ok sent) (waiting rest false)) s j
acts-hidden moment s number rest i j sent none kept words =
    acts-by_held (said_to moment s (Shows number) rest) Plain (goes_on rest (shown number None) s) i j (waiting rest false) s sent (rw (none_of (text_of (live s.archive.entries) number) none) refl) refl kept (omega (arith, kept)) words refl
  where
    none_of : (text : Option (List ℕ)) → is_some text ≡ false → text ≡ None
    none_of None h = refl
    none_of (Some text) h = absurd (cc h)

-- The tree of a thread is said, or that the number has no text.
pub acts-threaded : (moment : ℕ) (s : LastKnown) (number : ℕ) (found : Option (List ℕ)) (rest : List ℕ) (i j : ConnectionState) (sent : Result Unit SinkFault) → text_of (live s.archive.entries) number ≡ found → j.disk ≡ i.disk → Says (threaded (live s.archive.entries) number found) i.out i.lost j.out j.lost sent
    → Acts (said_to moment s (Threads number) rest) i (held_if (is_ok sent) (waiting rest false)) s j
acts-threaded moment s number found rest i j sent is kept words =
    acts-by_held (said_to moment s (Threads number) rest) Plain (goes_on rest (threaded (live s.archive.entries) number found) s) i j (waiting rest false) s sent (rw is refl) refl kept (omega (arith, kept)) words refl

-- No text, or some.
pub none-found : (text : Option (List ℕ)) → is_some text ≡ false → text ≡ None
none-found None h = refl
none-found (Some text) h = absurd (cc h)

pub none-shown : (text : Option (List ℕ)) → text ≡ None → is_some text ≡ true → ⊥
none-shown None h some = cc
none-shown (Some text) h some = cc

pub some-found : (text : Option (List ℕ)) → is_some text ≡ true → (t : List ℕ) × (text ≡ Some t)
some-found None h = absurd (cc h)
some-found (Some text) h = (text, refl)

pub on-weaker : {T E : Type 0} (r : Result T E) (P Q : Type 0) → (P → Q) → OnOk r P → OnOk r Q
on-weaker (Ok x) P Q less holds = less holds
on-weaker (Err e) P Q less holds = tt

-- The id in the row of a message is that of its text, whichever form the ids have.
row-own : (form : Form) (e : Entry) → (row_at form e).id ≡ id_fact e.text
unfolding row_of
row-own form e = refl

pub own-id : (form : Form) (es : List Entry) (n : ℕ) → id_of (row_in form es n) ≡ own_id_of (text_of es n)
own-id form [] n = refl
own-id form (e ∷ es) n = step (e.number == n) (own-id form es n) where
  step : (t : Bool) → id_of (row_in form es n) ≡ own_id_of (text_of es n) → id_of (if t then Some (row_at form e) else row_in form es n) ≡ own_id_of (if t then Some e.text else text_of es n)
  step true rest = row-own form e
  step false rest = rest

-- Out of memory for a tree.
pub acts-unthreaded : (moment : ℕ) (s : LastKnown) (number : ℕ) (rest : List ℕ) (i j : ConnectionState) (sent : Result Unit SinkFault) → j.disk ≡ i.disk → Says memory_word i.out i.lost j.out j.lost sent
    → Acts (said_to moment s (Threads number) rest) i (held_if (is_ok sent) (waiting rest false)) s j
acts-unthreaded moment s number rest i j sent same words =
    acts-by_held (said_to moment s (Threads number) rest) Memory (goes_on rest memory_word s) i j (waiting rest false) s sent refl refl same (omega (arith, same)) words refl

-- The epochs are listed.
pub acts-listed : (moment : ℕ) (s : LastKnown) (rest : List ℕ) (i j : ConnectionState) (sent : Result Unit SinkFault) → j.disk ≡ i.disk → Says (epochs_words s.archive.config.form s.archive.entries) i.out i.lost j.out j.lost sent
    → Acts (said_to moment s Lists rest) i (held_if (is_ok sent) (waiting rest false)) s j
acts-listed moment s rest i j sent kept words =
    acts-by_held (said_to moment s Lists rest) Plain (goes_on rest (epochs_words s.archive.config.form s.archive.entries) s) i j (waiting rest false) s sent refl refl kept (omega (arith, kept)) words refl

-- What was asked for was not read.
pub acts-unread : (moment : ℕ) (s : LastKnown) (request : Request) (rest : List ℕ) (i j : ConnectionState) (sent : Result Unit SinkFault) (refusal : TextRefusal)
    → refused_memory moment s request rest ≡ goes_on rest memory_word s → refused_disk moment s request rest ≡ goes_on rest disk_word s
    → IsUndamaged refusal → ReadingWhy i.disk j.disk refusal → i.disk ≤ j.disk → Says (unread_words refusal) i.out i.lost j.out j.lost sent
    → Acts (said_to moment s request rest) i (held_if (is_ok sent) (waiting rest false)) s j
acts-unread moment s request rest i j sent reading.DiskFault memory disk whole cause later words =
    acts-by_held (said_to moment s request rest) Disk (goes_on rest disk_word s) i j (waiting rest false) s sent disk refl cause later words refl
acts-unread moment s request rest i j sent (reading.Damaged named found) memory disk whole cause later words = absurd whole
acts-unread moment s request rest i j sent reading.NoMemory memory disk whole cause later words =
    acts-by_held (said_to moment s request rest) Memory (goes_on rest memory_word s) i j (waiting rest false) s sent memory refl cause later words refl

-- A line that is not an order.
pub acts-mistaken : (moment : ℕ) (s : LastKnown) (rest : List ℕ) (i j : ConnectionState) (sent : Result Unit SinkFault) → j.disk ≡ i.disk → Says bad_word i.out i.lost j.out j.lost sent
    → Acts (said_to moment s Mistakes rest) i (held_if (is_ok sent) (waiting rest false)) s j
acts-mistaken moment s rest i j sent kept words =
    acts-by_held (said_to moment s Mistakes rest) Plain (goes_on rest bad_word s) i j (waiting rest false) s sent refl refl kept (omega (arith, kept)) words refl

-- Too much is announced, or a line is too long.
pub acts-exceeding : (moment : ℕ) (s : LastKnown) (rest : List ℕ) (i j : ConnectionState) (sent : Result Unit SinkFault) → j.disk ≡ i.disk → Says bad_word i.out i.lost j.out j.lost sent → Acts (said_to moment s Exceeds rest) i None s j
acts-exceeding moment s rest i j sent kept words = acts-closing (said_to moment s Exceeds rest) Plain (closes s bad_word) i j s sent refl refl kept (omega (arith, kept)) words refl

-- The connection ends.
pub acts-quitting : (moment : ℕ) (s : LastKnown) (rest : List ℕ) (i : ConnectionState) → Acts (said_to moment s Quits rest) i None s i
acts-quitting moment s rest i = acts-silent (said_to moment s Quits rest) (closes s []) i i None s refl refl refl refl refl refl refl

-- Out of memory for a message.
memory-with : (moment : ℕ) (s : LastKnown) (aim : Aim) (message rest : List ℕ) → refused_memory moment s (request_with aim message) rest ≡ goes_on rest memory_word s
memory-with moment s New message rest = refl
memory-with moment s (InPlaceOf number) message rest = refl

pub acts-refusing : (moment : ℕ) (s : LastKnown) (aim : Aim) (message rest : List ℕ) (i j : ConnectionState) (sent : Result Unit SinkFault) → j.disk ≡ i.disk → Says memory_word i.out i.lost j.out j.lost sent
    → Acts (said_to moment s (request_with aim message) rest) i (held_if (is_ok sent) (waiting rest false)) s j × SaidAll (said_to moment s (request_with aim message) rest Memory) i (held_if (is_ok sent) (waiting rest false)) s j
acts-refusing moment s aim message rest i j sent same words = (
  acts-by_held (said_to moment s (request_with aim message) rest) Memory (goes_on rest memory_word s) i j (waiting rest false) s sent (memory-with moment s aim message rest) refl same (omega (arith, same)) words refl,
  subst (λ (x : Said Waiting LastKnown). SaidAll x i (held_if (is_ok sent) (waiting rest false)) s j) (sym (memory-with moment s aim message rest)) (all-said (goes_on rest memory_word s) (waiting rest false) i j s sent refl words refl),
)

-- The archive was reindexed.
pub acts-reindexed : (moment : ℕ) (a : Archive) (rest : List ℕ) (t : LastKnown) (count : ℕ) (i j : ConnectionState) (sent : Result Unit SinkFault) → Settles (standing a None) t → count ≡ length (live t.archive.entries) → j.disk ≡ i.disk
    → Says (reindexed_words count) i.out i.lost j.out j.lost sent
    → Acts (said_to moment (standing a None) Reindexes rest) i (held_if (is_ok sent) (waiting rest false)) t j × SaidAll (said_to moment (standing a None) Reindexes rest Plain) i (held_if (is_ok sent) (waiting rest false)) t j
acts-reindexed moment a rest t count i j sent settles counts kept words =
    let s : LastKnown = standing a None in
    let same : t ≡ s = settled-sure a t settles in
    let live_in : count ≡ length (live a.entries) = counts ∙ ap (λ (x : LastKnown). length (live x.archive.entries)) same in
    let said = subst (λ (n : ℕ). Says (reindexed_words n) i.out i.lost j.out j.lost sent) live_in words in (
      acts-by_held (said_to moment s Reindexes rest) Plain (goes_on rest (reindexed_words (length (live a.entries))) s) i j (waiting rest false) t sent refl refl kept (omega (arith, kept)) said same,
      all-said (goes_on rest (reindexed_words (length (live a.entries))) s) (waiting rest false) i j t sent refl said same,
    )

-- A reindexing was refused.
pub acts-unindexed : (moment : ℕ) (a : Archive) (rest : List ℕ) (t : LastKnown) (why : OpenRefusal) (i j : ConnectionState) (sent : Result Unit SinkFault) → ReopeningRefused (standing a None) why t → OpeningWhy i.disk j.disk why → i.disk ≤ j.disk
    → Says (unopened_words why) i.out i.lost j.out j.lost sent → Acts (said_to moment (standing a None) Reindexes rest) i (held_if (is_ok sent) (waiting rest false)) t j
    × (SaidAll (said_to moment (standing a None) Reindexes rest Memory) i (held_if (is_ok sent) (waiting rest false)) t j ⊎ SaidAll (said_to moment (standing a None) Reindexes rest Disk) i (held_if (is_ok sent) (waiting rest false)) t j)
acts-unindexed moment a rest t opening.DiskFault i j sent same cause later words = (
  acts-by_held (said_to moment (standing a None) Reindexes rest) Disk (goes_on rest disk_word (standing a (Some a))) i j (waiting rest false) t sent refl refl cause later words same,
  inr (all-said (goes_on rest disk_word (standing a (Some a))) (waiting rest false) i j t sent refl words same),
)
acts-unindexed moment a rest t opening.NoMemory i j sent same cause later words = (
  acts-by_held (said_to moment (standing a None) Reindexes rest) Memory (goes_on rest memory_word (standing a None)) i j (waiting rest false) t sent refl refl cause later words same,
  inl (all-said (goes_on rest memory_word (standing a None)) (waiting rest false) i j t sent refl words same),
)
acts-unindexed moment a rest t opening.NoArchive i j sent never cause later words = absurd never
acts-unindexed moment a rest t (opening.Damaged file at) i j sent never cause later words = absurd never

-- What is said to the request for a command.
command-plain : (moment : ℕ) (s : LastKnown) (command : Command) (rest : List ℕ) → answered moment s (request_for command) rest ≡ carries_out (applied s.archive command moment) rest
command-plain moment s (Deliver bytes) rest = refl
command-plain moment s (Remove number) rest = refl
command-plain moment s (Purge number) rest = refl
command-plain moment s (Edit number bytes) rest = refl

command-memory : (moment : ℕ) (s : LastKnown) (command : Command) (rest : List ℕ) → refused_memory moment s (request_for command) rest ≡ goes_on rest memory_word s
command-memory moment s (Deliver bytes) rest = refl
command-memory moment s (Remove number) rest = refl
command-memory moment s (Purge number) rest = refl
command-memory moment s (Edit number bytes) rest = refl

command-disk : (moment : ℕ) (s : LastKnown) (command : Command) (rest : List ℕ) → refused_disk moment s (request_for command) rest ≡ doubts s (applied s.archive command moment) rest
command-disk moment s (Deliver bytes) rest = refl
command-disk moment s (Remove number) rest = refl
command-disk moment s (Purge number) rest = refl
command-disk moment s (Edit number bytes) rest = refl

-- A command was answered, and the line of the answer was said.
pub acts-commanded : (moment : ℕ) (a : Archive) (command : Command) (rest : List ℕ) (t : LastKnown) (reply : Answer) (i j : ConnectionState) (sent : Result Unit SinkFault) → CommandGives true (standing a None) (λ (b : Archive). applied b command moment) reply t → AnswerCause i.disk j.disk reply → i.disk ≤ j.disk
    → Says (whole_line (answer_line reply)) i.out i.lost j.out j.lost sent
    → Acts (said_to moment (standing a None) (request_for command) rest) i (held_if (is_ok sent) (waiting rest false)) t j × SaidAll (said_to moment (standing a None) (request_for command) rest (way_of_ending (ending reply))) i (held_if (is_ok sent) (waiting rest false)) t j
acts-commanded moment a command rest t reply i j sent comes cause later said =
    let s : LastKnown = standing a None in
    commanded (said_to moment s (request_for command) rest) (waiting rest false) (λ (r : Answer). whole_line (answer_line r)) a (λ (b : Archive). applied b command moment) (command-plain moment s command rest) (command-memory moment s command rest) (command-disk moment s command rest) reply t i j sent
    comes cause later said

-- What the request of a command asks.
pub asked-command : (s : LastKnown) (command : Command) → keeper_asked s (request_for command) ≡ AsksCommand (command_asked command)
asked-command s (Deliver bytes) = refl
asked-command s (Remove number) = refl
asked-command s (Purge number) = refl
asked-command s (Edit number bytes) = refl

-- What the request of a message with an aim asks.
asked-with : (s : LastKnown) (aim : Aim) (message : List ℕ) → (asked : CommandAsked) × (keeper_asked s (request_with aim message) ≡ AsksCommand asked)
asked-with s New message = (AsksDelivery message, refl)
asked-with s (InPlaceOf number) message = (AsksEdit number message, refl)

module _ {K : Type 0} (g : Keeper K) where
  -- The archive was reopened before a request, which is at the front of these bytes.
  reopened-by : (moment : ℕ) (s : LastKnown) (old piece : List ℕ) (request : Request) (n : ℕ) (k k' : K) (i : ConnectionState) (t : LastKnown) (j : ConnectionState) (done : Bool) → ahead (old ++ piece) ≡ Asked request (drop n piece)
      → ReopenedAs g (said_opening s (old ++ piece)) k i (held_if done (waiting (old ++ piece) true)) k' t j
      → DoesAsked g moment (asks s (waiting (old ++ piece) false)) (door.said moment s (waiting (old ++ piece) false)) k s i (left_by_act false piece (if done then Opened else Closed) old) k' t j
  reopened-by moment s old piece request n k k' i t j true stands reopened =
      subst (λ (x : Ahead). DoesAsked g moment (keeper_asked_at false s x) (λ (way : Departure). door.said_at moment s (waiting (old ++ piece) false) x way) k s i (Some (waiting (old ++ piece) true)) k' t j) (sym stands) reopened
  reopened-by moment s old piece request n k k' i t j false stands reopened =
      subst (λ (x : Ahead). DoesAsked g moment (keeper_asked_at false s x) (λ (way : Departure). door.said_at moment s (waiting (old ++ piece) false) x way) k s i None k' t j) (sym stands) reopened

  -- A request at the front of these bytes did what it asks.
  asked-by : (moment : ℕ) (s : LastKnown) (old piece : List ℕ) (request : Request) (n : ℕ) (k k' : K) (i : ConnectionState) (t : LastKnown) (new : List ℕ) (j : ConnectionState) (goes : Bool) → ahead (old ++ piece) ≡ Asked request (drop n piece) → new ≡ []
      → DoesAsked g moment (keeper_asked s request) (said_to moment s request (drop n piece)) k s i (held_if goes (waiting (drop n piece) false)) k' t j
      → DoesAsked g moment (asks s (waiting (old ++ piece) true)) (door.said moment s (waiting (old ++ piece) true)) k s i (left_by_act true piece (if goes then Went n else Closed) new) k' t j
  asked-by moment s old piece request n k k' i t new j true stands none does =
      subst (λ (x : Ahead). DoesAsked g moment (keeper_asked_at true s x) (λ (way : Departure). door.said_at moment s (waiting (old ++ piece) true) x way) k s i (Some (waiting (new ++ drop n piece) false)) k' t j) (sym stands)
      (subst (λ (r : List ℕ). DoesAsked g moment (keeper_asked s request) (said_to moment s request (drop n piece)) k s i (Some (waiting (r ++ drop n piece) false)) k' t j) (sym none) does)
  asked-by moment s old piece request n k k' i t new j false stands none does =
      subst (λ (x : Ahead). DoesAsked g moment (keeper_asked_at true s x) (λ (way : Departure). door.said_at moment s (waiting (old ++ piece) true) x way) k s i None k' t j) (sym stands) does

  -- A request was answered.
  pub turns-answered : (moment : ℕ) (old piece : List ℕ) (request : Request) (n : ℕ) (k k' : K) (i j : ConnectionState) (new : List ℕ) (goes : Bool) → g.ready k ≡ true → ahead (old ++ piece) ≡ Asked request (drop n piece) → new ≡ []
      → AnswersRequest g moment request k i goes k' j → ControlActs g moment true old piece k i (if goes then Went n else Closed) new k' j
  turns-answered moment old piece request n k k' i j new goes at_hand stands none acts = λ s fits.
      let is = settled-is g k s fits at_hand in
      let done = acts s.archive (drop n piece) is.1 in
      subst (λ (x : LastKnown). (t : LastKnown) × KeeperMoves g k x k' t × IsControlAct moment true x old piece i (if goes then Went n else Closed) t new j
      × DoesAsked g moment (asks x (waiting (old ++ piece) true)) (door.said moment x (waiting (old ++ piece) true)) k x i (left_by_act true piece (if goes then Went n else Closed) new) k' t j) (sym is.0) (
        done.0,
        done.1,
        turn-went moment (standing s.archive None) old piece request n i done.0 new j goes stands none done.2,
        asked-by moment (standing s.archive None) old piece request n k k' i done.0 new j goes stands none done.3,
      )

  -- The archive was reopened before a request, or not.
  pub turns-opened : (moment : ℕ) (old piece : List ℕ) (request : Request) (n : ℕ) (k k' : K) (i j : ConnectionState) (done : Bool) → ahead (old ++ piece) ≡ Asked request (drop n piece)
      → ReopensForCommand g k i done k' j → ControlActs g moment false old piece k i (if done then Opened else Closed) old k' j
  turns-opened moment old piece request n k k' i j done stands opens = λ s fits.
      let o = opens s (old ++ piece) fits in
      (o.0, o.1, turn-opened moment s old piece request n i o.0 j done stands o.2, reopened-by moment s old piece request n k k' i o.0 j done stands o.3)

  -- Nothing is asked by what is no request.
  asked-none : (moment : ℕ) (opened : Bool) (s : LastKnown) (bytes : List ℕ) (words : Departure → Said Waiting LastKnown) (k : K) (i : ConnectionState) (held : Option Waiting) (j : ConnectionState) → ahead bytes ≡ Unfinished → g.alike k k → j.disk ≡ i.disk
      → DoesAsked g moment (asks s (waiting bytes opened)) words k s i held k s j
  asked-none moment true s bytes words k i held j none alike spared = subst (λ (x : Ahead). DoesAsked g moment (keeper_asked_at true s x) words k s i held k s j) (sym none) (alike, spared)
  asked-none moment false s bytes words k i held j none alike spared = subst (λ (x : Ahead). DoesAsked g moment (keeper_asked_at false s x) words k s i held k s j) (sym none) (alike, spared)

  -- Nothing was asked of the keeper.
  pub turns-held : (moment : ℕ) (opened : Bool) (held piece : List ℕ) (k : K) (i : ConnectionState) (turn : Act) (new : List ℕ) (j : ConnectionState) → ahead (held ++ piece) ≡ Unfinished → g.alike k k → j.disk ≡ i.disk → ((s : LastKnown) → IsControlAct moment opened s held piece i turn s new j)
      → ControlActs g moment opened held piece k i turn new k j
  turns-held moment opened held piece k i turn new j none alike spared done = λ s fits.
      (s, moves-same g k s fits, done s, asked-none moment opened s (held ++ piece) (door.said moment s (waiting (held ++ piece) opened)) k i (left_by_act opened piece turn new) j none alike spared)

  -- The keeper took a command.
  pub commanded-does : (moment : ℕ) (a : Archive) (command : Command) (words : Departure → Said Waiting LastKnown) (k k' : K) (i : ConnectionState) (held : Option Waiting) (t : LastKnown) (j : ConnectionState) → TookCommand g words command moment k (standing a None) i held k' t j
      → DoesAsked g moment (keeper_asked (standing a None) (request_for command)) words k (standing a None) i held k' t j
  commanded-does moment a command words k k' i held t j took =
      subst (λ (x : KeeperAsked). DoesAsked g moment x words k (standing a None) i held k' t j) (sym (asked-command (standing a None) command)) (inl (command, refl, took))

  -- Memory ran out for a message before the keeper was asked.
  pub starved-unasked : (moment : ℕ) (a : Archive) (aim : Aim) (message : List ℕ) (words : Departure → Said Waiting LastKnown) (k : K) (i : ConnectionState) (held : Option Waiting) (t : LastKnown) (j : ConnectionState) → SaidAll (words Memory) i held t j
      → DoesAsked g moment (keeper_asked (standing a None) (request_with aim message)) words k (standing a None) i held k t j
  starved-unasked moment a aim message words k i held t j said =
      let asked = asked-with (standing a None) aim message in
      subst (λ (x : KeeperAsked). DoesAsked g moment x words k (standing a None) i held k t j) (sym asked.1) (inr (record { kept = refl; said = said }))

  -- What `show` asks.
  pub asked-showing : (moment : ℕ) (s : LastKnown) (text : Option (List ℕ)) (words : Departure → Said Waiting LastKnown) (k k' : K) (i : ConnectionState) (held : Option Waiting) (t : LastKnown) (j : ConnectionState) → g.alike k k' → (text ≡ None → j.disk ≡ i.disk)
      → DoesAsked g moment (asked_to_show text) words k s i held k' t j
  asked-showing moment s None words k k' i held t j alike spared = (alike, spared refl)
  asked-showing moment s (Some text) words k k' i held t j alike spared = alike

  module _ (holds_files_are : (k : K) (a : Archive) → g.holds k a → g.files_are k a) (holds_left : (k : K) (a : Archive) (may : List (Option Archive)) → g.holds k a → Contains may (Some a) → g.leaves k k may) where
    -- A request that only reads was answered.
    pub answers-read : (moment : ℕ) (request : Request) (k k' : K) (i j : ConnectionState) (goes : Bool) → OnlyRead g k k' → ((a : Archive) (rest : List ℕ) → g.holds k a → Acts (said_to moment (standing a None) request rest) i (held_if goes (waiting rest false)) (standing a None) j)
        → ((a : Archive) (rest : List ℕ) → g.holds k a → DoesAsked g moment (keeper_asked (standing a None) request) (said_to moment (standing a None) request rest) k (standing a None) i (held_if goes (waiting rest false)) k' (standing a None) j)
        → AnswersRequest g moment request k i goes k' j
    answers-read moment request k k' i j goes read acts does = λ a rest held. (standing a None, moves-read g holds_files_are holds_left k k' a held read, acts a rest held, does a rest held)

    -- A request was answered without the keeper.
    pub answers-held : (moment : ℕ) (request : Request) (k : K) (i j : ConnectionState) (goes : Bool) → ((a : Archive) (rest : List ℕ) → Acts (said_to moment (standing a None) request rest) i (held_if goes (waiting rest false)) (standing a None) j)
        → ((a : Archive) (rest : List ℕ) → DoesAsked g moment (keeper_asked (standing a None) request) (said_to moment (standing a None) request rest) k (standing a None) i (held_if goes (waiting rest false)) k (standing a None) j)
        → AnswersRequest g moment request k i goes k j
    answers-held moment request k i j goes acts does = λ a rest held. (standing a None, moves-same g k (standing a None) (fits-held g holds_files_are holds_left k a held), acts a rest, does a rest)
