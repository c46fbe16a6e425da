-- A mailbox file as a streamed reply, whose next words are put together before they are said.
use Rattle.std.proofs.Common.{◌≡◌, ◌<◌, ◌≤◌, ◌&&◌, not, inl, inr, ℕ, Bool, true, false, List, [], ◌++◌, length, Option, None, is_some, Result, Ok, Err, is_ok, refl, sym, ap, subst, ◌∙◌, append_assoc, length-append, arith}
use Rattle.std.proofs.lemmas.List.{append-nil}
use Rattle.edge_io.specs.Phrases.{Says}
use Rattle.edge_io.specs.declared.sink.SinkFault.{SinkFault}
use Rattle.edge_io.proofs.Wording.{plus-none}
use Rattle.line_door.specs.Acts.{ConnectionState, Departure, Plain, Memory, Disk, Newer, Acts, held_if}
use Rattle.line_door.specs.Making.{closes}
use Rattle.line_door.proofs.Acting.{acts-closing, acts-words}
use Rattle.arch_model.specs.Archives.{Entry, Archive}
use Rattle.arch_model.specs.Shelves.{IsUndamaged, ReadingWhy}
use Rattle.arch_model.specs.declared.text_refusal.TextRefusal.{TextRefusal}
use Rattle.arch_model.specs.declared.text_refusal.TextRefusal.TheVariants as refusal
use Rattle.http_heads.specs.Replies.{reply_head}
use Rattle.http_heads.specs.declared.reply.Body.TheVariants.{Mailbox}
use Rattle.http_heads.specs.declared.reply.Status.TheVariants.{Done, Unavailable}
use Rattle.shelf_doors.specs.Streams.{says_if, StreamWays}
use Rattle.shelf_doors.specs.declared.streamed.StreamStop.{StreamStop}
use Rattle.shelf_doors.specs.declared.streamed.StreamStop.TheVariants as stop
use Rattle.shelf_doors.proofs.Reading.{says-unread, stops-why}
use Rattle.shelf_doors.proofs.Streaming.{Under, under-start, under-more, under-lost, under-unread, under-short, under-all}
use Rattle.http_front.specs.Replies.{reply, word}
use Rattle.http_front.specs.Door.{replies}
use Rattle.http_front.specs.Sessions.{SaysThen, PageSaysUnread, said_stream, said_mailbox}
use Rattle.http_front.specs.Mailboxes.{piece_at}
use Rattle.http_front.specs.Views.{shown_text}
use Rattle.http_front.specs.Streaming.{unread_word, StreamsPart}
use Rattle.http_front.proofs.Acting.{acts-replied}
use Rattle.http_front.proofs.Pieces.{no-piece}

-- Nothing was said yet.
pub under-begin : (unsaid bytes left : List ℕ) (i : ConnectionState) → bytes ≡ left → Under (unsaid ++ bytes) (unsaid ++ left) false i [] i
under-begin unsaid bytes left i is = subst (λ (w : List ℕ). Under (unsaid ++ bytes) (unsaid ++ w) false i [] i) is (under-start (unsaid ++ bytes) i)

module _ (moment : ℕ) (all unsaid left piece more : List ℕ) (begun : Bool) (i j : ConnectionState) (before : Under all (unsaid ++ left) begun i [] j) (is : left ≡ piece ++ more) where
  -- The words that are to be said, with the next piece, and what is left after it.
  pub parted : unsaid ++ left ≡ (unsaid ++ piece) ++ more
  parted = ap (λ (w : List ℕ). unsaid ++ w) is ∙ sym (append_assoc unsaid piece more)

  -- These words are still to be said, or they were said.
  pub under-part : (after : Bool) (new : List ℕ) (k : ConnectionState) → StreamsPart moment (unsaid ++ piece) begun j (Ok after) new k → Under all (new ++ more) after i [] k
  under-part after new k (inl put) = rw (put.0, put.1, put.2) (subst (λ (w : List ℕ). Under all w begun i [] j) parted before)
  under-part after new k (inr said) = rw (said.0, said.1) (under-more all (unsaid ++ left) begun i [] j before (unsaid ++ piece) more [] k parted said.2 said.3)

module _ (moment : ℕ) (a : Archive) (ends : Bool) (rest all : List ℕ) where
  -- A mailbox file is a streamed reply, in place of which it may be said why a text isn't read.
  stream-ways : StreamWays (said_stream moment a ends rest all) a rest (not ends) false all (unread_word moment) true
  stream-ways = record { by_rules = plain ends; no_memory = refl; no_disk = λ reads. refl; after = after }
    where
      plain : (e : Bool) → replies a rest e true all ≡ says_if a (not e) rest true all
      plain true = refl
      plain false = refl

      after : (way : Departure) → a ≡ (said_stream moment a ends rest all way).after
      after Plain = refl
      after Memory = refl
      after Disk = refl
      after Newer = refl

  goes-if : (e sent : Bool) → (sent && not e) ≡ (not e && sent)
  goes-if true true = refl
  goes-if true false = refl
  goes-if false true = refl
  goes-if false false = refl

  -- All was said, or the last words were lost.
  pub streams-end : (unsaid left : List ℕ) (begun : Bool) (i j k : ConnectionState) (goes : Bool) → Under all (unsaid ++ left) begun i [] j → left ≡ [] → k.disk ≡ j.disk → SaysThen unsaid ends j.out j.lost k.out k.lost goes → Acts (said_stream moment a ends rest all) i (held_if goes rest) a k
  streams-end unsaid left begun i j k goes before none kept said =
      rw (said.next ∙ goes-if ends (is_ok said.sent))
      (under-all (said_stream moment a ends rest all) a rest all (unread_word moment) true stream-ways (unsaid ++ left) i [] j begun before k said.sent kept
      (subst (λ (w : List ℕ). Says w j.out j.lost k.out k.lost said.sent) (sym (ap (λ (w : List ℕ). unsaid ++ w) none ∙ append-nil unsaid)) said.says))

  module _ (unsaid left piece more : List ℕ) (begun : Bool) (i j : ConnectionState) (before : Under all (unsaid ++ left) begun i [] j) (is : left ≡ piece ++ more) where
    apart : unsaid ++ left ≡ (unsaid ++ piece) ++ more
    apart = parted moment all unsaid left piece more begun i j before is

    -- The reply stopped at the next piece. Nothing waits to be written.
    pub streams-stopped : (stopped : StreamStop) (k : ConnectionState) → StreamsPart moment (unsaid ++ piece) begun j (Err stopped) [] k → Acts (said_stream moment a ends rest all) i None a k
    streams-stopped (stop.Unread sent) k part = under-unread (said_stream moment a ends rest all) a rest all (unread_word moment) true stream-ways (unsaid ++ left) i [] j begun before true k sent part.1.0 (λ e. e) part.1.2
    streams-stopped stop.Short k part =
        under-short (said_stream moment a ends rest all) a rest all (unread_word moment) true stream-ways (unsaid ++ left) i [] j begun before [] k k (Ok tt) part.1.0 (omega (arith, ap length apart, length-append (unsaid ++ piece) more, part.0)) part.1.1 refl (refl, plus-none k.out)
    streams-stopped stop.Lost k part = under-lost (said_stream moment a ends rest all) a rest all (unread_word moment) true stream-ways (unsaid ++ left) i [] j begun before (unsaid ++ piece) more [] k part.1.0 apart part.1.1

-- The piece of a number that isn't live.
pub part-none : (moment : ℕ) (entries : List Entry) (n : ℕ) (begun : Bool) (old : List ℕ) (i : ConnectionState) → is_some (shown_text entries n) ≡ false → StreamsPart moment (old ++ piece_at entries n) begun i (Ok begun) old i
part-none moment entries n begun old i none = inl (refl, sym (append-nil old) ∙ ap (λ (w : List ℕ). old ++ w) (sym (no-piece (shown_text entries n) none)), refl)

-- What is said in place of a reply is what a refusal says of a text, if it isn't damaged.
unread-words : (moment : ℕ) (why : TextRefusal) (i j : ConnectionState) (sent : Result Unit SinkFault) → IsUndamaged why → PageSaysUnread why moment true i.out i.lost j.out j.lost sent → Says (unread_word moment why) i.out i.lost j.out j.lost sent
unread-words moment refusal.DiskFault i j sent well said = said
unread-words moment (refusal.Damaged named found) i j sent well said = absurd well
unread-words moment refusal.NoMemory i j sent well said = said

module _ (moment : ℕ) (old piece : List ℕ) (begun : Bool) (i j : ConnectionState) (why : TextRefusal) (some : 0 < length piece) (well : IsUndamaged why) (cause : ReadingWhy i.disk j.disk why) (later : i.disk ≤ j.disk) (out : i.out ≡ j.out) (lost : i.lost ≡ j.lost) where
  -- A text wasn't read, and the reply stops.
  pub part-short : begun ≡ true → StreamsPart moment (old ++ piece) begun i (Err stop.Short) [] j
  part-short sent = (omega (arith, length-append old piece, some), (sent, (refl, sym out, sym lost, later, stops-why i.disk j.disk why well cause)))

  -- It was said instead why.
  pub part-unread : (k : ConnectionState) (sent : Result Unit SinkFault) → begun ≡ false → k.disk ≡ j.disk → PageSaysUnread why moment true j.out j.lost k.out k.lost sent → StreamsPart moment (old ++ piece) begun i (Err (stop.Unread sent)) [] k
  part-unread k sent unsent same said =
      (omega (arith, length-append old piece, some), (unsent, refl, says-unread (unread_word moment) i j k why sent well cause later out lost same (unread-words moment why j k sent well said)))

module _ (moment : ℕ) (a : Archive) (ends : Bool) (rest bytes : List ℕ) where
  -- The reply with a mailbox file, by its words.
  pub mailbox-sent : (words : List ℕ) (i : ConnectionState) (held : Option (List ℕ)) (j : ConnectionState) → words ≡ reply Done moment Mailbox bytes true ends → Acts (said_stream moment a ends rest words) i held a j → Acts (said_mailbox moment a true ends rest bytes) i held a j
  mailbox-sent words i held j is acts = acts-words (said_mailbox moment a true ends rest bytes) (said_stream moment a ends rest words) i held a j same acts
    where
      plain : replies a rest ends true (reply Done moment Mailbox bytes true ends) ≡ replies a rest ends true words
      plain = ap (λ (w : List ℕ). replies a rest ends true w) (sym is)

      same : (way : Departure) → said_mailbox moment a true ends rest bytes way ≡ said_stream moment a ends rest words way
      same Plain = plain
      same Memory = refl
      same Disk = refl
      same Newer = plain

  -- The head alone.
  pub mailbox-head : (words : List ℕ) (i j : ConnectionState) (goes : Bool) → words ≡ reply Done moment Mailbox bytes false ends → j.disk ≡ i.disk → SaysThen words ends i.out i.lost j.out j.lost goes → Acts (said_mailbox moment a false ends rest bytes) i (held_if goes rest) a j
  mailbox-head words i j goes is kept said =
      acts-replied (said_mailbox moment a false ends rest bytes) Plain a rest ends false words i j goes (ap (λ (w : List ℕ). replies a rest ends false w) (sym is)) refl kept said

  -- Out of memory for the head.
  pub mailbox-memory : (sends : Bool) (i j : ConnectionState) (sent : Result Unit SinkFault) → j.disk ≡ i.disk → Says (word Unavailable moment sends true) i.out i.lost j.out j.lost sent → Acts (said_mailbox moment a sends ends rest bytes) i None a j
  mailbox-memory sends i j sent kept words =
      acts-closing (said_mailbox moment a sends ends rest bytes) Memory (closes a (word Unavailable moment sends true)) i j a sent refl refl kept (omega (arith, kept)) words refl

-- The words of the reply by those of its head.
pub reply-words : (moment : ℕ) (bytes unsaid : List ℕ) (len : ℕ) (ends : Bool) → unsaid ≡ reply_head Done moment Mailbox len ends → len ≡ length bytes → unsaid ++ bytes ≡ reply Done moment Mailbox bytes true ends
reply-words moment bytes unsaid len ends is size = ap (λ (w : List ℕ). w ++ bytes) (is ∙ ap (λ (n : ℕ). reply_head Done moment Mailbox n ends) size)

pub reply-head_words : (moment : ℕ) (bytes unsaid : List ℕ) (len : ℕ) (ends : Bool) → unsaid ≡ reply_head Done moment Mailbox len ends → len ≡ length bytes → unsaid ≡ reply Done moment Mailbox bytes false ends
reply-head_words moment bytes unsaid len ends is size = is ∙ ap (λ (n : ℕ). reply_head Done moment Mailbox n ends) size ∙ sym (append-nil (reply_head Done moment Mailbox (length bytes) ends))

module _ (moment : ℕ) (a : Archive) (sends ends : Bool) (rest bytes head : List ℕ) (len : ℕ) (is : head ≡ reply_head Done moment Mailbox len ends) (size : len ≡ length bytes) where
  -- After its head the reply has its body, or it is the head alone.
  pub serves-body : (i : ConnectionState) (held : Option (List ℕ)) (j : ConnectionState) → sends ≡ true → Acts (said_stream moment a ends rest (head ++ bytes)) i held a j → Acts (said_mailbox moment a sends ends rest bytes) i held a j
  serves-body i held j sent acts =
      subst (λ (b : Bool). Acts (said_mailbox moment a b ends rest bytes) i held a j) (sym sent) (mailbox-sent moment a ends rest bytes (head ++ bytes) i held j (reply-words moment bytes head len ends is size) acts)

  pub serves-head : (i j : ConnectionState) (goes : Bool) → sends ≡ false → j.disk ≡ i.disk → SaysThen head ends i.out i.lost j.out j.lost goes → Acts (said_mailbox moment a sends ends rest bytes) i (held_if goes rest) a j
  serves-head i j goes alone kept said =
      subst (λ (b : Bool). Acts (said_mailbox moment a b ends rest bytes) i (held_if goes rest) a j) (sym alone) (mailbox-head moment a ends rest bytes head i j goes (reply-head_words moment bytes head len ends is size) kept said)
