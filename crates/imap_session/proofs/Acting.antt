-- The acts of the code are acts of a session.
use Rattle.std.proofs.Common.{◌≡◌, ℕ, Bool, true, false, not, List, ◌++◌, take, drop, Option, Some, None, Result, inr, refl, sym, ap, subst, ◌∙◌, arith}
use Rattle.std.specs.Prelude.{if◌then◌else◌}
use Rattle.arch_model.specs.Archives.{Archive}
use Rattle.arch_model.specs.Shelves.{ReadsUpTo}
use Rattle.edge_io.specs.Phrases.{Says}
use Rattle.edge_io.specs.declared.sink.SinkFault.{SinkFault}
use Rattle.line_door.specs.Acts.{ConnectionState, Departure, Plain, Memory, Disk, Newer, Acts, held_if}
use Rattle.line_door.specs.Course.{talk, Last}
use Rattle.line_door.specs.Making.{closes}
use Rattle.line_door.specs.Over.{held_over, said_over}
use Rattle.line_door.specs.Plain.{silent}
use Rattle.line_door.specs.declared.turn.LineAct.TheVariants.{Went, Kept, Closed}
use Rattle.line_door.proofs.Acting.{acts-closing, acts-silent, acts-words}
use Rattle.line_door.proofs.Courses.{Last-done}
use Rattle.line_door.proofs.Lifting.{acts-over}
use Rattle.imap_framer.specs.Framing.{PartFront, LastPart, LiteralPart, ExcessPart, OpenPart, Framing, fresh, with_octets, front_of}
use Rattle.imap_framer.specs.Doors.{is_answered, only_rest, held_with, state_with, beside, framed_more}
use Rattle.imap_framer.specs.Feeding.{EndsLast, EndsLiteral, EndsExcess, holding, command_of}
use Rattle.imap_states.specs.Notices.{bye_memory_line}
use Rattle.imap_states.specs.Replies.{ImapReply, update_said, end_said, excess_said}
use Rattle.imap_states.specs.States.{state_of, idles, SuitsClient}
use Rattle.imap_states.specs.declared.state.ImapState.{ImapState}
use Rattle.imap_commands.specs.Replies.{command_said}
use Rattle.imap_session.specs.Counting.{act_texts, front_texts}
use Rattle.imap_session.specs.Door.{ImapClient, takes_literals, is_done, answered_by, answered, go_on, excess_words, said, has_request}
use Rattle.imap_session.specs.Idling.{said_update}
use Rattle.imap_session.specs.Sessions.{IsImapAct, PartActReads}
use Rattle.imap_session.proofs.Idle.{at_front, imap_door_cuts}
use Rattle.imap_commands.specs.Laws.{CommandsSuit}
use Rattle.imap_session.proofs.Suiting.{act-left, said-suits}
use Rattle.imap_session.proofs.Counts.{reads-went, reads-closed}

-- An act of a state is one of the session that has the state.
state-over : (f : Framing) (o : Option ImapState) → held_over {J = ImapClient} (λ (s : ImapState). (s, f)) o ≡ state_with f o
state-over f None = refl
state-over f (Some s) = refl

beside-over : (f : Framing) (r : ImapReply) → beside f r ≡ said_over (λ (a : Archive). a) (λ (s : ImapState). (s, f)) r
beside-over f r = λ i. record { next = sym (state-over f r.next) i; words = r.words; streamed = r.streamed; after = r.after }

held-over : (f : Framing) (s : ImapState) (goes : Bool) → held_over {J = ImapClient} (λ (x : ImapState). (x, f)) (held_if goes s) ≡ held_if goes (s, f)
held-over f s true = refl
held-over f s false = refl

module _ (a : Archive) (i j : ConnectionState) where
  pub acts-beside : (f : Framing) (words : Departure → ImapReply) (s : ImapState) (goes : Bool) → Acts words i (held_if goes s) a j → Acts (λ way. beside f (words way)) i (held_if goes (s, f)) a j
  acts-beside f words s goes acts =
      subst (λ (o : Option ImapClient). Acts (λ way. beside f (words way)) i o a j) (held-over f s goes)
      (acts-over (λ (x : Archive). x) (λ (x : ImapState). (x, f)) words (λ way. beside f (words way)) i (held_if goes s) a j (λ way. beside-over f (words way)) acts)

  -- What is said to a front is said to a session with that front.
  pub acts-at : (h : ImapClient) (f : PartFront) (held : Option ImapClient) → front_of (takes_literals h.0) h.1 ≡ f → Acts (at_front a h f) i held a j → Acts (said a h) i held a j
  acts-at h f held is acts = acts-words (said a h) (at_front a h f) i held a j (λ way. ap (λ (x : PartFront). at_front a h x way) is) acts

  excess-way : (s : ImapState) (f : Framing) (way : Departure) → closes {H = ImapClient} a (excess_words way a s) ≡ said_over (λ (x : Archive). x) (λ (x : ImapState). (x, f)) (excess_said a s way)
  excess-way s f Plain = refl
  excess-way s f Memory = refl
  excess-way s f Disk = refl
  excess-way s f Newer = refl

  -- A command that is too long.
  pub acts-excess : (s : ImapState) (f : Framing) (rest : List ℕ) → front_of (takes_literals s) f ≡ ExcessPart rest → Acts (excess_said a s) i None a j → Acts (said a (s, f)) i None a j
  acts-excess s f rest is acts =
      acts-at (s, f) (ExcessPart rest) None is
      (acts-over (λ (x : Archive). x) (λ (x : ImapState). (x, f)) (excess_said a s) (at_front a (s, f) (ExcessPart rest)) i None a j (λ way. excess-way s f way) acts)

  -- Memory ran out for a rest, and the session is closed.
  pub acts-starved : (h : ImapClient) (sent : Result Unit SinkFault) → front_of (takes_literals h.0) h.1 ≡ OpenPart → j.disk ≡ i.disk → Says bye_memory_line i.out i.lost j.out j.lost sent → Acts (said a h) i None a j
  acts-starved h sent is kept said_ =
      acts-at h OpenPart None is (acts-closing (at_front a h OpenPart) Memory (closes a bye_memory_line) i j a sent refl refl kept (omega (arith, kept)) said_ refl)

  module _ (s t : ImapState) (f g : Framing) (piece : List ℕ) (used : ℕ) (goes : Bool) where
    -- The last part of a command was answered.
    by-last : (k : Framing) → k ≡ fresh → has_request (s, with_octets f piece) ≡ true → Acts (said a (s, with_octets f piece)) i (held_if goes (t, only_rest (drop used piece))) a j
        → IsImapAct a (s, f) piece i (if goes then Went used else Closed) (t, k) j
    by-last k none request acts = by goes acts
      where
        by : (b : Bool) → Acts (said a (s, with_octets f piece)) i (held_if b (t, only_rest (drop used piece))) a j → IsImapAct a (s, f) piece i (if b then Went used else Closed) (t, k) j
        by true now = (request, subst (λ (x : Framing). Acts (said a (s, with_octets f piece)) i (Some (t, with_octets x (drop used piece))) a j) (sym none) now)
        by false now = now

    pub turn-last : (part : List ℕ) → front_of (takes_literals s) (with_octets f piece) ≡ LastPart (f.part ++ part) (drop used piece) → g ≡ fresh
        → Acts (answered a s (command_of f part)) i (held_if goes t) a j
        → IsImapAct a (s, f) piece i (if goes then Went used else Closed) (t, g) j
    turn-last part is none acts =
        by-last g none (ap is_answered is)
        (acts-at (s, with_octets f piece) (LastPart (f.part ++ part) (drop used piece)) (held_if goes (t, only_rest (drop used piece))) is
        (acts-beside (only_rest (drop used piece)) (answered a s (command_of f part)) t goes acts))

    -- A part that announces octets was answered.
    by-literal : (part : List ℕ) (n : ℕ) (b : Bool) → has_request (s, with_octets f piece) ≡ true → (b ≡ true → g ≡ holding f part n)
        → Acts (said a (s, with_octets f piece)) i (held_if b (t, held_with (with_octets f piece) (f.part ++ part) n (drop used piece))) a j
        → IsImapAct a (s, f) piece i (if b then Went used else Closed) (t, g) j
    by-literal part n true request held acts = (request, subst (λ (x : Framing). Acts (said a (s, with_octets f piece)) i (Some (t, with_octets x (drop used piece))) a j) (sym (held refl)) acts)
    by-literal part n false request held acts = acts

    pub turn-literal : (part : List ℕ) (n : ℕ) → front_of (takes_literals s) (with_octets f piece) ≡ LiteralPart (f.part ++ part) n (drop used piece) → (goes ≡ true → g ≡ holding f part n)
        → Acts (go_on a s) i (held_if goes t) a j
        → IsImapAct a (s, f) piece i (if goes then Went used else Closed) (t, g) j
    turn-literal part n is held acts =
        by-literal part n goes (ap is_answered is) held
        (acts-at (s, with_octets f piece) (LiteralPart (f.part ++ part) n (drop used piece)) (held_if goes (t, held_with (with_octets f piece) (f.part ++ part) n (drop used piece))) is
        (acts-beside (held_with (with_octets f piece) (f.part ++ part) n (drop used piece)) (go_on a s) t goes acts))

-- A rest that is kept ends a course.
pub last-kept : (a : Archive) (h : ImapClient) (i : ConnectionState) → has_request h ≡ false → Last said has_request (talk (Some h) a i) (talk (Some h) a i)
last-kept a h i rest =
    Last-done said has_request h a i (Some h) a i (acts-silent (said a h) (silent a h) i i (Some h) a (imap_door_cuts.rest_plain a h rest) refl refl refl refl refl refl) (inr (rest, refl))

-- The reads of a part that was answered.
module _ (a : Archive) (s t : ImapState) (f g : Framing) (piece : List ℕ) (used before now : ℕ) (i j : ConnectionState) where
  pub part-reads : (goes : Bool) → has_request (s, with_octets f piece) ≡ true → IsImapAct a (s, f) piece i (if goes then Went used else Closed) (t, g) j → ReadsUpTo (act_texts a (s, with_octets f piece)) before now
      → PartActReads a (s, f) piece (if goes then Went used else Closed) (t, g) before now
  part-reads true request act reads = reads-went a (s, with_octets f piece) (t, with_octets g (drop used piece)) i j before now request act.1 reads
  part-reads false request act reads = reads-closed a (s, with_octets f piece) before now request reads

-- What ends idling, as what is said to a line.
pub acts-ended : (a : Archive) (s : ImapState) (tag octets : List ℕ) (i j : ConnectionState) (held : Option ImapState) (done : Bool) → s.idle ≡ Some tag → done ≡ is_done octets
    → Acts (end_said a (state_of s.place None) tag done) i held a j → Acts (answered a s octets) i held a j
acts-ended a s tag octets i j held done idle is acts =
    acts-words (answered a s octets) (end_said a (state_of s.place None) tag done) i held a j
    (λ way. ap (λ (o : Option (List ℕ)). answered_by a s o octets way) idle ∙ ap (λ (d : Bool). end_said a s tag d way) (sym is)) acts

-- An act that leaves the session open leaves what suits, and so does what is kept.
pub went-suits : CommandsSuit → (a : Archive) (old : ImapClient) (piece : List ℕ) (used : ℕ) (new : ImapClient) (i j : ConnectionState) → SuitsClient a old.0 → IsImapAct a old piece i (Went used) new j → SuitsClient a new.0
went-suits suit a old piece used new i j suits act =
    let left = act-left (said a (framed_more piece old)) i (framed_more (drop used piece) new) a j act.1 in
    said-suits suit a (framed_more piece old) (framed_more (drop used piece) new) left.0 suits left.1

pub kept-suits : (a : Archive) (old : ImapClient) (piece : List ℕ) (new : ImapClient) (i j : ConnectionState) → SuitsClient a old.0 → IsImapAct a old piece i Kept new j → SuitsClient a new.0
kept-suits a old piece new i j suits act = subst (λ (x : ImapClient). SuitsClient a x.0) (sym act.0) suits

-- The update of a session that idles, and of one that doesn't.
pub update-told : (a : Archive) (s t : ImapState) (f : Framing) (goes : Bool) (i j : ConnectionState) → idles s ≡ true → Acts (update_said a s) i (held_if goes t) a j → Acts (said_update a (s, f)) i (held_if goes (t, f)) a j
update-told a s t f goes i j idle acts =
    acts-words (said_update a (s, f)) (λ way. beside f (update_said a s way)) i (held_if goes (t, f)) a j
    (λ way. ap (λ (b : Bool). if b then beside f (update_said a s way) else silent a (s, f)) idle) (acts-beside a i j f (update_said a s) t goes acts)

pub update-alone : (a : Archive) (h : ImapClient) (i : ConnectionState) → idles h.0 ≡ false → Acts (said_update a h) i (Some h) a i
update-alone a h i awake =
    acts-silent (said_update a h) (silent a h) i i (Some h) a (ap (λ (b : Bool). if b then beside h.1 (update_said a h.0 Plain) else silent a h) awake) refl refl refl refl refl refl

-- The front that the code found, of what the session is.
module _ (x : ImapClient) (s : ImapState) (f : Framing) (idle : Bool) (piece : List ℕ) (view : (s, f) ≡ x) (idle_is : idle ≡ idles s) where
  at-front : (front : PartFront) → front_of (not idle) (with_octets f piece) ≡ front → front_of (takes_literals s) (with_octets f piece) ≡ front
  at-front front is = ap (λ (t : Bool). front_of (not t) (with_octets f piece)) (sym idle_is) ∙ is

  pub last-at : (part : List ℕ) (used : ℕ) → EndsLast (not idle) f piece used → part ≡ take used piece → front_of (takes_literals x.0) (with_octets x.1 piece) ≡ LastPart (x.1.part ++ part) (drop used piece)
  last-at part used ends part_is =
      subst (λ (h : ImapClient). front_of (takes_literals h.0) (with_octets h.1 piece) ≡ LastPart (h.1.part ++ part) (drop used piece)) view
      (at-front (LastPart (f.part ++ take used piece) (drop used piece)) ends.last ∙ ap (λ (p : List ℕ). LastPart (f.part ++ p) (drop used piece)) (sym part_is))

  pub literal-at : (part : List ℕ) (used n : ℕ) → EndsLiteral (not idle) f piece used n → part ≡ take used piece → front_of (takes_literals x.0) (with_octets x.1 piece) ≡ LiteralPart (x.1.part ++ part) n (drop used piece)
  literal-at part used n ends part_is =
      subst (λ (h : ImapClient). front_of (takes_literals h.0) (with_octets h.1 piece) ≡ LiteralPart (h.1.part ++ part) n (drop used piece)) view
      (at-front (LiteralPart (f.part ++ take used piece) n (drop used piece)) ends.announces ∙ ap (λ (p : List ℕ). LiteralPart (f.part ++ p) n (drop used piece)) (sym part_is))

  pub turn-excess : (a : Archive) (i j : ConnectionState) (used : ℕ) → EndsExcess (not idle) f piece used → Acts (excess_said a s) i None a j → Acts (said a (framed_more piece x)) i None a j
  turn-excess a i j used ends acts =
      subst (λ (h : ImapClient). Acts (said a (framed_more piece h)) i None a j) view (acts-excess a i j s (with_octets f piece) (drop used piece) (at-front (ExcessPart (drop used piece)) ends.excess) acts)

  pub suits-inside : (a : Archive) → SuitsClient a x.0 → SuitsClient a s
  suits-inside a suits = subst (λ (h : ImapClient). SuitsClient a h.0) (sym view) suits

-- What a part at the front reads.
pub front-reads : (a : Archive) (h : ImapClient) (f : PartFront) (most before now : ℕ) → front_of (takes_literals h.0) h.1 ≡ f → front_texts a h f ≡ most → ReadsUpTo most before now → ReadsUpTo (act_texts a h) before now
front-reads a h f most before now is same reads = subst (λ (n : ℕ). ReadsUpTo n before now) (sym (ap (front_texts a h) is ∙ same)) reads

-- Memory ran out for a command, or for a line while the session idles.
idle-starves : (a : Archive) (s : ImapState) (octets : List ℕ) (o : Option (List ℕ)) → idles (state_of s.place o) ≡ true → answered_by a s o octets Memory ≡ closes a bye_memory_line
idle-starves a s octets None idle = absurd (cc idle)
idle-starves a s octets (Some tag) idle = refl

pub starved-idle : (a : Archive) (s : ImapState) (octets : List ℕ) (i j : ConnectionState) (sent : Result Unit SinkFault) → idles s ≡ true → j.disk ≡ i.disk → Says bye_memory_line i.out i.lost j.out j.lost sent → Acts (answered a s octets) i None a j
starved-idle a s octets i j sent idle kept said_ =
    acts-closing (answered a s octets) Memory (closes a bye_memory_line) i j a sent (idle-starves a s octets s.idle idle) refl kept (omega (arith, kept)) said_ refl

awake-by : (a : Archive) (s : ImapState) (octets : List ℕ) (o : Option (List ℕ)) (way : Departure) → idles (state_of s.place o) ≡ false → answered_by a s o octets way ≡ command_said a s octets way
awake-by a s octets None way awake = refl
awake-by a s octets (Some tag) way awake = absurd (cc awake)

pub starved-awake : (a : Archive) (s : ImapState) (octets other : List ℕ) (i j : ConnectionState) (held : Option ImapState) → idles s ≡ false → other ≡ octets → Acts (command_said a s other) i held a j → Acts (answered a s octets) i held a j
starved-awake a s octets other i j held awake same acts =
    acts-words (answered a s octets) (command_said a s other) i held a j (λ way. awake-by a s octets s.idle way awake ∙ ap (λ (x : List ℕ). command_said a s x way) (sym same)) acts

-- The update of a session by its parts.
pub update-inside : (a : Archive) (x : ImapClient) (s t : ImapState) (f : Framing) (goes : Bool) (i j : ConnectionState) → (s, f) ≡ x → idles s ≡ true → Acts (update_said a s) i (held_if goes t) a j → Acts (said_update a x) i (held_if goes (t, f)) a j
update-inside a x s t f goes i j view idle acts = subst (λ (h : ImapClient). Acts (said_update a h) i (held_if goes (t, f)) a j) view (update-told a s t f goes i j idle acts)

-- What is said to a command, where the session doesn't idle.
pub acts-awake : (a : Archive) (s : ImapState) (rest : Option (List ℕ)) (octets : List ℕ) (i j : ConnectionState) (held : Option ImapState) → s.idle ≡ None → rest ≡ None
    → Acts (command_said a (state_of s.place rest) octets) i held a j → Acts (answered a s octets) i held a j
acts-awake a s rest octets i j held idle none acts =
    acts-words (answered a s octets) (command_said a (state_of s.place rest) octets) i held a j
    (λ way. ap (λ (o : Option (List ℕ)). answered_by a s o octets way) idle ∙ ap (λ (o : Option (List ℕ)). command_said a (state_of s.place o) octets way) (idle ∙ sym none)) acts
