-- What a session holds is the beginning of a request, and the acts of the code are acts of a
-- session.
use Rattle.std.proofs.Common.{◌≡◌, ◌+◌, ◌-◌, ◌<◌, ◌≤◌, ℕ, Bool, true, false, List, [], ◌∷◌, ◌++◌, length, take, drop, Option, Some, None, Result, refl, sym, ◌∙◌, ap, subst, arith, if◌then◌else◌, length-append, append_assoc}
use Rattle.std.proofs.lemmas.List.{append-nil, drop-drop}
use Rattle.std.proofs.Math.Seq.{take-append-add, drop-append-add}
use Rattle.line_door.specs.Lines as line
use Rattle.line_door.specs.Acts.{ConnectionState, Memory, Acts, held_if}
use Rattle.line_door.specs.Making.{closes}
use Rattle.line_door.specs.Plain.{silent}
use Rattle.edge_io.specs.Phrases.{Says}
use Rattle.edge_io.specs.declared.sink.SinkFault.{SinkFault}
use Rattle.line_door.proofs.Acting.{acts-closing, acts-silent, acts-words}
use Rattle.line_door.proofs.Fronts.{front-joined, front-goes_on}
use Rattle.arch_model.specs.Standing.{LastKnown}
use Rattle.control_door.specs.declared.order.Order.{Order}
use Rattle.control_door.specs.declared.front.Payload.{Payload}
use Rattle.control_door.specs.declared.session.Act.TheVariants.{Opened, Went, Closed}
use Rattle.control_door.specs.Orders.{order_of}
use Rattle.answer_lines.specs.Lines.{memory_word}
use Rattle.control_door.specs.Requests.{Request, Ahead, Asked, Unfinished, asked_by, ahead, is_asked, is_request, line_limit}
use Rattle.control_door.specs.Door.{Waiting, waiting, said, said_to, said_at, said_opening, unkept}
use Rattle.control_door.specs.Sessions.{IsHeldRequest, IsPayload, IsControlAct, order_with, request_with}
use Rattle.control_door.specs.declared.front.Aim.{Aim}
use Rattle.control_door.proofs.Aheads.{asked_by-whole, asked_by-part}

-- The front of a line and the bytes after it.
pub ahead-line : (bytes text rest : List ℕ) (order : Order) → line.front line_limit bytes ≡ line.Whole text rest → order_of (line.content text) ≡ order → ahead bytes ≡ asked_by order rest
ahead-line bytes text rest order f o = rw f (ap (λ (x : Order). asked_by x rest) o)

-- A line and the message after it make a whole request.
pub message-whole : (bytes text piece : List ℕ) (aim : Aim) (size n : ℕ) → line.front line_limit bytes ≡ line.Whole text (drop n piece) → order_of (line.content text) ≡ order_with aim size → size ≤ length (drop n piece)
    → ahead bytes ≡ Asked (request_with aim (take size (drop n piece))) (drop (n + size) piece)
message-whole bytes text piece aim size n f o fits =
    ahead-line bytes text (drop n piece) (order_with aim size) f o ∙ asked_by-whole aim size (drop n piece) fits ∙ ap (Asked (request_with aim (take size (drop n piece)))) (drop-drop size n piece)

-- The lengths of a line and of the bytes after it.
line-length : (bytes text rest : List ℕ) → line.front line_limit bytes ≡ line.Whole text rest → length bytes ≡ length text + 1 + length rest
line-length bytes text rest f = let e = ap length (front-joined line_limit bytes text rest f) in omega (arith, e, length-append text (10 ∷ rest))

-- The beginning of a delivery is no whole request.
payload-unfinished : (bytes : List ℕ) (aim : Aim) (start end : ℕ) → IsPayload bytes aim start end → ahead bytes ≡ Unfinished
payload-unfinished bytes aim start end h =
    ahead-line bytes h.text h.rest (order_with aim h.size) h.front h.order
    ∙ asked_by-part aim h.size h.rest (omega (arith, line-length bytes h.text h.rest h.front, h.starts, h.ends, h.missing))

-- Nothing that is held is a whole request.
pub held-unfinished : (bytes : List ℕ) (payload : Option Payload) → IsHeldRequest bytes payload → ahead bytes ≡ Unfinished
held-unfinished bytes None h = rw h refl
held-unfinished bytes (Some payload) h = payload-unfinished bytes payload.aim payload.start payload.end h

-- The beginning of a request is kept.
pub keeps : (moment : ℕ) (opened : Bool) (s : LastKnown) (bytes : List ℕ) (payload : Option Payload) (i : ConnectionState) → IsHeldRequest bytes payload → (is_request bytes ≡ false) × (i.disk ≡ i.disk) × Acts (said moment s (waiting bytes opened)) i (Some (waiting bytes opened)) s i
keeps moment opened s bytes payload i h =
    let part = held-unfinished bytes payload h in
    let w : Waiting = waiting bytes opened in
    (ap is_asked part, refl, acts-silent (said moment s w) (silent s w) i i (Some w) s (rw part refl) refl refl refl refl refl refl)

-- An empty piece leaves what was held.
pub keeps-nothing : (moment : ℕ) (opened : Bool) (s : LastKnown) (old piece : List ℕ) (payload : Option Payload) (i : ConnectionState) → piece ≡ [] → IsHeldRequest (old ++ piece) payload
    → (is_request (old ++ piece) ≡ false) × (i.disk ≡ i.disk) × Acts (said moment s (waiting (old ++ piece) opened)) i (Some (waiting old opened)) s i
keeps-nothing moment opened s old piece payload i none h =
    let same : old ++ piece ≡ old = ap (λ (p : List ℕ). old ++ p) none ∙ append-nil old in
    subst (λ (kept : List ℕ). (is_request (old ++ piece) ≡ false) × (i.disk ≡ i.disk) × Acts (said moment s (waiting (old ++ piece) opened)) i (Some (waiting kept opened)) s i) same (keeps moment opened s (old ++ piece) payload i h)

-- Out of memory for a piece that isn't empty closes the session.
unkept-closes : (s : LastKnown) (w : Waiting) (old piece : List ℕ) → 0 < length piece → unkept s w (old ++ piece) ≡ closes s memory_word
unkept-closes s w (byte ∷ old) piece some = refl
unkept-closes s w [] (byte ∷ piece) some = refl
unkept-closes s w [] [] some = absurd (omega (arith, some))

-- The word for out of memory closes the session.
pub closes-keeping : (moment : ℕ) (opened : Bool) (s : LastKnown) (old piece : List ℕ) (payload : Option Payload) (i j : ConnectionState) (sent : Result Unit SinkFault) → 0 < length piece → IsHeldRequest (old ++ piece) payload → j.disk ≡ i.disk → Says memory_word i.out i.lost j.out j.lost sent
    → Acts (said moment s (waiting (old ++ piece) opened)) i None s j
closes-keeping moment opened s old piece payload i j sent some h same words =
    let part = held-unfinished (old ++ piece) payload h in
    let w : Waiting = waiting (old ++ piece) opened in
    acts-closing (said moment s w) Memory (closes s memory_word) i j s sent (rw part (unkept-closes s w old piece some)) refl same (omega (arith, same)) words refl

-- The answer to a request is the answer to the bytes that start with it.
acts-asked : (moment : ℕ) (s : LastKnown) (bytes : List ℕ) (request : Request) (rest : List ℕ) (i : ConnectionState) (held : Option Waiting) (t : LastKnown) (j : ConnectionState) → ahead bytes ≡ Asked request rest → Acts (said_to moment s request rest) i held t j
    → Acts (said moment s (waiting bytes true)) i held t j
acts-asked moment s bytes request rest i held t j is acts =
    acts-words (said moment s (waiting bytes true)) (said_to moment s request rest) i held t j (λ way. ap (λ (x : Ahead). said_at moment s (waiting bytes true) x way) is) acts

-- The archive is reopened before a request.
acts-opening : (moment : ℕ) (s : LastKnown) (bytes : List ℕ) (request : Request) (rest : List ℕ) (i : ConnectionState) (held : Option Waiting) (t : LastKnown) (j : ConnectionState) → ahead bytes ≡ Asked request rest → Acts (said_opening s bytes) i held t j
    → Acts (said moment s (waiting bytes false)) i held t j
acts-opening moment s bytes request rest i held t j is acts =
    acts-words (said moment s (waiting bytes false)) (said_opening s bytes) i held t j (λ way. ap (λ (x : Ahead). said_at moment s (waiting bytes false) x way) is) acts

-- A request that took `n` bytes of a piece was answered, and the session continues or not.
pub turn-went : (moment : ℕ) (s : LastKnown) (old piece : List ℕ) (request : Request) (n : ℕ) (i : ConnectionState) (t : LastKnown) (new : List ℕ) (j : ConnectionState) (goes : Bool) → ahead (old ++ piece) ≡ Asked request (drop n piece) → new ≡ []
    → Acts (said_to moment s request (drop n piece)) i (held_if goes (waiting (drop n piece) false)) t j → IsControlAct moment true s old piece i (if goes then Went n else Closed) t new j
turn-went moment s old piece request n i t new j true is none acts =
    (ap is_asked is, acts-asked moment s (old ++ piece) request (drop n piece) i (Some (waiting (new ++ drop n piece) false)) t j is (rw none acts))
turn-went moment s old piece request n i t new j false is none acts = acts-asked moment s (old ++ piece) request (drop n piece) i None t j is acts

-- The archive was reopened before a request, or not.
pub turn-opened : (moment : ℕ) (s : LastKnown) (old piece : List ℕ) (request : Request) (n : ℕ) (i : ConnectionState) (t : LastKnown) (j : ConnectionState) (done : Bool) → ahead (old ++ piece) ≡ Asked request (drop n piece)
    → Acts (said_opening s (old ++ piece)) i (held_if done (waiting (old ++ piece) true)) t j → IsControlAct moment false s old piece i (if done then Opened else Closed) t old j
turn-opened moment s old piece request n i t j true is acts = (ap is_asked is, acts-opening moment s (old ++ piece) request (drop n piece) i (Some (waiting (old ++ piece) true)) t j is acts)
turn-opened moment s old piece request n i t j false is acts = acts-opening moment s (old ++ piece) request (drop n piece) i None t j is acts

-- A piece that doesn't complete a delivery continues its beginning.
pub payload-more : (old piece : List ℕ) (aim : Aim) (start end : ℕ) → IsPayload old aim start end → length piece < end - length old → IsPayload (old ++ piece) aim start end
payload-more old piece aim start end h short = record {
  text = h.text;
  rest = h.rest ++ piece;
  size = h.size;
  front = front-goes_on line_limit old piece h.text h.rest h.front;
  order = h.order;
  starts = h.starts;
  ends = h.ends;
  missing = omega (arith, length-append old piece, short, h.missing);
}

-- The bytes after a line.
after-line : (text rest more : List ℕ) → drop (length text + 1) ((text ++ 10 ∷ rest) ++ more) ≡ rest ++ more
after-line text rest more = ap (drop (length text + 1)) (append_assoc text (10 ∷ rest) more) ∙ drop-append-add text (10 ∷ rest ++ more) 1

-- A piece that completes a delivery makes it a whole request.
pub payload-whole : (old piece : List ℕ) (aim : Aim) (start end : ℕ) → IsPayload old aim start end → end - length old ≤ length piece
    → ahead (old ++ piece) ≡ Asked (request_with aim (drop start (old ++ take (end - length old) piece))) (drop (end - length old) piece)
payload-whole old piece aim start end h long =
    let n : ℕ = end - length old in
    let lengths = line-length old h.text h.rest h.front in
    let size_is : h.size ≡ length h.rest + n = omega (arith, lengths, h.starts, h.ends, h.missing) in
    let fits : h.size ≤ length (h.rest ++ piece) = omega (arith, length-append h.rest piece, size_is, long) in
    let at : ahead (old ++ piece) ≡ asked_by (order_with aim h.size) (h.rest ++ piece) = ahead-line (old ++ piece) h.text (h.rest ++ piece) (order_with aim h.size) (front-goes_on line_limit old piece h.text h.rest h.front) h.order in
    let message : take h.size (h.rest ++ piece) ≡ drop start (old ++ take n piece) =
    ap (λ s. take s (h.rest ++ piece)) size_is ∙ take-append-add h.rest piece n
    ∙ sym (ap (λ s. drop s (old ++ take n piece)) h.starts ∙ ap (λ t. drop (length h.text + 1) (t ++ take n piece)) (front-joined line_limit old h.text h.rest h.front) ∙ after-line h.text h.rest (take n piece)) in
    let after : drop h.size (h.rest ++ piece) ≡ drop n piece = ap (λ s. drop s (h.rest ++ piece)) size_is ∙ drop-append-add h.rest piece n in
    at ∙ asked_by-whole aim h.size (h.rest ++ piece) fits ∙ ap (λ m. Asked (request_with aim m) (drop h.size (h.rest ++ piece))) message ∙ ap (Asked (request_with aim (drop start (old ++ take n piece)))) after

-- The message of a delivery starts within what is held.
pub payload-start : (old : List ℕ) (aim : Aim) (start end : ℕ) → IsPayload old aim start end → start ≤ length old
payload-start old aim start end h = omega (arith, line-length old h.text h.rest h.front, h.starts)
