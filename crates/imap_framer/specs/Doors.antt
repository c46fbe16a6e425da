-- A door whose requests are the parts of commands: a state beside what is held of a command.
use Rattle.std.specs.Prelude.{ℕ, List, [], ◌++◌, length, Option, Some, None, Bool, true, false}
use Rattle.line_door.specs.Acts.{Said, Departure}
use Rattle.line_door.specs.Cuts.{DoorLaws}
use Rattle.line_door.specs.Making.{closes, in_ways}
use Rattle.line_door.specs.Plain.{silent}
use Rattle.imap_framer.specs.Framing.{PartFront, LastPart, LiteralPart, ExcessPart, OpenPart, Framing, with_octets, front_of}

-- The front is a part that has ended or is too long, and so is answered now.
abbrev pub is_answered : PartFront → Bool
is_answered (LastPart part rest) = true
is_answered (LiteralPart part n rest) = true
is_answered (ExcessPart rest) = true
is_answered OpenPart = false

-- What is held after the end of a command.
abbrev pub only_rest : List ℕ → Framing
only_rest rest = record { held = []; owed = 0; part = rest }

-- What is held after a part that announces octets.
abbrev pub held_with : Framing → List ℕ → ℕ → List ℕ → Framing
held_with f part owed rest = record { held = f.held ++ part; owed = owed; part = rest }

-- A state with what is held, if there is one.
abbrev pub state_with : {S : Type 0} → Framing → Option S → Option (S × Framing)
state_with f None = None
state_with f (Some state) = Some (state, f)

-- The same words, where the session after them is the state with what is held.
abbrev pub beside : {S A : Type 0} → Framing → Said S A → Said (S × Framing) A
beside f s = record {
  next = state_with f s.next;
  words = s.words;
  streamed = s.streamed;
  after = s.after;
}

-- The session with more octets.
abbrev pub framed_more : {S : Type 0} → List ℕ → S × Framing → S × Framing
framed_more q h = (h.0, with_octets h.1 q)

-- The number of octets that the session hasn't answered.
abbrev pub framed_size : {S : Type 0} → S × Framing → ℕ
framed_size h = length h.1.part

-- A door: whether lines may announce octets in a state, what a whole command says in each way, what a
-- part says that announces octets, and the words for a command that is too long and for a rest that
-- finds no memory.
module _ {S A : Type 0} (literals : S → Bool) (answer : A → S → List ℕ → Departure → Said S A)
    (go_on : A → S → Departure → Said S A) (too_long no_memory : A → S → List ℕ) where
  -- What a rest says: it is kept, but out of memory closes the session with a word.
  abbrev pub rest_said : A → S × Framing → Departure → Said (S × Framing) A
  rest_said a h way = in_ways (silent a h) (closes a (no_memory a h.0)) (silent a h) way

  -- What the front of the octets says in each way. A command is all its parts.
  abbrev pub said_at : A → S × Framing → PartFront → Departure → Said (S × Framing) A
  said_at a h (LastPart part rest) way = beside (only_rest rest) (answer a h.0 (h.1.held ++ part) way)
  said_at a h (LiteralPart part n rest) way = beside (held_with h.1 part n rest) (go_on a h.0 way)
  said_at a h (ExcessPart rest) way = closes a (too_long a h.0)
  said_at a h OpenPart way = rest_said a h way

  -- What the door says.
  abbrev pub framed_said : A → S × Framing → Departure → Said (S × Framing) A
  framed_said a h way = said_at a h (front_of (literals h.0) h.1) way

  -- The octets start with a part that has ended, or that is too long.
  abbrev pub framed_request : S × Framing → Bool
  framed_request h = is_answered (front_of (literals h.0) h.1)

-- However the octets of such a door are cut into pieces, it says and leaves the same, with the other
-- laws of doors. Stated for states and archives that are numbers, and for all answers.
abbrev pub FramedLaw : Type 0
FramedLaw = (literals : ℕ → Bool) (answer : ℕ → ℕ → List ℕ → Departure → Said ℕ ℕ)
    (go_on : ℕ → ℕ → Departure → Said ℕ ℕ) (too_long no_memory : ℕ → ℕ → List ℕ)
    → DoorLaws (framed_said literals answer go_on too_long no_memory)
    (framed_request literals answer go_on too_long no_memory) framed_more framed_size
