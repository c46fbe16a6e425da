-- Private: what a parser of scripts finds at the front of a text.
use Rattle.std.specs.Prelude.{◌≡◌, ◌≢◌, ◌<◌, ℕ, ◌==◌, false, List, [], ◌∷◌, ◌++◌, length, Option, MatchOption}
use Rattle.edge_io.specs.Events.{IsEvent, IsConnection, IsDoor, IsPieceLen, door_word, spelled}
use Rattle.edge_io.specs.declared.events.Door.{Door}
use Rattle.std.specs.Fmt.{decimal}
use Rattle.edge_io.specs.Scripts.{HasNoFirst}
use Rattle.edge_io.specs.declared.reading.Parts.{Parts}
use Rattle.edge_io.specs.declared.reading.First.{First}

-- The text does not contain the byte.
abbrev pub LacksByte : ℕ → List ℕ → Type 0
LacksByte byte [] = Unit {0}
LacksByte byte (b ∷ bs) = ((b == byte) ≡ false) × LacksByte byte bs

-- The parts of a text before and after the first such byte, or none if it has no such byte.
abbrev pub Divides : ℕ → List ℕ → Option Parts → Type 0
Divides byte text found = MatchOption found (LacksByte byte text) (λ parts. LacksByte byte parts.before.now
    × (text ≡ parts.before.now ++ byte ∷ parts.after.now))

-- The value of a kind that a text spells, or none if it spells no value of that kind.
abbrev pub Spells : {A : Type 0} → (A → Type 0) → (A → List ℕ) → List ℕ → Option A → Type 0
Spells Is spelling text found =
    MatchOption found ((x : _) → Is x → text ≢ spelling x) (λ x. Is x × (text ≡ spelling x))

-- A connection and a door that a script may have.
abbrev pub IsScriptOpening : ℕ × Door → Type 0
IsScriptOpening opening = IsConnection opening.0 × IsDoor opening.1

-- The form of an opening: the connection, a space, and the door.
abbrev pub opening_words : ℕ × Door → List ℕ
opening_words opening = decimal opening.0 ++ 32 ∷ door_word opening.1

-- A connection, and a length of a piece, that a script may have.
abbrev pub IsSending : ℕ × ℕ → Type 0
IsSending sending = IsConnection sending.0 × IsPieceLen sending.1

-- The form of a sending: the connection, a space, and the length.
abbrev pub sending_words : ℕ × ℕ → List ℕ
sending_words sending = decimal sending.0 ++ 32 ∷ decimal sending.1

-- A piece of `len` bytes and the line feed after it, and the remaining bytes, or none if the text
-- does not start with these.
abbrev pub HasPiece : ℕ → List ℕ → Option Parts → Type 0
HasPiece len text found =
    MatchOption found ((piece after : List ℕ) → length piece ≡ len → text ≢ piece ++ 10 ∷ after)
    (λ parts. (length parts.before.now ≡ len) × (text ≡ parts.before.now ++ 10 ∷ parts.after.now))

-- The first event of some bytes, its piece and the remaining bytes, or none if no event is first.
abbrev pub IsFirstEvent : List ℕ → Option First → Type 0
IsFirstEvent bytes found =
    MatchOption found (HasNoFirst bytes)
    (λ first. IsEvent first.event first.piece.now × (bytes ≡ spelled first.event first.piece.now
    ++ first.rest.now) × (length first.rest.now < length bytes))
