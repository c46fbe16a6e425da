-- The ids in a value (RFC 5322, section 3.6.4).
use Rattle.std.specs.Borrow.{Bor}
use Rattle.std.specs.Prelude.{◌≡◌, ◌<◌, ◌≤◌, true, false, length, MatchOption, ℕ, ◌+◌, Bool, ◌&&◌, not, ◌==◌, nat_le, List, [], ◌∷◌, take, slice_index, Option, None, Some, if◌then◌else◌, codes, option_and_then}
use Rattle.std.specs.List.{prefix_len}
use Rattle.mail_reader.specs.Fields.{FieldText, fields_of, first_named}

-- A byte of an id between its brackets: printable ASCII other than the brackets.
abbrev pub is_id_byte : ℕ → Bool
is_id_byte b = nat_le 33 b && nat_le b 126 && not (b == 60) && not (b == 62)

-- The number of bytes of an id at the front.
abbrev pub id_len : List ℕ → ℕ
id_len bytes = prefix_len is_id_byte bytes

-- The bytes start with 1 to 248 bytes of an id, and a closing bracket follows.
abbrev pub closes_id : List ℕ → Bool
closes_id bytes =
    nat_le 1 (id_len bytes) && nat_le (id_len bytes) 248 && slice_index bytes (id_len bytes) == 62

-- The ids of a value, from left to right, in their brackets.
abbrev pub ids_of : List ℕ → List (List ℕ)
ids_of [] = []
ids_of (b ∷ bs) =
    if b == 60 && closes_id bs then (60 ∷ take (id_len bs + 1) bs) ∷ ids_of bs else ids_of bs

-- The first element of a list.
abbrev pub first_of : {X : Type 0} → List X → Option X
first_of [] = None
first_of (x ∷ xs) = Some x

-- The own id of a text: the first id of the first Message-ID field.
unfoldable pub own_id : List ℕ → Option (List ℕ)
own_id text = option_and_then (λ (field : FieldText).
    first_of (ids_of field.value)) (first_named (codes "Message-ID") (fields_of text))

-- The length of the id that is closed after an opening bracket is found, or none is closed there.
abbrev pub ClosesId : List ℕ → Option ℕ → Type 0
ClosesId bytes found =
    MatchOption found (closes_id bytes ≡ false) (λ len. (closes_id bytes ≡ true)
    × (len ≡ id_len bytes) × (len < length bytes))

-- The rest of a value from its first opening bracket on.
pub record OpensId (value piece : List ℕ) : Type 0 where
  pub ids : ids_of value ≡ ids_of piece
  pub bracket : slice_index piece 0 ≡ 60
  pub some : 0 < length piece
  pub within : length piece ≤ length value

-- The first id of a value, and the bytes with the others.
abbrev pub SplitsId : List ℕ → Option (Bor (List ℕ)) × Bor (List ℕ) → Type 0
SplitsId value split =
    MatchOption split.0 ((ids_of value ≡ [])
    × (ids_of split.1.now ≡ [])) (λ id. ids_of value ≡ id.now ∷ ids_of split.1.now)
