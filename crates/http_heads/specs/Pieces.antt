-- Pieces of bytes, between the bytes of one value.
use Rattle.std.specs.Prelude.{ℕ, ◌==◌, List, [], Option, Some, None}
use Rattle.std.specs.Borrow.{Bor}
use Rattle.std.specs.List.{slice_split}

-- The pieces between the bytes of one value, of which there is one more than of these.
abbrev pub pieces_of : ℕ → List ℕ → List (List ℕ)
pieces_of stop bytes = slice_split (λ b. b == stop) bytes

-- The pieces that are left, if bytes are.
abbrev pub pieces_left : ℕ → Option (Bor (List ℕ)) → List (List ℕ)
pieces_left stop None = []
pieces_left stop (Some rest) = pieces_of stop rest.now
