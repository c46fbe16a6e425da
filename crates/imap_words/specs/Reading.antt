-- Reading from the front of some octets: what is read, and the octets after it.
use Rattle.std.specs.Prelude.{◌≡◌, ℕ, zero, suc, Bool, true, false, ◌==◌, List, [], ◌∷◌, length, take, drop, Option, Some, None, Result, Ok, Err, if◌then◌else◌}
use Rattle.std.specs.List.{prefix_len}
use Rattle.std.specs.Borrow.{Bor}
use Rattle.imap_words.specs.Kinds.{is_word_byte}
use Rattle.imap_words.specs.declared.stop.Stop.{Stop}
use Rattle.imap_words.specs.declared.stop.Stop.TheVariants as stop

infixl 10 ◌>>=◌
-- What is read of what was read before, if there is something.
abbrev pub ◌>>=◌ : {A B : Type 0} → Option A → (A → Option B) → Option B
None >>= f = None
(Some x) >>= f = f x

-- A value with the octets after it, if there is one.
abbrev pub with_rest : {A : Type 0} → List ℕ → Option A → Option (A × List ℕ)
with_rest rest None = None
with_rest rest (Some x) = Some (x, rest)

-- An attempt to read stopped: nothing can be read, or memory ran out.
abbrev pub Refuses : {Y : Type 0} → Stop → Option Y → Type 0
Refuses stop.Bad read = read ≡ None
Refuses stop.NoMemory read = Unit {0}

-- An attempt to read gave what can be read, and left the octets after it, unless memory ran out.
abbrev pub Obtains : {X : Type 0} → List ℕ → Result X Stop → Option (X × List ℕ) → Type 0
Obtains rest (Ok x) read = read ≡ Some (x, rest)
Obtains rest (Err e) read = Refuses e read

-- The same of octets that are lent.
abbrev pub ObtainsSlice : List ℕ → Result (Bor (List ℕ)) Stop → Option (List ℕ × List ℕ) → Type 0
ObtainsSlice rest (Ok x) read = read ≡ Some (x.now, rest)
ObtainsSlice rest (Err e) read = Refuses e read

-- The same, where nothing but the octets after it is read.
abbrev pub Skips : {X : Type 0} → List ℕ → Result X Stop → Option (List ℕ) → Type 0
Skips rest (Ok x) read = read ≡ Some rest
Skips rest (Err e) read = Refuses e read

-- A copy was made of some octets, unless memory ran out.
abbrev pub Copies : Result (List ℕ) Stop → List ℕ → Type 0
Copies (Ok x) octets = x ≡ octets
Copies (Err e) octets = e ≡ stop.NoMemory

-- The octets after an expected one.
abbrev pub byte_at : ℕ → List ℕ → Option (List ℕ)
byte_at b [] = None
byte_at b (c ∷ cs) = if c == b then Some cs else None

-- An octet was read, if it came next.
abbrev pub TakesByte : ℕ → List ℕ → List ℕ → Bool → Type 0
TakesByte b old new true = byte_at b old ≡ Some new
TakesByte b old new false = (byte_at b old ≡ None) × (new ≡ old)

-- One or more octets of a kind, as many as there are.
abbrev pub run_at : (ℕ → Bool) → List ℕ → Option (List ℕ × List ℕ)
run_at kind octets =
    if prefix_len kind octets == 0 then None
    else Some (take (prefix_len kind octets) octets, drop (prefix_len kind octets) octets)

-- The keyword at the front: letters, digits and dots, as many as there are.
abbrev pub word_of : List ℕ → List ℕ
word_of octets = take (prefix_len is_word_byte octets) octets

-- The octets after it.
abbrev pub behind_word : List ℕ → List ℕ
behind_word octets = drop (prefix_len is_word_byte octets) octets

-- The octets after a line end: a line feed, before which a carriage return may stand.
abbrev pub line_end_at : List ℕ → Option (List ℕ)
line_end_at [] = None
line_end_at (c ∷ cs) = if c == 13 then byte_at 10 cs else byte_at 10 (c ∷ cs)

-- A line end with nothing after it.
abbrev pub nothing_left : List ℕ → Option (List ℕ)
nothing_left [] = Some []
nothing_left (c ∷ cs) = None

-- The end of a command: a line end, and nothing after it.
unfoldable pub end_at : List ℕ → Option (List ℕ)
end_at octets = do
  rest ← line_end_at octets
  nothing_left rest

-- Something before others that are read.
abbrev pub with_first : {A : Type 0} → A → Option (List A × List ℕ) → Option (List A × List ℕ)
with_first x None = None
with_first x (Some p) = Some (x ∷ p.0, p.1)

-- Something alone, or before those that are read after a space.
abbrev pub behind_space : {A : Type 0} → (List ℕ → Option (List A × List ℕ)) → A → List ℕ
    → Option (List ℕ) → Option (List A × List ℕ)
behind_space more x octets None = Some (x ∷ [], octets)
behind_space more x octets (Some rest) = with_first x (more rest)

-- One or more things with single spaces between them, at most `n`, each of which is read by `read`.
-- Each has an octet, so the number of octets is as good as no bound.
abbrev pub many_at : {A : Type 0} → (List ℕ → Option (A × List ℕ)) → ℕ → List ℕ → Option (List A × List ℕ)
many_at read zero octets = None
many_at read (suc n) octets = do
  first ← read octets
  behind_space (many_at read n) first.0 first.1 (byte_at 32 first.1)
