-- The answer to a piece as a function: nothing fails, and no send is lost.
use Rattle.std.specs.Prelude.{ℕ, zero, suc, List, [], ◌++◌, Option, Some, None, Bool, true, false}
use Rattle.line_door.specs.Acts.{Said, Departure, Plain}

-- Nothing is said, and nothing changes.
abbrev pub silent : {H A : Type 0} → A → H → Said H A
silent a h = record { next = Some h; words = []; streamed = false; after = a }

-- The same, with these words first.
abbrev pub said_after : {H A : Type 0} → List ℕ → Said H A → Said H A
said_after words s =
    record { next = s.next; words = words ++ s.words; streamed = s.streamed; after = s.after }

-- What is said after `s` by the session after it, if that is open.
abbrev pub then_by : {H A : Type 0} → Option H → Said H A → (A → H → Said H A) → Said H A
then_by None s more = s
then_by (Some h) s more = said_after s.words (more s.after h)

-- What is said, and then what the session after it says.
abbrev pub then_say : {H A : Type 0} → Said H A → (A → H → Said H A) → Said H A
then_say s more = then_by s.next s more

-- A request is answered, and more may follow. A rest is kept.
abbrev pub if_request : {H A : Type 0} → Bool → (A → H → Departure → Said H A) → (A → H → Said H A) → A
    → H → Said H A
if_request true said more a h = then_say (said a h Plain) more
if_request false said more a h = silent a h

-- What up to `n` requests at the front say, and the session after them.
abbrev pub plain_from : {H A : Type 0} → (A → H → Departure → Said H A) → (H → Bool) → ℕ → A → H → Said H A
plain_from said is_request zero a h = silent a h
plain_from said is_request (suc n) a h =
    if_request (is_request h) said (plain_from said is_request n) a h

-- What all whole requests at the front say, in order, until the session is closed or none is left.
-- A request that leaves the session open makes it smaller, so their number is limited by its size.
unfoldable pub plain : {H A : Type 0} → (A → H → Departure → Said H A) → (H → Bool) → (H → ℕ) → A → H
    → Said H A
plain said is_request size a h = plain_from said is_request (suc (size h)) a h
