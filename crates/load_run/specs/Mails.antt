-- The messages of a load run: a generator of numbers, and the bytes of a message.
use Rattle.std.specs.Prelude.{ℕ, zero, suc, ◌+◌, ◌-◌, ◌*◌, ◌/◌, ◌%◌, ◌^◌, Bool, not, ◌&&◌, ◌==◌, nat_lt, List, [], ◌++◌, codes, decimal, if◌then◌else◌}

-- The state after another one: a linear congruential generator modulo 2^64.
abbrev pub next_state : ℕ → ℕ
next_state x = (x * 6364136223846793005 + 1442695040888963407) % 2 ^ 64

-- The state after so many steps from a seed.
abbrev pub state_after : ℕ → ℕ → ℕ
state_after seed zero = seed
state_after seed (suc i) = next_state (state_after seed i)

-- The number that is drawn from a state: its upper 31 bits.
abbrev pub drawn : ℕ → ℕ
drawn x = x / 2 ^ 33

-- A message answers an earlier one, unless it is the first or its number modulo 5 is 0.
abbrev pub answers : ℕ → ℕ → Bool
answers i r = nat_lt 1 i && not (r % 5 == 0)

-- The message that is answered: one from 1 to the one before.
abbrev pub answered : ℕ → ℕ → ℕ
answered i r = 1 + r / 5 % (i - 1)

-- Words, a number in decimal, and words.
abbrev pub around : List ℕ → ℕ → List ℕ → List ℕ
around before n after = before ++ (decimal n ++ after)

-- The field of the author, one of 97.
unfoldable pub from_line : ℕ → List ℕ
from_line r =
    around (codes "From: User ") (r % 97) (around (codes " <u") (r % 97) (codes "@load.invalid>\n"))

-- The field of the subject, one of 31.
unfoldable pub subject_line : ℕ → List ℕ
subject_line r = around (codes "Subject: load topic ") (r % 31) (codes "\n")

-- The field of the message's own id.
unfoldable pub id_line : ℕ → List ℕ
id_line i = around (codes "Message-ID: <") i (codes "@load.invalid>\n")

-- The field of the id of a message that is answered.
unfoldable pub answer_line : ℕ → List ℕ
answer_line n = around (codes "References: <") n (codes "@load.invalid>\n")

-- The field of the answered message's id, if one is answered.
abbrev pub references_line : ℕ → ℕ → List ℕ
references_line i r = if answers i r then answer_line (answered i r) else []

-- The empty line, and the body, one of 1,009.
unfoldable pub body_lines : ℕ → List ℕ
body_lines r = around (codes "\nbody ") (r % 1009) (codes " word\n")

-- Message i with the number r.
unfoldable pub mail : ℕ → ℕ → List ℕ
mail i r = from_line r ++ (subject_line r ++ (id_line i ++ (references_line i r ++ body_lines r)))

-- Message i of a seed: its number is drawn from the state after i steps.
abbrev pub mail_of : ℕ → ℕ → List ℕ
mail_of seed i = mail i (drawn (state_after seed i))
