-- What is at the front of a session, and how more bytes change it.
use Rattle.std.proofs.Common.{◌≡◌, ◌<◌, ℕ, suc, true, false, List, [], ◌++◌, length, refl, sym, ap, ◌∙◌}
use Rattle.line_door.specs.Clipped.{longest_line}
use Rattle.line_door.specs.Lines.{content}
use Rattle.line_door.specs.Skipping.{SkippedLine, Taken, Skipped, Unended, skipping_front, held_of}
use Rattle.line_door.proofs.Passages.{passing-goes_on, passing-stays_skipped, passing-shorter, passing-shorter_skipped, skipping_laws}
use Rattle.lmtp_data.specs.Readings.{DataReading, DataRead, Unfinished, Finished, data_limit, read_on}
use Rattle.lmtp_data.proofs.Following.{read-more, read-shorter}
use Rattle.lmtp_door.specs.Door.{LmtpFront, Commanded, Overlong, DataEnds, GivesTo, NotYet, line_front, data_front, front_in, is_whole, recipients, kept_in, kept_data, guest}
use Rattle.lmtp_door.specs.Phases.{LmtpPhase, Ungreeted, Greeted, Mailing, Receiving, Giving}
use Rattle.lmtp_door.proofs.Reading.{read-on, take-again}

-- A whole front stays, and more bytes follow the rest.
pub data StaysFront (q : List ℕ) : LmtpFront → LmtpFront → Type 0 where
  SameCommand : (line rest : List ℕ) → StaysFront q (Commanded line rest) (Commanded line (rest ++ q))
  SameLong : (rest : List ℕ) → StaysFront q (Overlong rest) (Overlong (rest ++ q))
  SameEnd : (n : ℕ) (text : List ℕ) (count : ℕ) (rest : List ℕ) → StaysFront q (DataEnds n text count rest) (DataEnds n text count (rest ++ q))
  SameGift : (n : ℕ) (text : List ℕ) (count : ℕ) (rest : List ℕ) → StaysFront q (GivesTo n text count rest) (GivesTo n text count (rest ++ q))
  Begun : (next : LmtpFront) → StaysFront q NotYet next

line-stays : (q bytes : List ℕ) (f : SkippedLine) → skipping_front longest_line bytes ≡ f → StaysFront q (line_front f) (line_front (skipping_front longest_line (bytes ++ q)))
line-stays q bytes (Taken line rest) is = rw (passing-goes_on longest_line bytes q line rest is) (SameCommand (content line) rest)
line-stays q bytes (Skipped rest) is = rw (passing-stays_skipped longest_line bytes q rest is) (SameLong rest)
line-stays q bytes Unended is = Begun (line_front (skipping_front longest_line (bytes ++ q)))

data-stays : (q : List ℕ) (n : ℕ) (r : DataReading) (bytes : List ℕ) (d : DataRead) → read_on data_limit r bytes ≡ d → StaysFront q (data_front n d) (data_front n (read_on data_limit r (bytes ++ q)))
data-stays q n r bytes (Unfinished new) is = Begun (data_front n (read_on data_limit r (bytes ++ q)))
data-stays q n r bytes (Finished text count rest) is = rw (read-more data_limit r bytes q text count rest is) (SameEnd n text count rest)

pub front-stays : (q : List ℕ) (phase : LmtpPhase) (bytes : List ℕ) → StaysFront q (front_in phase bytes) (front_in phase (bytes ++ q))
front-stays q Ungreeted bytes = line-stays q bytes (skipping_front longest_line bytes) refl
front-stays q Greeted bytes = line-stays q bytes (skipping_front longest_line bytes) refl
front-stays q (Mailing n) bytes = line-stays q bytes (skipping_front longest_line bytes) refl
front-stays q (Receiving n r) bytes = data-stays q n r bytes (read_on data_limit r bytes) refl
front-stays q (Giving n text count) bytes = SameGift n text count bytes

-- What is left after a front.
abbrev pub FrontFits : LmtpPhase → List ℕ → LmtpFront → Type 0
FrontFits phase bytes (Commanded line rest) = length rest < length bytes
FrontFits phase bytes (Overlong rest) = length rest < length bytes
FrontFits phase bytes (DataEnds n text count rest) = (length rest < length bytes) × (recipients phase ≡ suc n)
FrontFits phase bytes (GivesTo n text count rest) = (rest ≡ bytes) × (recipients phase ≡ suc n)
FrontFits phase bytes NotYet = Unit {0}

line-fits : (phase : LmtpPhase) (bytes : List ℕ) (f : SkippedLine) → skipping_front longest_line bytes ≡ f → FrontFits phase bytes (line_front f)
line-fits phase bytes (Taken line rest) is = passing-shorter longest_line bytes line rest is
line-fits phase bytes (Skipped rest) is = passing-shorter_skipped longest_line bytes rest is
line-fits phase bytes Unended is = tt

data-fits : (n : ℕ) (r : DataReading) (bytes : List ℕ) (d : DataRead) → read_on data_limit r bytes ≡ d → FrontFits (Receiving n r) bytes (data_front n d)
data-fits n r bytes (Unfinished new) is = tt
data-fits n r bytes (Finished text count rest) is = (read-shorter data_limit r bytes text count rest is, refl)

pub front-fits : (phase : LmtpPhase) (bytes : List ℕ) → FrontFits phase bytes (front_in phase bytes)
front-fits Ungreeted bytes = line-fits Ungreeted bytes (skipping_front longest_line bytes) refl
front-fits Greeted bytes = line-fits Greeted bytes (skipping_front longest_line bytes) refl
front-fits (Mailing n) bytes = line-fits (Mailing n) bytes (skipping_front longest_line bytes) refl
front-fits (Receiving n r) bytes = data-fits n r bytes (read_on data_limit r bytes) refl
front-fits (Giving n text count) bytes = (refl, refl)

-- A front that isn't whole has only begun.
pub not-whole : (f : LmtpFront) → is_whole f ≡ false → f ≡ NotYet
not-whole (Commanded line rest) h = absurd (cc h)
not-whole (Overlong rest) h = absurd (cc h)
not-whole (DataEnds n text count rest) h = absurd (cc h)
not-whole (GivesTo n text count rest) h = absurd (cc h)
not-whole NotYet h = refl

pub stays-whole : (q : List ℕ) (f g : LmtpFront) → StaysFront q f g → is_whole f ≡ true → is_whole g ≡ true
stays-whole q f g (SameCommand line rest) h = refl
stays-whole q f g (SameLong rest) h = refl
stays-whole q f g (SameEnd n text count rest) h = refl
stays-whole q f g (SameGift n text count rest) h = refl
stays-whole q f g (Begun next) h = absurd (cc h)

-- What is kept of a session goes on as the session would.
line-kept : (bytes q : List ℕ) (f : SkippedLine) → skipping_front longest_line bytes ≡ f → is_whole (line_front f) ≡ false → line_front (skipping_front longest_line (held_of longest_line bytes ++ q)) ≡ line_front (skipping_front longest_line (bytes ++ q))
line-kept bytes q (Taken line rest) is h = absurd (cc h)
line-kept bytes q (Skipped rest) is h = absurd (cc h)
line-kept bytes q Unended is h = ap line_front (skipping_laws.held longest_line bytes q is)

data-kept : (n : ℕ) (r : DataReading) (bytes q : List ℕ) (d : DataRead) → read_on data_limit r bytes ≡ d → is_whole (data_front n d) ≡ false → front_in (kept_in (Receiving n r) bytes).phase ((kept_in (Receiving n r) bytes).bytes ++ q) ≡ front_in (Receiving n r) (bytes ++ q)
data-kept n r bytes q (Unfinished new) is h = rw is (ap (data_front n) (read-on data_limit r new bytes q is))
data-kept n r bytes q (Finished text count rest) is h = absurd (cc h)

pub front-kept : (phase : LmtpPhase) (bytes q : List ℕ) → is_whole (front_in phase bytes) ≡ false → front_in (kept_in phase bytes).phase ((kept_in phase bytes).bytes ++ q) ≡ front_in phase (bytes ++ q)
front-kept Ungreeted bytes q h = line-kept bytes q (skipping_front longest_line bytes) refl h
front-kept Greeted bytes q h = line-kept bytes q (skipping_front longest_line bytes) refl h
front-kept (Mailing n) bytes q h = line-kept bytes q (skipping_front longest_line bytes) refl h
front-kept (Receiving n r) bytes q h = data-kept n r bytes q (read_on data_limit r bytes) refl h
front-kept (Giving n text count) bytes q h = absurd (cc h)

held-again : (phase : LmtpPhase) (bytes q : List ℕ) → guest phase (held_of longest_line (held_of longest_line bytes ++ q)) false ≡ guest phase (held_of longest_line (bytes ++ q)) false
held-again phase bytes q = ap (λ (b : List ℕ). guest phase b false) (sym (take-again longest_line bytes q))

data-again : (n : ℕ) (r : DataReading) (bytes q : List ℕ) (d e : DataRead) → read_on data_limit r bytes ≡ d → is_whole (data_front n d) ≡ false → read_on data_limit r (bytes ++ q) ≡ e → is_whole (data_front n e) ≡ false
    → kept_in (kept_in (Receiving n r) bytes).phase ((kept_in (Receiving n r) bytes).bytes ++ q) ≡ kept_in (Receiving n r) (bytes ++ q)
data-again n r bytes q (Unfinished new) (Unfinished later) is h then g =
    let goes : read_on data_limit new q ≡ Unfinished later = read-on data_limit r new bytes q is ∙ then in
    rw is (ap (λ (x : DataRead). guest (kept_data n new x) [] false) goes ∙ sym (ap (λ (x : DataRead). guest (kept_data n r x) [] false) then))
data-again n r bytes q (Unfinished new) (Finished text count rest) is h then g = absurd (cc g)
data-again n r bytes q (Finished text count rest) e is h then g = absurd (cc h)

pub kept-again : (phase : LmtpPhase) (bytes q : List ℕ) → is_whole (front_in phase bytes) ≡ false → is_whole (front_in phase (bytes ++ q)) ≡ false → kept_in (kept_in phase bytes).phase ((kept_in phase bytes).bytes ++ q) ≡ kept_in phase (bytes ++ q)
kept-again Ungreeted bytes q h g = held-again Ungreeted bytes q
kept-again Greeted bytes q h g = held-again Greeted bytes q
kept-again (Mailing n) bytes q h g = held-again (Mailing n) bytes q
kept-again (Receiving n r) bytes q h g = data-again n r bytes q (read_on data_limit r bytes) (read_on data_limit r (bytes ++ q)) refl h refl g
kept-again (Giving n text count) bytes q h g = absurd (cc h)

-- Only a line is answered by where the session stands, and a session that keeps a line's front stands
-- there, too.
line-not : (n : ℕ) (d : DataRead) (line rest : List ℕ) → data_front n d ≡ Commanded line rest → ⊥
line-not n (Unfinished new) line rest is = cc is
line-not n (Finished text count after) line rest is = cc is

long-not : (n : ℕ) (d : DataRead) (rest : List ℕ) → data_front n d ≡ Overlong rest → ⊥
long-not n (Unfinished new) rest is = cc is
long-not n (Finished text count after) rest is = cc is

pub command-phase : (phase : LmtpPhase) (bytes more line rest : List ℕ) → front_in phase more ≡ Commanded line rest → (kept_in phase bytes).phase ≡ phase
command-phase Ungreeted bytes more line rest is = refl
command-phase Greeted bytes more line rest is = refl
command-phase (Mailing n) bytes more line rest is = refl
command-phase (Receiving n r) bytes more line rest is = absurd (line-not n (read_on data_limit r more) line rest is)
command-phase (Giving n text count) bytes more line rest is = absurd (cc is)

pub long-phase : (phase : LmtpPhase) (bytes more rest : List ℕ) → front_in phase more ≡ Overlong rest → (kept_in phase bytes).phase ≡ phase
long-phase Ungreeted bytes more rest is = refl
long-phase Greeted bytes more rest is = refl
long-phase (Mailing n) bytes more rest is = refl
long-phase (Receiving n r) bytes more rest is = absurd (long-not n (read_on data_limit r more) rest is)
long-phase (Giving n text count) bytes more rest is = absurd (cc is)
