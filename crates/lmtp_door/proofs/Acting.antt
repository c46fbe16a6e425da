-- The acts of the code on lines and data are acts of a session.
use Rattle.std.proofs.Common.{◌≡◌, ◌<◌, ◌≤◌, ◌+◌, ℕ, zero, suc, Bool, true, false, List, [], ◌++◌, length, drop, Option, Some, None, Result, is_ok, inl, inr, refl, sym, ap, ◌∙◌, arith, if◌then◌else◌}
use Rattle.edge_io.specs.Phrases.{Says}
use Rattle.edge_io.specs.declared.sink.SinkFault.{SinkFault}
use Rattle.line_door.specs.Acts.{ConnectionState, Departure, Plain, Memory, Acts, held_if}
use Rattle.line_door.specs.Clipped.{longest_line}
use Rattle.line_door.specs.Lines.{content}
use Rattle.line_door.specs.Making.{says}
use Rattle.line_door.specs.Plain.{silent}
use Rattle.line_door.specs.Skipping.{Taken, Skipped, Unended, skipping_front, held_of}
use Rattle.line_door.proofs.Acting.{acts-by_says, acts-by_held, acts-silent, acts-words}
use Rattle.lmtp_data.specs.Readings.{DataReading, DataRead, data_limit}
use Rattle.lmtp_data.proofs.Following.{read-shorter}
use Rattle.arch_model.specs.Standing.{LastKnown}
use Rattle.lmtp_door.specs.Commands.{command_of}
use Rattle.lmtp_door.specs.Courses.{at_work}
use Rattle.lmtp_door.specs.Door.{Guest, guest, LmtpFront, Commanded, Overlong, DataEnds, NotYet, line_front, data_front, front_of, front_in, is_whole, as_said, next_after, said_order, said_at, said, kept, kept_in, kept_data, recipients}
use Rattle.lmtp_door.specs.Notices.{notice_line, is_bye}
use Rattle.lmtp_door.specs.Phases.{LmtpPhase, Ungreeted, Greeted, Mailing, Receiving, Giving, LmtpReply, replies, starved, starved_data}
use Rattle.lmtp_door.specs.Sessions.{IsTurn, IsLineReply, IsLmtpAct, ReadsPhase, TakesWork, work_in, HoldsFor, went_or_kept}
use Rattle.lmtp_door.specs.declared.notice.LmtpNotice.{LmtpNotice}
use Rattle.lmtp_door.specs.declared.notice.LmtpNotice.TheVariants as notice
use Rattle.lmtp_door.specs.declared.order.LmtpOrder.{LmtpOrder}
use Rattle.lmtp_door.specs.declared.order.LmtpOrder.TheVariants as order
use Rattle.lmtp_door.specs.declared.session.LmtpAct.TheVariants as act
use Rattle.lmtp_door.specs.declared.stage.LmtpWork.{LmtpWork}
use Rattle.lmtp_door.specs.declared.stage.LmtpWork.TheVariants as work
use Rattle.lmtp_door.proofs.Cutting.{replied-few}

-- A command was answered.
held-is : (t ok goes : Bool) (new : LmtpPhase) (rest : List ℕ) (opened : Bool) → goes ≡ (if t then false else ok) → held_if goes (guest new rest opened) ≡ (if ok then next_after t new rest opened else None)
held-is true true goes new rest opened is = rw is refl
held-is true false goes new rest opened is = rw is refl
held-is false true goes new rest opened is = rw is refl
held-is false false goes new rest opened is = rw is refl

pub acts-turn : (s : LastKnown) (old : LmtpPhase) (opened : Bool) (asked : LmtpOrder) (rest : List ℕ) (what : LmtpNotice) (new : LmtpPhase) (i j : ConnectionState) (sent : Result Unit SinkFault) (goes : Bool)
    → IsTurn old asked what new → goes ≡ (if is_bye what then false else is_ok sent) → j.disk ≡ i.disk → Says (notice_line what) i.out i.lost j.out j.lost sent → Acts (said_order s old opened asked rest) i (held_if goes (guest new rest opened)) s j
acts-turn s old opened asked rest what new i j sent goes (inl is) goes_is kept said =
    acts-by_says (said_order s old opened asked rest) Plain (as_said s rest opened (replies what new)) i j (held_if goes (guest new rest opened)) s sent (ap (as_said s rest opened) is) kept (omega (arith, kept)) said (held-is (is_bye what) (is_ok sent) goes new rest opened goes_is) refl
acts-turn s old opened asked rest what new i j sent goes (inr is) goes_is kept said =
    acts-by_says (said_order s old opened asked rest) Memory (as_said s rest opened (replies what new)) i j (held_if goes (guest new rest opened)) s sent (ap (as_said s rest opened) is) kept (omega (arith, kept)) said (held-is (is_bye what) (is_ok sent) goes new rest opened goes_is) refl

-- The front of a phase that reads lines.
line-at : (phase : LmtpPhase) (bytes : List ℕ) → work_in phase ≡ work.ReadsLines → front_in phase bytes ≡ line_front (skipping_front longest_line bytes)
line-at Ungreeted bytes is = refl
line-at Greeted bytes is = refl
line-at (Mailing n) bytes is = refl
line-at (Receiving n r) bytes is = absurd (cc is)
line-at (Giving n text count) bytes is = absurd (cc is)

kept-at : (phase : LmtpPhase) (bytes : List ℕ) → work_in phase ≡ work.ReadsLines → kept_in phase bytes ≡ guest phase (held_of longest_line bytes) false
kept-at Ungreeted bytes is = refl
kept-at Greeted bytes is = refl
kept-at (Mailing n) bytes is = refl
kept-at (Receiving n r) bytes is = absurd (cc is)
kept-at (Giving n text count) bytes is = absurd (cc is)

module _ (moment : ℕ) (opened : Bool) (s : LastKnown) (old : Guest) (piece : List ℕ) where
  -- What is at the front says what the session says.
  pub acts-front : (x : LmtpFront) (i : ConnectionState) (held : Option Guest) (t : LastKnown) (j : ConnectionState) → front_of (at_work old piece opened) ≡ x → Acts (said_at moment s (at_work old piece opened) x) i held t j → Acts (said moment s (at_work old piece opened)) i held t j
  acts-front x i held t j is acts = acts-words (said moment s (at_work old piece opened)) (said_at moment s (at_work old piece opened) x) i held t j (λ way. ap (λ (y : LmtpFront). said_at moment s (at_work old piece opened) y way) is) acts

  went-at : (x : LmtpFront) (n : ℕ) (new : Guest) (i j : ConnectionState) (goes : Bool) → front_of (at_work old piece opened) ≡ x → is_whole x ≡ true → new.bytes ≡ [] → Acts (said_at moment s (at_work old piece opened) x) i (held_if goes (guest new.phase (drop n piece) opened)) s j
      → IsLmtpAct moment opened s old piece i (if goes then act.Went n else act.Closed) s new j
  went-at x n new i j true front whole none acts = (ap is_whole front ∙ whole, rw none (acts-front x i (Some (guest new.phase (drop n piece) opened)) s j front acts))
  went-at x n new i j false front whole none acts = acts-front x i None s j front acts

  -- A line that takes `n` bytes of the piece was answered.
  pub went-line : (name line : List ℕ) (n : ℕ) (new : Guest) (i j : ConnectionState) (goes : Bool) → work_in old.phase ≡ work.ReadsLines → s.archive.config.name ≡ name → skipping_front longest_line (old.bytes ++ piece) ≡ Taken line (drop n piece) → new.bytes ≡ []
      → IsLineReply s name old.phase opened (content line) (drop n piece) i goes new.phase j → IsLmtpAct moment opened s old piece i (if goes then act.Went n else act.Closed) s new j
  went-line name line n new i j goes lines named is none acts =
      went-at (Commanded (content line) (drop n piece)) n new i j goes (line-at old.phase (old.bytes ++ piece) lines ∙ ap line_front is) refl none
      (acts-words (λ way. said_order s old.phase opened (command_of s.archive.config.name (content line)) (drop n piece) way) (λ way. said_order s old.phase opened (command_of name (content line)) (drop n piece) way) i (held_if goes (guest new.phase (drop n piece) opened)) s j
      (λ way. ap (λ (m : List ℕ). said_order s old.phase opened (command_of m (content line)) (drop n piece) way) named) acts)

  -- A line that is too long was answered.
  pub went-long : (n : ℕ) (new : Guest) (i j : ConnectionState) (sent : Result Unit SinkFault) (goes : Bool) → work_in old.phase ≡ work.ReadsLines → skipping_front longest_line (old.bytes ++ piece) ≡ Skipped (drop n piece) → new ≡ guest old.phase [] false → goes ≡ is_ok sent → j.disk ≡ i.disk
      → Says (notice_line notice.LineTooLong) i.out i.lost j.out j.lost sent → IsLmtpAct moment opened s old piece i (if goes then act.Went n else act.Closed) s new j
  went-long n new i j sent goes lines is stands goes_is kept said =
      rw (goes_is, stands) (went-at (Overlong (drop n piece)) n (guest old.phase [] false) i j (is_ok sent) (line-at old.phase (old.bytes ++ piece) lines ∙ ap line_front is) refl refl
      (acts-by_held (λ (way : Departure). says s (guest old.phase (drop n piece) opened) (notice_line notice.LineTooLong)) Plain (says s (guest old.phase (drop n piece) opened) (notice_line notice.LineTooLong)) i j (guest old.phase (drop n piece) opened) s sent refl refl kept (omega (arith, kept)) said refl))

  -- A session that has no whole request is kept.
  kept-as : (new : Guest) (i : ConnectionState) → front_of (at_work old piece opened) ≡ NotYet → new ≡ kept (at_work old piece opened) → IsLmtpAct moment opened s old piece i act.Kept s new i
  kept-as new i front is = (
    ap is_whole front,
    refl,
    is,
    acts-front NotYet i (Some (at_work old piece opened)) s i front (acts-silent (λ (way : Departure). silent s (at_work old piece opened)) (silent s (at_work old piece opened)) i i (Some (at_work old piece opened)) s refl refl refl refl refl refl refl),
  )

  pub kept-line : (new : Guest) (i : ConnectionState) → work_in old.phase ≡ work.ReadsLines → skipping_front longest_line (old.bytes ++ piece) ≡ Unended → new ≡ guest old.phase (held_of longest_line (old.bytes ++ piece)) false → IsLmtpAct moment opened s old piece i act.Kept s new i
  kept-line new i lines is stands = kept-as new i (line-at old.phase (old.bytes ++ piece) lines ∙ ap line_front is) (stands ∙ sym (kept-at old.phase (old.bytes ++ piece) lines))

-- The data in a piece was read.
data-at : (moment : ℕ) (opened : Bool) (s : LastKnown) (left : ℕ) (r : DataReading) (piece : List ℕ) (new : LmtpPhase) (used : Option ℕ) (i : ConnectionState) → ReadsPhase (Receiving left r) piece used new
    → IsLmtpAct moment opened s (guest (Receiving left r) [] false) piece i (went_or_kept used) s (guest new [] false) i
data-at moment opened s left r piece new (Some n) i reads = (
  ap (λ (d : DataRead). is_whole (data_front left d)) reads.3,
  acts-front moment opened s (guest (Receiving left r) [] false) piece (DataEnds left reads.0 reads.1 (drop n piece)) i (Some (guest new (drop n piece) opened)) s i (ap (data_front left) reads.3)
      (acts-silent (λ (way : Departure). says s (guest (Giving left reads.0 reads.1) (drop n piece) opened) []) (says s (guest (Giving left reads.0 reads.1) (drop n piece) opened) []) i i (Some (guest new (drop n piece) opened)) s refl refl refl refl refl (ap (λ (p : LmtpPhase). Some (guest p (drop n piece) opened)) reads.4) refl),
)
data-at moment opened s left r piece new None i reads =
    kept-as moment opened s (guest (Receiving left r) [] false) piece (guest new [] false) i (ap (data_front left) reads.1)
    (ap (λ (p : LmtpPhase). guest p [] false) reads.2 ∙ sym (ap (λ (d : DataRead). guest (kept_data left r d) [] false) reads.1))

pub data-read : (moment : ℕ) (opened : Bool) (s : LastKnown) (old new : Guest) (piece : List ℕ) (used : Option ℕ) (i : ConnectionState) → work_in old.phase ≡ work.ReadsData → old ≡ guest old.phase [] false → new ≡ guest new.phase [] false
    → ReadsPhase old.phase piece used new.phase → IsLmtpAct moment opened s old piece i (went_or_kept used) s new i
data-read moment opened s old new piece used i there was is reads = by old.phase there was reads
  where
    by : (phase : LmtpPhase) → work_in phase ≡ work.ReadsData → old ≡ guest phase [] false → ReadsPhase phase piece used new.phase → IsLmtpAct moment opened s old piece i (went_or_kept used) s new i
    by Ungreeted there was reads = absurd (cc there)
    by Greeted there was reads = absurd (cc there)
    by (Mailing n) there was reads = absurd (cc there)
    by (Receiving left r) there was reads = rw (was, is) (data-at moment opened s left r piece new.phase used i reads)
    by (Giving n text count) there was reads = absurd (cc there)

-- A piece that ends the data has bytes of it.
some-taken : (n : ℕ) (piece : List ℕ) → length (drop n piece) < length piece → 0 < n
some-taken zero piece less = absurd (omega (arith, less))
some-taken (suc n) piece less = omega arith

pub data-takes : (opened : Bool) (old new : Guest) (piece : List ℕ) (used : Option ℕ) → work_in old.phase ≡ work.ReadsData → ReadsPhase old.phase piece used new.phase → TakesWork opened old piece (went_or_kept used) new
data-takes opened old new piece None there reads = tt
data-takes opened old new piece (Some n) there reads = by old.phase there reads
  where
    by : (phase : LmtpPhase) → work_in phase ≡ work.ReadsData → ReadsPhase phase piece (Some n) new.phase → (0 < n) × (n ≤ length piece) × (recipients new.phase ≤ recipients phase + 1)
    by Ungreeted there reads = absurd (cc there)
    by Greeted there reads = absurd (cc there)
    by (Mailing m) there reads = absurd (cc there)
    by (Receiving left r) there reads = (some-taken n piece (read-shorter data_limit r piece reads.0 reads.1 (drop n piece) reads.3), reads.2, (let e = ap recipients reads.4 in omega (arith, e)))
    by (Giving m text count) there reads = absurd (cc there)

-- A session in data holds no bytes.
pub data-held : (w : LmtpWork) (held : List ℕ) → w ≡ work.ReadsData → HoldsFor w held → held ≡ []
data-held work.ReadsLines held is holds = absurd (cc is)
data-held work.ReadsData held is holds = holds
data-held work.AnswersRecipient held is holds = absurd (cc is)

pub gift-held : (w : LmtpWork) (held : List ℕ) → w ≡ work.AnswersRecipient → HoldsFor w held → held ≡ []
gift-held work.ReadsLines held is holds = absurd (cc is)
gift-held work.ReadsData held is holds = absurd (cc is)
gift-held work.AnswersRecipient held is holds = holds

-- A command accepts one recipient at most.
starved-data-few : (phase : LmtpPhase) → recipients (starved_data phase).phase ≤ recipients phase + 1
starved-data-few Ungreeted = omega arith
starved-data-few Greeted = omega arith
starved-data-few (Mailing zero) = omega arith
starved-data-few (Mailing (suc n)) = omega arith
starved-data-few (Receiving n r) = omega arith
starved-data-few (Giving n text count) = omega arith

starved-few : (phase : LmtpPhase) (asked : LmtpOrder) → recipients (starved phase asked).phase ≤ recipients phase + 1
starved-few phase order.Hello = replied-few phase order.Hello
starved-few phase order.Mail = replied-few phase order.Mail
starved-few phase (order.Recipient ours) = replied-few phase (order.Recipient ours)
starved-few phase order.Data = starved-data-few phase
starved-few phase order.Reset = replied-few phase order.Reset
starved-few phase order.Noop = replied-few phase order.Noop
starved-few phase order.Verify = replied-few phase order.Verify
starved-few phase order.Quit = replied-few phase order.Quit
starved-few phase order.Mistaken = replied-few phase order.Mistaken
starved-few phase order.Unknown = replied-few phase order.Unknown

pub turn-few : (old : LmtpPhase) (asked : LmtpOrder) (what : LmtpNotice) (new : LmtpPhase) → IsTurn old asked what new → recipients new ≤ recipients old + 1
turn-few old asked what new (inl is) = let e = ap (λ (r : LmtpReply). recipients r.phase) is in omega (arith, e, replied-few old asked)
turn-few old asked what new (inr is) = let e = ap (λ (r : LmtpReply). recipients r.phase) is in omega (arith, e, starved-few old asked)

pub line-takes : (opened : Bool) (old new : Guest) (piece : List ℕ) (end : ℕ) (goes : Bool) → end < length piece → recipients new.phase ≤ recipients old.phase + 1 → TakesWork opened old piece (if goes then act.Went (end + 1) else act.Closed) new
line-takes opened old new piece end true within few = (omega arith, omega (arith, within), few)
line-takes opened old new piece end false within few = tt
