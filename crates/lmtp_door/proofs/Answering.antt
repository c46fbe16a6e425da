-- What the calls of a keeper mean for a recipient.
use Rattle.std.proofs.Common.{◌≡◌, ◌≤◌, ℕ, zero, suc, Bool, true, false, List, [], ◌++◌, nat_lt, Option, Some, None, is_ok, Result, Ok, inl, inr, refl, sym, ap, ◌∙◌, subst, arith, if◌then◌else◌}
use Rattle.std.proofs.lemmas.Bool.{false≢true}
use Rattle.edge_io.specs.Phrases.{Says}
use Rattle.edge_io.specs.declared.sink.SinkFault.{SinkFault}
use Rattle.edge_io.proofs.Wording.{plus-none}
use Rattle.line_door.specs.Acts.{ConnectionState, Said, Departure, Plain, Memory, Disk, Newer, Acts, held_if}
use Rattle.line_door.specs.Making.{says}
use Rattle.line_door.proofs.Acting.{acts-by_held, acts-words}
use Rattle.line_door.specs.Clipped.{longest_line}
use Rattle.line_door.specs.Skipping.{SkippedLine, Taken, Skipped, Unended, skipping_front}
use Rattle.lmtp_data.specs.Readings.{DataRead, Unfinished, Finished, data_limit, read_on}
use Rattle.arch_model.specs.Archives.{Archive}
use Rattle.arch_model.specs.Delivery.{Done, delivered, applied}
use Rattle.arch_model.specs.Standing.{LastKnown, standing, unsure, IsFound}
use Rattle.arch_model.specs.Keeping.{MatchesKnown, KeeperMoves, Settles, ReopeningRefused, OpeningWhy, ending, CommandGives, CommandTaken, StaysReady, AnswerCause, Keeper}
use Rattle.arch_model.specs.declared.answer.Answer.{Answer}
use Rattle.arch_model.specs.declared.answer.Answer.TheVariants as answer
use Rattle.arch_model.specs.declared.command.Command.{Command}
use Rattle.arch_model.specs.declared.opening.OpenRefusal.{OpenRefusal}
use Rattle.arch_model.specs.declared.opening.OpenRefusal.TheVariants as opening
use Rattle.arch_model.proofs.Keepers.{settled-is, moves-same}
use Rattle.keep_course.specs.Answering.{newer_of, newer, SaidAll, RefusedBy, way_of_ending, KeeperAsked, AsksNoDisk, AsksReopening, AsksCommand, AsksDelivery, command_asked, DoesAsked}
use Rattle.keep_course.proofs.Commands.{all-said, commanded, reopening-nothing}
use Rattle.lmtp_door.specs.Courses.{at_work}
use Rattle.lmtp_door.specs.Door.{Guest, guest, LmtpFront, GivesTo, line_front, data_front, front_of, front_in, is_whole, given_to, said_opening, said_giving, said_to_one, said_at, said, asks, asks_for, asks_to_one}
use Rattle.lmtp_door.specs.Notices.{reply_line, unopened_line}
use Rattle.lmtp_door.specs.Phases.{LmtpPhase, Ungreeted, Greeted, Mailing, Receiving, Giving}
use Rattle.lmtp_door.specs.Sessions.{IsLmtpAct, LmtpActs, left_by, left_in, text_in, count_in, phase_after, work_in}
use Rattle.lmtp_door.specs.declared.session.LmtpAct.{LmtpAct}
use Rattle.lmtp_door.specs.declared.session.LmtpAct.TheVariants as act
use Rattle.lmtp_door.specs.declared.stage.LmtpWork.TheVariants as work
use Rattle.lmtp_door.proofs.Naming.{opening-name, giving-name, acts-name}

-- The archive was reopened before a recipient, or that was refused.
module _ (s : LastKnown) (ready next : Guest) where
  said_nothing : (i j : ConnectionState) → j.out ≡ i.out → j.lost ≡ i.lost → Says [] i.out i.lost j.out j.lost (Ok tt)
  said_nothing i j out lost = (lost, out ∙ plus-none i.out)

  settled_as : (t : LastKnown) (b : Archive) → t.archive ≡ b → t.in_doubt ≡ None → t ≡ standing b None
  settled_as t b found sure = ap (λ (d : Option Archive). standing t.archive d) sure ∙ ap (λ (x : Archive). standing x None) found

  pub opening-found : (t : LastKnown) (i j : ConnectionState) → Settles s t → j.disk ≡ i.disk → j.out ≡ i.out → j.lost ≡ i.lost → Acts (said_opening s ready next) i (Some ready) t j
  opening-found t i j settles kept out lost = by settles.found
    where
      by : IsFound s t.archive → Acts (said_opening s ready next) i (Some ready) t j
      by (inl older) =
          acts-by_held (said_opening s ready next) Plain (says (standing s.archive None) ready []) i j ready t (Ok tt) refl refl kept (omega (arith, kept)) (said_nothing i j out lost) (settled_as t s.archive older settles.sure)
      by (inr in_doubt) =
          let is : t.archive ≡ newer s = sym (ap (newer_of s.archive) in_doubt) in
          acts-by_held (said_opening s ready next) Newer (says (standing (newer s) None) ready []) i j ready t (Ok tt) refl refl kept (omega (arith, kept)) (said_nothing i j out lost) (settled_as t (newer s) is settles.sure)

  pub opening-refused : (t : LastKnown) (why : OpenRefusal) (i j : ConnectionState) (sent : Result Unit SinkFault) → ReopeningRefused s why t → OpeningWhy i.disk j.disk why → i.disk ≤ j.disk → Says (unopened_line why) i.out i.lost j.out j.lost sent
      → Acts (said_opening s ready next) i (held_if (is_ok sent) next) t j × RefusedBy (said_opening s ready next) i (held_if (is_ok sent) next) t j
  opening-refused t opening.DiskFault i j sent same cause later said = (
    acts-by_held (said_opening s ready next) Disk (says (unsure s) next (unopened_line opening.DiskFault)) i j next t sent refl refl cause later said same,
    inr (all-said (says (unsure s) next (unopened_line opening.DiskFault)) next i j t sent refl said same),
  )
  opening-refused t opening.NoMemory i j sent same cause later said = (
    acts-by_held (said_opening s ready next) Memory (says s next (unopened_line opening.NoMemory)) i j next t sent refl refl cause later said same,
    inl (all-said (says s next (unopened_line opening.NoMemory)) next i j t sent refl said same),
  )
  opening-refused t opening.NoArchive i j sent never cause later said = absurd never
  opening-refused t (opening.Damaged file at) i j sent never cause later said = absurd never

-- A session that has recipients left.
pub giving-is : (phase : LmtpPhase) → work_in phase ≡ work.AnswersRecipient → phase ≡ Giving (left_in phase) (text_in phase) (count_in phase)
giving-is Ungreeted is = absurd (cc is)
giving-is Greeted is = absurd (cc is)
giving-is (Mailing n) is = absurd (cc is)
giving-is (Receiving n r) is = absurd (cc is)
giving-is (Giving n text count) is = refl

given-is : (n : ℕ) (text : List ℕ) (count : ℕ) (rest : List ℕ) → given_to n text count rest ≡ guest (given_to n text count []).phase rest false
given-is zero text count rest = refl
given-is (suc n) text count rest = refl

module _ (moment : ℕ) (opened : Bool) (s : LastKnown) (phase : LmtpPhase) (piece : List ℕ) (gives : work_in phase ≡ work.AnswersRecipient) where
  abbrev front_here : LmtpFront
  front_here = GivesTo (left_in phase) (text_in phase) (count_in phase) piece

  abbrev next_here : Guest
  next_here = given_to (left_in phase) (text_in phase) (count_in phase) piece

  abbrev pub old_here : Guest
  old_here = guest phase [] false

  front-here : front_of (at_work old_here piece opened) ≡ front_here
  front-here = ap (λ (p : LmtpPhase). front_in p piece) (giving-is phase gives)

  -- A recipient was answered.
  gave-at : (new : Guest) (i : ConnectionState) (t : LastKnown) (j : ConnectionState) (goes : Bool) → new ≡ guest (phase_after phase) [] false → Acts (said_at moment s (at_work old_here piece opened) front_here) i (held_if goes next_here) t j
      → IsLmtpAct moment opened s old_here piece i (if goes then act.Gave else act.Closed) t new j
  gave-at new i t j true is acts = (
    ap is_whole front-here,
    acts-words (said moment s (at_work old_here piece opened)) (said_at moment s (at_work old_here piece opened) front_here) i (Some (at_work new piece false)) t j (λ way. ap (λ (y : LmtpFront). said_at moment s (at_work old_here piece opened) y way) front-here)
        (rw (is, ← given-is (left_in phase) (text_in phase) (count_in phase) piece) acts),
  )
  gave-at new i t j false is acts =
      acts-words (said moment s (at_work old_here piece opened)) (said_at moment s (at_work old_here piece opened) front_here) i None t j (λ way. ap (λ (y : LmtpFront). said_at moment s (at_work old_here piece opened) y way) front-here) acts

module _ {K : Type 0} (g : Keeper K) (moment : ℕ) (name : List ℕ) (phase : LmtpPhase) (piece : List ℕ) (gives : work_in phase ≡ work.AnswersRecipient) where
  -- What the recipient asks, given whether the data is too long.
  asks-if : (too opened : Bool) (s : LastKnown) → nat_lt data_limit (count_in phase) ≡ too → asks s (at_work (guest phase [] false) piece opened) ≡ asks_to_one too opened (text_in phase)
  asks-if too opened s is = ap (λ (p : LmtpPhase). asks_for opened (front_in p piece)) (giving-is phase gives) ∙ ap (λ (t : Bool). asks_to_one t opened (text_in phase)) is

  -- What an act did, by what it asks.
  does-asked : (opened : Bool) (asked : KeeperAsked) (s : LastKnown) (k : K) (i : ConnectionState) (held : Option Guest) (k' : K) (t : LastKnown) (j : ConnectionState) → asks s (at_work (guest phase [] false) piece opened) ≡ asked → DoesAsked g moment asked (said moment s (at_work (guest phase [] false) piece opened)) k s i held k' t j
      → DoesAsked g moment (asks s (at_work (guest phase [] false) piece opened)) (said moment s (at_work (guest phase [] false) piece opened)) k s i held k' t j
  does-asked opened asked s k i held k' t j is does = subst (λ (x : KeeperAsked). DoesAsked g moment x (said moment s (at_work (guest phase [] false) piece opened)) k s i held k' t j) (sym is) does

  -- The words of a recipient, given whether the data is too long.
  to-one : (too opened : Bool) (s : LastKnown) (i : ConnectionState) (held : Option Guest) (t : LastKnown) (j : ConnectionState) → nat_lt data_limit (count_in phase) ≡ too
      → Acts (said_to_one too opened moment s (left_in phase) (text_in phase) (count_in phase) piece) i held t j → Acts (said_to_one (nat_lt data_limit (count_in phase)) opened moment s (left_in phase) (text_in phase) (count_in phase) piece) i held t j
  to-one too opened s i held t j is acts = rw is acts

  -- Data that is too long was refused.
  pub turns-long : (opened : Bool) (k : K) (i j : ConnectionState) (sent : Result Unit SinkFault) (goes : Bool) (new : Guest) → nat_lt data_limit (count_in phase) ≡ true → goes ≡ is_ok sent → new ≡ guest (phase_after phase) [] false → j.disk ≡ i.disk → g.alike k k
      → Says (reply_line (answer.TooLarge (count_in phase))) i.out i.lost j.out j.lost sent → LmtpActs g moment name opened (guest phase [] false) piece k i (if goes then act.Gave else act.Closed) new k j
  turns-long opened k i j sent goes new too goes_is is kept alike written = λ s fits has. (
    s,
    moves-same g k s fits,
    has,
    rw goes_is (gave-at moment opened s phase piece gives new i s j (is_ok sent) is
        (to-one true opened s i (held_if (is_ok sent) (given_to (left_in phase) (text_in phase) (count_in phase) piece)) s j too
        (acts-by_held (said_to_one true opened moment s (left_in phase) (text_in phase) (count_in phase) piece) Plain (says s (given_to (left_in phase) (text_in phase) (count_in phase) piece) (reply_line (answer.TooLarge (count_in phase)))) i j (given_to (left_in phase) (text_in phase) (count_in phase) piece) s sent refl refl kept (omega (arith, kept)) written refl))),
    does-asked opened AsksNoDisk s k i _ k s j (asks-if true opened s too) (alike, kept),
  )

  -- The session after a recipient was answered.
  abbrev gift : Bool → Bool → Guest → Option Guest
  gift opened goes new = left_by opened (guest phase [] false) piece (if goes then act.Gave else act.Closed) new

  gift-is : (opened goes : Bool) (new : Guest) → new ≡ guest (phase_after phase) [] false → held_if goes (given_to (left_in phase) (text_in phase) (count_in phase) piece) ≡ gift opened goes new
  gift-is opened true new is = rw is (ap (λ (x : Guest). Some x) (given-is (left_in phase) (text_in phase) (count_in phase) piece))
  gift-is opened false new is = refl

  -- What is said to the recipient before the archive was reopened.
  opening-said : (s : LastKnown) (way : Departure) → nat_lt data_limit (count_in phase) ≡ false → said moment s (at_work (guest phase [] false) piece false) way ≡ said_opening s (guest (Giving (left_in phase) (text_in phase) (count_in phase)) piece true) (given_to (left_in phase) (text_in phase) (count_in phase) piece) way
  opening-said s way short =
      ap (λ (y : LmtpFront). said_at moment s (at_work (guest phase [] false) piece false) y way) (front-here moment false s phase piece gives)
      ∙ ap (λ (too : Bool). said_to_one too false moment s (left_in phase) (text_in phase) (count_in phase) piece way) short

  refused-here : (s : LastKnown) (i : ConnectionState) (held : Option Guest) (t : LastKnown) (j : ConnectionState) → nat_lt data_limit (count_in phase) ≡ false → RefusedBy (said_opening s (guest (Giving (left_in phase) (text_in phase) (count_in phase)) piece true) (given_to (left_in phase) (text_in phase) (count_in phase) piece)) i held t j
      → RefusedBy (said moment s (at_work (guest phase [] false) piece false)) i held t j
  refused-here s i held t j short (inl starved) = inl (subst (λ (w : Said Guest LastKnown). SaidAll w i held t j) (sym (opening-said s Memory short)) starved)
  refused-here s i held t j short (inr failed) = inr (subst (λ (w : Said Guest LastKnown). SaidAll w i held t j) (sym (opening-said s Disk short)) failed)

  -- The archive was reopened before the recipient.
  opened-by : (s : LastKnown) (short : nat_lt data_limit (count_in phase) ≡ false) → said moment s (at_work (guest phase [] false) piece false) Plain ≡ said_opening s (at_work (guest phase [] false) piece true) (given_to (left_in phase) (text_in phase) (count_in phase) piece) Plain
  opened-by s short =
      opening-said s Plain short
      ∙ ap (λ (p : LmtpPhase). said_opening s (guest p piece true) (given_to (left_in phase) (text_in phase) (count_in phase) piece) Plain) (sym (giving-is phase gives))

  opening-acts : (s : LastKnown) (i : ConnectionState) (held : Option Guest) (t : LastKnown) (j : ConnectionState) → nat_lt data_limit (count_in phase) ≡ false
      → Acts (said_opening s (guest (Giving (left_in phase) (text_in phase) (count_in phase)) piece true) (given_to (left_in phase) (text_in phase) (count_in phase) piece)) i held t j → Acts (said moment s (at_work (guest phase [] false) piece false)) i held t j
  opening-acts s i held t j short acts =
      acts-words (said moment s (at_work (guest phase [] false) piece false)) (said_at moment s (at_work (guest phase [] false) piece false) (GivesTo (left_in phase) (text_in phase) (count_in phase) piece)) i held t j (λ way. ap (λ (y : LmtpFront). said_at moment s (at_work (guest phase [] false) piece false) y way) (front-here moment false s phase piece gives))
      (to-one false false s i held t j short acts)

  pub turns-opened : (k k' : K) (i j : ConnectionState) → nat_lt data_limit (count_in phase) ≡ false → j.disk ≡ i.disk → j.out ≡ i.out → j.lost ≡ i.lost → (g.ready k ≡ true → k' ≡ k) → g.ready k' ≡ true
      → ((s : LastKnown) → MatchesKnown g k s → (t : LastKnown) × KeeperMoves g k s k' t × Settles s t × (g.ready k ≡ false → g.finds k k' t.archive)) → LmtpActs g moment name false (guest phase [] false) piece k i act.Opened (guest phase [] false) k' j
  turns-opened k k' i j short kept out lost nothing done opens = λ s fits has.
      let o = opens s fits in
      let ready : Guest = guest (Giving (left_in phase) (text_in phase) (count_in phase)) piece true in
      let next : Guest = given_to (left_in phase) (text_in phase) (count_in phase) piece in
      let acts : Acts (said_opening s ready next) i (Some ready) o.0 j = opening-found s ready next o.0 i j o.2 kept out lost in
      let same : ready ≡ at_work (guest phase [] false) piece true = ap (λ (p : LmtpPhase). guest p piece true) (sym (giving-is phase gives)) in (
        o.0,
        o.1,
        acts-name name (said_opening s ready next) i (Some ready) o.0 j acts (λ way. opening-name name s ready next way has),
        (
          ap is_whole (front-here moment false s phase piece gives),
          rw (← same) (opening-acts s i (Some ready) o.0 j short acts),
        ),
        does-asked false AsksReopening s k i _ k' o.0 j (asks-if false false s short) (record {
          nothing = λ at_hand. (
            nothing at_hand,
            rw (opened-by s short) (reopening-nothing unopened_line s (at_work (guest phase [] false) piece true) o.0 i j (fits.settled at_hand).1 o.2 kept out lost),
          );
          found = λ stale at_hand. o.3 stale;
          ends = inl done;
        }),
      )

  -- Reopening was refused.
  pub turns-refused : (k k' : K) (i j : ConnectionState) (why : OpenRefusal) (sent : Result Unit SinkFault) (goes : Bool) (new : Guest) → nat_lt data_limit (count_in phase) ≡ false → goes ≡ is_ok sent → new ≡ guest (phase_after phase) [] false → OpeningWhy i.disk j.disk why → i.disk ≤ j.disk
      → Says (unopened_line why) i.out i.lost j.out j.lost sent → (g.ready k ≡ true → ⊥) → g.ready k' ≡ false → ((s : LastKnown) → MatchesKnown g k s → (t : LastKnown) × KeeperMoves g k s k' t × ReopeningRefused s why t)
      → LmtpActs g moment name false (guest phase [] false) piece k i (if goes then act.Gave else act.Closed) new k' j
  turns-refused k k' i j why sent goes new short goes_is is cause later written never still opens = λ s fits has.
      let o = opens s fits in
      let ready : Guest = guest (Giving (left_in phase) (text_in phase) (count_in phase)) piece true in
      let next : Guest = given_to (left_in phase) (text_in phase) (count_in phase) piece in
      let both = opening-refused s ready next o.0 why i j sent o.2 cause later written in
      let refused : RefusedBy (said moment s (at_work (guest phase [] false) piece false)) i (gift false (is_ok sent) new) o.0 j =
      subst (λ (h : Option Guest). RefusedBy (said moment s (at_work (guest phase [] false) piece false)) i h o.0 j) (gift-is false (is_ok sent) new is) (refused-here s i (held_if (is_ok sent) next) o.0 j short both.1) in
      rw goes_is (
        o.0,
        o.1,
        acts-name name (said_opening s ready next) i (held_if (is_ok sent) next) o.0 j both.0 (λ way. opening-name name s ready next way has),
        gave-at moment false s phase piece gives new i o.0 j (is_ok sent) is (to-one false false s i (held_if (is_ok sent) next) o.0 j short both.0),
        does-asked false AsksReopening s k i (gift false (is_ok sent) new) k' o.0 j (asks-if false false s short)
            (record { nothing = λ at_hand. absurd (never at_hand); found = λ stale at_hand. absurd (false≢true (sym still ∙ at_hand)); ends = inr (still, refused) }),
      )

  -- What is said to the recipient, once the archive was reopened.
  giving-said : (s : LastKnown) (way : Departure) → nat_lt data_limit (count_in phase) ≡ false → said moment s (at_work (guest phase [] false) piece true) way ≡ said_giving moment s (text_in phase) (given_to (left_in phase) (text_in phase) (count_in phase) piece) way
  giving-said s way short =
      ap (λ (y : LmtpFront). said_at moment s (at_work (guest phase [] false) piece true) y way) (front-here moment true s phase piece gives)
      ∙ ap (λ (too : Bool). said_to_one too true moment s (left_in phase) (text_in phase) (count_in phase) piece way) short

  -- The data was delivered.
  pub turns-given : (k k' : K) (i j : ConnectionState) (command : Command) (reply : Answer) (sent : Result Unit SinkFault) (goes : Bool) (new : Guest) → g.ready k ≡ true → nat_lt data_limit (count_in phase) ≡ false → goes ≡ is_ok sent → new ≡ guest (phase_after phase) [] false → AnswerCause i.disk j.disk reply → i.disk ≤ j.disk
      → Says (reply_line reply) i.out i.lost j.out j.lost sent → command_asked command ≡ AsksDelivery (text_in phase) → ((a : Archive) → applied a command moment ≡ delivered a (text_in phase) moment) → StaysReady (g.ready k) reply (g.ready k')
      → ((s : LastKnown) → MatchesKnown g k s → (t : LastKnown) × KeeperMoves g k s k' t × CommandGives (g.ready k) s (λ (a : Archive). applied a command moment) reply t × CommandTaken g k s command moment k' reply t)
      → LmtpActs g moment name true (guest phase [] false) piece k i (if goes then act.Gave else act.Closed) new k' j
  turns-given k k' i j command reply sent goes new at_hand short goes_is is cause later written asked same stays gives_so = λ s fits has.
      let settled = settled-is g k s fits at_hand in
      let done = gives_so s fits in
      let a : Archive = s.archive in
      let next : Guest = given_to (left_in phase) (text_in phase) (count_in phase) piece in
      let comes : CommandGives true s (λ (b : Archive). applied b command moment) reply done.0 = subst (λ (r : Bool). CommandGives r s (λ (b : Archive). applied b command moment) reply done.0) at_hand done.2 in
      let comes_so : CommandGives true s (λ (b : Archive). delivered b (text_in phase) moment) reply done.0 = subst (λ (f : Archive → Done). CommandGives true s f reply done.0) (λ i (b : Archive). same b i) comes in
      let comes_here : CommandGives true (standing a None) (λ (b : Archive). delivered b (text_in phase) moment) reply done.0 = subst (λ (x : LastKnown). CommandGives true x (λ (b : Archive). delivered b (text_in phase) moment) reply done.0) settled.0 comes_so in
      let both = commanded (said_giving moment (standing a None) (text_in phase) next) next reply_line a (λ (b : Archive). delivered b (text_in phase) moment) refl refl refl reply done.0 i j sent comes_here cause later written in
      let acts : Acts (said_giving moment s (text_in phase) next) i (held_if (is_ok sent) next) done.0 j = subst (λ (x : LastKnown). Acts (said_giving moment x (text_in phase) next) i (held_if (is_ok sent) next) done.0 j) (sym settled.0) both.0 in
      let all : SaidAll (said_giving moment s (text_in phase) next (way_of_ending (ending reply))) i (held_if (is_ok sent) next) done.0 j = subst (λ (x : LastKnown). SaidAll (said_giving moment x (text_in phase) next (way_of_ending (ending reply))) i (held_if (is_ok sent) next) done.0 j) (sym settled.0) both.1 in
      let all_here : SaidAll (said moment s (at_work (guest phase [] false) piece true) (way_of_ending (ending reply))) i (gift true (is_ok sent) new) done.0 j =
      subst (λ (h : Option Guest). SaidAll (said moment s (at_work (guest phase [] false) piece true) (way_of_ending (ending reply))) i h done.0 j) (gift-is true (is_ok sent) new is)
      (subst (λ (w : Said Guest LastKnown). SaidAll w i (held_if (is_ok sent) next) done.0 j) (sym (giving-said s (way_of_ending (ending reply)) short)) all) in
      rw goes_is (
        done.0,
        done.1,
        acts-name name (said_giving moment s (text_in phase) next) i (held_if (is_ok sent) next) done.0 j acts (λ way. giving-name name moment s (text_in phase) next way has),
        gave-at moment true s phase piece gives new i done.0 j (is_ok sent) is (to-one false true s i (held_if (is_ok sent) next) done.0 j short acts),
        does-asked true (AsksCommand (AsksDelivery (text_in phase))) s k i (gift true (is_ok sent) new) k' done.0 j (asks-if false true s short)
            (inl (command, asked, record { reply = reply; gives = done.2; taken = done.3; ready = stays; cause = cause; said = all_here })),
      )

-- A line and data ask nothing.
line-asks : (opened : Bool) (f : SkippedLine) → asks_for opened (line_front f) ≡ AsksNoDisk
line-asks opened (Taken line rest) = refl
line-asks opened (Skipped rest) = refl
line-asks opened Unended = refl

data-asks : (opened : Bool) (n : ℕ) (d : DataRead) → asks_for opened (data_front n d) ≡ AsksNoDisk
data-asks opened n (Unfinished r) = refl
data-asks opened n (Finished text count rest) = refl

lines-ask : (s : LastKnown) (phase : LmtpPhase) (bytes : List ℕ) (opened : Bool) → work_in phase ≡ work.ReadsLines → asks s (guest phase bytes opened) ≡ AsksNoDisk
lines-ask s Ungreeted bytes opened is = line-asks opened (skipping_front longest_line bytes)
lines-ask s Greeted bytes opened is = line-asks opened (skipping_front longest_line bytes)
lines-ask s (Mailing n) bytes opened is = line-asks opened (skipping_front longest_line bytes)
lines-ask s (Receiving n r) bytes opened is = absurd (cc is)
lines-ask s (Giving n text count) bytes opened is = absurd (cc is)

data-ask : (s : LastKnown) (phase : LmtpPhase) (bytes : List ℕ) (opened : Bool) → work_in phase ≡ work.ReadsData → asks s (guest phase bytes opened) ≡ AsksNoDisk
data-ask s Ungreeted bytes opened is = absurd (cc is)
data-ask s Greeted bytes opened is = absurd (cc is)
data-ask s (Mailing n) bytes opened is = absurd (cc is)
data-ask s (Receiving n r) bytes opened is = data-asks opened n (read_on data_limit r bytes)
data-ask s (Giving n text count) bytes opened is = absurd (cc is)

-- An act that asks nothing of the keeper.
module _ {K : Type 0} (g : Keeper K) (moment : ℕ) (name : List ℕ) (opened : Bool) (old : Guest) (piece : List ℕ) where
  alone : (k : K) (i : ConnectionState) (turn : LmtpAct) (new : Guest) (j : ConnectionState) → ((s : LastKnown) → asks s (at_work old piece opened) ≡ AsksNoDisk) → g.alike k k → j.disk ≡ i.disk → ((s : LastKnown) → s.archive.config.name ≡ name → IsLmtpAct moment opened s old piece i turn s new j)
      → LmtpActs g moment name opened old piece k i turn new k j
  alone k i turn new j asked alike kept acts = λ s fits has. (
    s,
    moves-same g k s fits,
    has,
    acts s has.0,
    subst (λ (x : KeeperAsked). DoesAsked g moment x (said moment s (at_work old piece opened)) k s i (left_by opened old piece turn new) k s j) (sym (asked s)) (alike, kept),
  )

  pub turns-line : (k : K) (i : ConnectionState) (turn : LmtpAct) (new : Guest) (j : ConnectionState) → work_in old.phase ≡ work.ReadsLines → g.alike k k → j.disk ≡ i.disk → ((s : LastKnown) → s.archive.config.name ≡ name → IsLmtpAct moment opened s old piece i turn s new j)
      → LmtpActs g moment name opened old piece k i turn new k j
  turns-line k i turn new j lines alike kept acts = alone k i turn new j (λ s. lines-ask s old.phase (old.bytes ++ piece) opened lines) alike kept acts

  pub turns-data : (k : K) (i : ConnectionState) (turn : LmtpAct) (new : Guest) (j : ConnectionState) → work_in old.phase ≡ work.ReadsData → g.alike k k → j.disk ≡ i.disk → ((s : LastKnown) → IsLmtpAct moment opened s old piece i turn s new j)
      → LmtpActs g moment name opened old piece k i turn new k j
  turns-data k i turn new j there alike kept acts = alone k i turn new j (λ s. data-ask s old.phase (old.bytes ++ piece) opened there) alike kept (λ s named. acts s)
