-- The course of one door's session is one of the node's.
use Rattle.std.proofs.Common.{◌≡◌, ◌∙◌, ℕ, Bool, true, false, List, Option, Some, None, refl, sym, ap, subst, inl}
use Rattle.std.specs.List.{Contains}
use Rattle.line_door.specs.Acts.{ConnectionState, Departure, Acts, held_if}
use Rattle.line_door.specs.Course.{talk}
use Rattle.line_door.specs.Over.{held_over, said_over}
use Rattle.arch_model.specs.Archives.{Archive}
use Rattle.arch_model.specs.Standing.{LastKnown, standing}
use Rattle.arch_model.specs.Keeping.{MatchesKnown, KeeperMoves, OnlyRead, Keeper}
use Rattle.arch_model.specs.declared.shelf.Shelf.{Ghosts as Shelf}
use Rattle.arch_model.proofs.Keepers.{settled-is, moves-read}
use Rattle.keep_course.specs.Answering.{ReopenedAs, reading_asked}
use Rattle.keep_course.specs.Courses.{KeeperActs, ShelfDoor, ShelfRun}
use Rattle.keep_course.proofs.Courses.{coming-same, coming-more, coming-last, course-after, course-over, reading-course}
use Rattle.control_door.specs.Door as control
use Rattle.control_door.specs.Door.{Waiting, waiting}
use Rattle.control_door.specs.Sessions as sessions
use Rattle.lmtp_door.specs.Courses.{at_work, kept_if, AnswersMail}
use Rattle.lmtp_door.specs.Door as mail
use Rattle.lmtp_door.specs.Door.{Guest}
use Rattle.node_serve.specs.Doors.{SessionAtWork, Came, AtControl, AtLmtp, with_piece, rest_of, rest_if, said, is_asked, asks, doors_at}
use Rattle.node_serve.specs.Nodes.{FedFrom, ReadsAt, ReadsCame}
use Rattle.node_serve.specs.declared.session.Session.{Session}
use Rattle.node_serve.specs.declared.session.Session.TheVariants as session

-- The session that a piece leaves, if it is open.
rest-into : {H : Type 0} (into : H → SessionAtWork) (kind : H → Session) → ((h : H) → kind h ≡ rest_of (into h)) → (goes_on : Bool) (left : H) → held_if goes_on (kind left) ≡ rest_if (held_over into (held_if goes_on left))
rest-into into kind same true left = ap Some (same left)
rest-into into kind same false left = refl

-- At the door of LMTP what is kept of it stands for it.
kept-into : (goes_on : Bool) (left : Guest) (held : Option Guest) → held_if goes_on left ≡ kept_if held → held_if goes_on (session.Lmtp left) ≡ rest_if (held_over AtLmtp held)
kept-into goes_on left held is = kinds goes_on ∙ ap (held_over session.Lmtp) is ∙ rests held
  where
    kinds : (t : Bool) → held_if t (session.Lmtp left) ≡ held_over session.Lmtp (held_if t left)
    kinds true = refl
    kinds false = refl

    rests : (o : Option Guest) → held_over session.Lmtp (kept_if o) ≡ rest_if (held_over AtLmtp o)
    rests None = refl
    rests (Some g) = refl

module _ {K : Type 0} (g : Keeper K) (moment : ℕ) where
  -- The piece of a session at the control door.
  pub control-fed : (bytes : List ℕ) (s : LastKnown) (old : K) (i : ConnectionState) (goes_on : Bool) (left : List ℕ) (new : K) (j : ConnectionState) → sessions.AnswersCommands g moment bytes old i goes_on left new j → MatchesKnown g old s
      → FedFrom g moment (AtControl (waiting bytes true)) s old i goes_on (session.Control left) new j
  control-fed bytes s old i goes_on left new j feeds fits =
      let fed = feeds s fits in
      record {
        after = fed.0;
        fits = fed.2;
        held = held_over AtControl (held_if goes_on (waiting left fed.1));
        rest_is = rest-into AtControl (λ (w : Waiting). session.Control w.bytes) (λ w. refl) goes_on (waiting left fed.1);
        course = course-over g AtControl (control.control_at moment) (doors_at moment) (λ t h way. refl) (λ h. refl) (λ t h. refl) refl old new (talk (Some (waiting bytes true)) s i) (talk (held_if goes_on (waiting left fed.1)) fed.0 j) fed.3.course;
      }

  -- The piece of a session at the door of LMTP.
  pub mail-fed : (start : Guest) (piece : List ℕ) (s : LastKnown) (old : K) (i : ConnectionState) (goes_on : Bool) (left : Guest) (new : K) (j : ConnectionState) → AnswersMail g moment start piece old i goes_on left new j → MatchesKnown g old s
      → FedFrom g moment (AtLmtp (at_work start piece true)) s old i goes_on (session.Lmtp left) new j
  mail-fed start piece s old i goes_on left new j feeds fits =
      let fed = feeds s fits in
      record {
        after = fed.0;
        fits = fed.2;
        held = held_over AtLmtp fed.1;
        rest_is = kept-into goes_on left fed.1 fed.3;
        course = course-over g AtLmtp (mail.lmtp_at moment) (doors_at moment) (λ t h way. refl) (λ h. refl) (λ t h. refl) refl old new (talk (Some (at_work start piece true)) s i) (talk fed.1 fed.0 j) fed.4.course;
      }

  -- The piece of a session at a reading door, which stands among those of all doors. Its course over the
  -- archive that stands is given.
  pub reading-fed : {H : Type 0} (one : ShelfDoor H) (into : H → SessionAtWork) (kind : H → Session) → ((h : H) → kind h ≡ rest_of (into h))
      → ((a : Archive) (h : H) (way : Departure) → said moment (standing a None) (into h) way ≡ said_over (λ (x : Archive). standing x None) into (one.said a h way)) → ((h : H) → is_asked (into h) ≡ one.is_request h) → ((a : Archive) (h : H) → asks moment (standing a None) (into h) ≡ reading_asked (one.uses_disk a h))
      → (shelf : Shelf K) → ((k : K) (a : Archive) → g.holds k a → g.files_are k a) → ((k : K) (a : Archive) (may : List (Option Archive)) → g.holds k a → Contains may (Some a) → g.leaves k k may) → ((k m : K) → shelf.alike k m → g.alike k m) → ((k m : K) → g.alike k m → OnlyRead g k m) → ((k : K) → g.faults k ≡ shelf.faults k)
      → (start : H) (s : LastKnown) (old : K) (i : ConnectionState) (goes_on : Bool) (left : H) (new : K) (j : ConnectionState) → (g.holds old s.archive → ShelfRun shelf one old new (talk (Some start) s.archive i) (talk (held_if goes_on left) s.archive j)) → OnlyRead g old new → g.ready old ≡ true → MatchesKnown g old s
      → FedFrom g moment (into start) s old i goes_on (kind left) new j
  reading-fed one into kind same_rest same_words same_front same_asked shelf holds_files_are holds_left alikes alike_kept counts start s old i goes_on left new j fed read at_hand fits =
      let settled = settled-is g old s fits at_hand in
      let moves = moves-read g holds_files_are holds_left old new s.archive settled.1 read in
      subst (λ (x : LastKnown). FedFrom g moment (into start) x old i goes_on (kind left) new j) (sym settled.0) (record {
        after = standing s.archive None;
        fits = moves.fits;
        held = held_over into (held_if goes_on left);
        rest_is = rest-into into kind same_rest goes_on left;
        course = reading-course shelf g into one (doors_at moment) same_words same_front same_asked holds_files_are holds_left alikes alike_kept counts old new (talk (Some start) s.archive i) (talk (held_if goes_on left) s.archive j) settled.1 (fed settled.1);
      })

  -- A reopening, and then the piece.
  pub fed-opened : (start : Session) (piece : List ℕ) (s t : LastKnown) (old mid new : K) (i j k : ConnectionState) (goes_on : Bool) (left : Session) → Acts (said moment s (Came start piece)) i (Some (with_piece start piece)) t j → KeeperMoves g old s mid t → j.disk ≡ g.faults mid
      → ReopenedAs g (said moment s (Came start piece)) old i (Some (with_piece start piece)) mid t j → FedFrom g moment (with_piece start piece) t mid j goes_on left new k → FedFrom g moment (Came start piece) s old i goes_on left new k
  fed-opened start piece s t old mid new i j k goes_on left acts moves counted reopened fed = record {
    after = fed.after;
    fits = fed.fits;
    held = fed.held;
    rest_is = fed.rest_is;
    course = course-after (KeeperActs g (doors_at moment)) (said moment) is_asked old mid new (talk (Some (Came start piece)) s i) (talk (Some (with_piece start piece)) t j) (talk fed.held fed.after k)
        (coming-more (KeeperActs g (doors_at moment)) (said moment) is_asked old old mid (talk (Some (Came start piece)) s i) (Came start piece) s i (Some (with_piece start piece)) t j (coming-same (KeeperActs g (doors_at moment)) (said moment) is_asked old (talk (Some (Came start piece)) s i)) refl acts
        (record { moves = moves; disk = counted; does = reopened })) fed.course;
  }

  -- A reopening that was refused.
  pub fed-shut : (start : Session) (piece : List ℕ) (s t : LastKnown) (old new : K) (i j : ConnectionState) (left : Session) → Acts (said moment s (Came start piece)) i None t j → KeeperMoves g old s new t → j.disk ≡ g.faults new → ReopenedAs g (said moment s (Came start piece)) old i None new t j
      → FedFrom g moment (Came start piece) s old i false left new j
  fed-shut start piece s t old new i j left acts moves counted reopened = record {
    after = t;
    fits = moves.fits;
    held = None;
    rest_is = refl;
    course = coming-last (KeeperActs g (doors_at moment)) (said moment) is_asked old old new (talk (Some (Came start piece)) s i) (Came start piece) s i None t j (coming-same (KeeperActs g (doors_at moment)) (said moment) is_asked old (talk (Some (Came start piece)) s i)) acts (inl refl)
        (record { moves = moves; disk = counted; does = reopened });
  }

module _ {K : Type 0} (g : Keeper K) (moment : ℕ) where
  -- What a piece reads after a reopening that does nothing.
  pub reads-from : (start : Session) (piece : List ℕ) (old mid new : K) → mid ≡ old → ReadsAt g moment start piece mid new → ReadsAt g moment start piece old new
  reads-from start piece old mid new same read = subst (λ (k : K). ReadsAt g moment start piece k new) same read

  -- What a piece reads that came to the session of a place, if it has one.
  pub reads-there : (here there : Option Session) (piece : List ℕ) (old new : K) → here ≡ there → ReadsCame g moment here piece old new → ReadsCame g moment there piece old new
  reads-there here there piece old new same read = subst (λ (x : Option Session). ReadsCame g moment x piece old new) same read
