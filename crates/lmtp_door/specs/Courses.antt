-- The course of a piece over a keeper, where the archive is reopened before further recipients.
use Rattle.std.specs.Prelude.{◌≡◌, ℕ, Bool, true, List, ◌++◌, Option, Some, None}
use Rattle.line_door.specs.Acts.{ConnectionState, held_if}
use Rattle.line_door.specs.Course.{talk}
use Rattle.arch_model.specs.Keeping.{MatchesKnown, Keeper}
use Rattle.arch_model.specs.Standing.{LastKnown}
use Rattle.keep_course.specs.Courses.{SessionRunLeft}
use Rattle.lmtp_door.specs.Door.{Guest, guest, kept, lmtp_at}

-- A session at work on a piece, and whether the archive was reopened since the last recipient.
abbrev pub at_work : Guest → List ℕ → Bool → Guest
at_work held piece opened = guest held.phase (held.bytes ++ piece) opened

-- The session that is kept between two pieces, if it is open.
abbrev pub kept_if : Option Guest → Option Guest
kept_if None = None
kept_if (Some g) = Some (kept g)

module _ {K : Type 0} (g : Keeper K) (moment : ℕ) where
  -- Whatever the keeper matches, a piece of a session is answered by a course, and the keeper matches
  -- what that leaves. Between two pieces what is kept of the session stands for it.
  abbrev pub AnswersMail : Guest → List ℕ → K → ConnectionState → Bool → Guest → K → ConnectionState
      → Type 0
  AnswersMail start piece old i goes_on left new j =
      (s : LastKnown) → MatchesKnown g old s → (t : LastKnown) × (held : Option Guest)
      × MatchesKnown g new t × (held_if goes_on left ≡ kept_if held)
      × SessionRunLeft g (lmtp_at moment) old new (talk (Some (at_work start piece true)) s i)
      (talk held t j)
