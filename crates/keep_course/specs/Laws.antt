-- A small keeper, at which the laws of courses are stated: its state is the archives that it has held
-- so far, and a crash may leave any of them.
use Rattle.std.specs.Prelude.{◌≡◌, ℕ, Bool, true, List, [], ◌∷◌, ◌++◌, Option, Some}
use Rattle.std.specs.List.{Contains}
use Rattle.line_door.specs.Course.{SessionState}
use Rattle.arch_model.specs.Archives.{Archive}
use Rattle.arch_model.specs.Standing.{LastKnown}
use Rattle.arch_model.specs.Keeping.{Keeper, CrashesLeaveOnly, MatchesKnown}
use Rattle.keep_course.specs.Courses.{KeeperDoor, KeeperRun, archives_in}

-- It holds its last archive.
abbrev pub HistoryHolds : List Archive → Archive → Type 0
HistoryHolds k a = (before : List Archive) × (k ≡ before ++ a ∷ [])

-- Its files are those of the archive that it holds.
abbrev pub HistoryRests : List Archive → Archive → Type 0
HistoryRests k a = HistoryHolds k a

-- It is always ready.
abbrev pub history_ready : List Archive → Bool
history_ready k = true

-- A crash since a state leaves an archive that was held by now.
abbrev pub HistoryLeaves : List Archive → List Archive → List (Option Archive) → Type 0
HistoryLeaves start k may = (a : Archive) → Contains k a → Contains may (Some a)

-- The small keeper. It reads no disk, and is never reopened.
abbrev pub history : Keeper (List Archive)
history = record {
  holds = HistoryHolds;
  ready = history_ready;
  reads = λ k. 0;
  faults = λ k. 0;
  alike = λ k m. k ≡ m;
  files_are = HistoryRests;
  leaves = HistoryLeaves;
  finds = λ old new a. HistoryHolds new a;
  takes = λ old new command moment reply. Unit {0};
}

-- A crash since the start of a course leaves an archive of one of its talks, or one in doubt there.
abbrev pub CourseLaw : Type 0
CourseLaw = (door : KeeperDoor ℕ) (old new : List Archive) (w v : SessionState ℕ LastKnown)
    → MatchesKnown history old w.after
    → (course : KeeperRun history door old new w v)
    → HistoryLeaves old new (archives_in w (course.acts ++ v ∷ []))

-- Courses in order: a crash since the first leaves an archive of a standing of one of them, where
-- each begins with the standing that the one before left.
abbrev pub ChainLaw : Type 0
ChainLaw = (old mid new : List Archive) (ss : List LastKnown) (t : LastKnown) (us : List LastKnown)
    → CrashesLeaveOnly HistoryLeaves old mid (ss ++ t ∷ []) → CrashesLeaveOnly HistoryLeaves mid new (t ∷ us)
    → CrashesLeaveOnly HistoryLeaves old new (ss ++ t ∷ us)
