-- The course of a piece over a shelf or a keeper, with its state after each act, and what a crash leaves.
use Rattle.std.specs.Prelude.{◌≡◌, ℕ, Bool, true, false, List, [], ◌∷◌, ◌++◌, Option, Some, None}
use Rattle.line_door.specs.Acts.{Said, Departure}
use Rattle.line_door.specs.Course.{SessionState, Requests, Last}
use Rattle.arch_model.specs.Archives.{Archive}
use Rattle.arch_model.specs.OverShelf.{ShelfKept}
use Rattle.arch_model.specs.Standing.{LastKnown, one_of}
use Rattle.arch_model.specs.Keeping.{CrashesLeaveOnly, KeeperMoves, Keeper}
use Rattle.arch_model.specs.declared.shelf.Shelf.{Ghosts as Shelf}
use Rattle.keep_course.specs.Answering.{KeeperAsked, DoesAsked}

-- The standing in each of these talks.
abbrev pub afters : {H : Type 0} → List (SessionState H LastKnown) → List LastKnown
afters [] = []
afters (t ∷ ts) = t.after ∷ afters ts

-- A crash on the way from one state of a keeper to another leaves an archive of one of these talks,
-- or one in doubt there.
abbrev pub LeftBy : {K H : Type 0} → (K → K → List (Option Archive) → Type 0) → K → K
    → SessionState H LastKnown → List (SessionState H LastKnown) → Type 0
LeftBy leaves old new w ms = CrashesLeaveOnly leaves old new (w.after ∷ afters ms)

-- The archives of these standings, and those in doubt.
abbrev pub archives_of : List LastKnown → List (Option Archive)
archives_of [] = []
archives_of (s ∷ ss) = one_of s ++ archives_of ss

-- The archives of a talk and of those after it, and those in doubt.
abbrev pub archives_in : {H : Type 0} → SessionState H LastKnown → List (SessionState H LastKnown)
    → List (Option Archive)
archives_in w ms = archives_of (w.after ∷ afters ms)

-- Beside the talk after each act stands the state after it of what the door is over, which was `old`
-- before the first act and is `new` after the last. Each act does this to both.
abbrev pub KeptAlong : {K H A : Type 0} → (K → SessionState H A → K → SessionState H A → Type 0) → K
    → SessionState H A → List K → List (SessionState H A) → K → Type 0
KeptAlong does old w [] [] new = new ≡ old
KeptAlong does old w [] (m ∷ ms) new = ⊥
KeptAlong does old w (k ∷ ks) [] new = ⊥
KeptAlong does old w (k ∷ ks) (m ∷ ms) new = does old w k m × KeptAlong does k m ks ms new

-- A door: how the states after its acts stand beside its talks, what an act of a session says in each
-- way, and whether a whole request is at the session's front.
module _ {K H A : Type 0} (along : K → SessionState H A → List K → List (SessionState H A) → K → Type 0)
    (said : A → H → Departure → Said H A) (is_request : H → Bool) where
  -- Some requests lead from one talk to another.
  pub record SessionRunning (old now : K) (w m : SessionState H A) : Type 0 where
    pub acts : List (SessionState H A)
    pub each : Requests said is_request w acts m
    pub states : List K
    pub kept : along old w states acts now

  -- So does the course of a piece: requests, and then the last act.
  pub record SessionRun (old new : K) (w v : SessionState H A) : Type 0 where
    pub acts : List (SessionState H A)
    pub before : SessionState H A
    pub each : Requests said is_request w acts before
    pub last : Last said is_request before v
    pub states : List K
    pub kept : along old w states (acts ++ v ∷ []) new

-- An act of this session, if it doesn't use the disk, leaves its count of faults.
abbrev pub SparesDisk : {H : Type 0} → (H → Bool) → Option H → ℕ → ℕ → Type 0
SparesDisk uses_disk None before now = Unit {0}
SparesDisk uses_disk (Some h) before now = uses_disk h ≡ false → now ≡ before

-- A door over a shelf: what an act of a session says in each way; whether a whole request is at the
-- session's front; and whether the act may use the disk, given the archive.
pub record ShelfDoor (H : Type 0) : Type 0 where
  pub said : Archive → H → Departure → Said H Archive
  pub is_request : H → Bool
  pub uses_disk : Archive → H → Bool

module _ {S H : Type 0} (g : Shelf S) (door : ShelfDoor H) where
  -- One act over a shelf. The archive and the shelf stay, but for what reading changes. The count of
  -- faults that the act leaves is the shelf's, and it is the one before if the act doesn't use the disk.
  pub record ShelfActs (old : S) (w : SessionState H Archive) (new : S) (v : SessionState H Archive)
      : Type 0 where
    pub stays : ShelfKept g old new
    pub archive : v.after ≡ w.after
    pub disk : v.outside.disk ≡ g.faults new
    pub spared : SparesDisk (door.uses_disk w.after) w.held w.outside.disk v.outside.disk

  -- Some requests over the shelf lead from one talk to another.
  abbrev pub ShelfRunning : S → S → SessionState H Archive → SessionState H Archive → Type 0
  ShelfRunning old now w m =
      SessionRunning (KeptAlong ShelfActs) door.said door.is_request old now w m

  -- The course of a piece over the shelf.
  abbrev pub ShelfRun : S → S → SessionState H Archive → SessionState H Archive → Type 0
  ShelfRun old new w v = SessionRun (KeptAlong ShelfActs) door.said door.is_request old new w v

-- A door over a keeper: what an act of a session says in each way; whether a whole request is at the
-- session's front; and what the act asks of the keeper, given its standing, at which moment.
pub record KeeperDoor (H : Type 0) : Type 0 where
  pub said : LastKnown → H → Departure → Said H LastKnown
  pub is_request : H → Bool
  pub asks : LastKnown → H → KeeperAsked
  pub moment : ℕ

module _ {K H : Type 0} (g : Keeper K) (door : KeeperDoor H) where
  -- An act of this session, if it is open, did what it asks of the keeper.
  abbrev pub DoesIf : Option H → K → SessionState H LastKnown → K → SessionState H LastKnown → Type 0
  DoesIf None old w new v = Unit {0}
  DoesIf (Some h) old w new v = DoesAsked g door.moment (door.asks w.after h) (door.said w.after h) old
      w.after w.outside v.held new v.after v.outside

  -- One act over a keeper. The keeper matches what the act leaves, and so its files do; a crash in the
  -- act leaves the archive before it or the one after it, or one in doubt there; the count of faults
  -- that the act leaves is the keeper's; and the act did of the keeper what it asks, and no more.
  pub record KeeperActs (old : K) (w : SessionState H LastKnown) (new : K) (v : SessionState H LastKnown)
      : Type 0 where
    pub moves : KeeperMoves g old w.after new v.after
    pub disk : v.outside.disk ≡ g.faults new
    pub does : DoesIf w.held old w new v

  -- Some requests over the keeper lead from one talk to another.
  abbrev pub KeeperRunning : K → K → SessionState H LastKnown → SessionState H LastKnown → Type 0
  KeeperRunning old now w m =
      SessionRunning (KeptAlong KeeperActs) door.said door.is_request old now w m

  -- The course of a piece over the keeper.
  abbrev pub KeeperRun : K → K → SessionState H LastKnown → SessionState H LastKnown → Type 0
  KeeperRun old new w v = SessionRun (KeptAlong KeeperActs) door.said door.is_request old new w v

  -- A course, and what a crash since its start has left: an archive of one of its talks, or one in
  -- doubt there.
  pub record SessionRunLeft (old new : K) (w v : SessionState H LastKnown) : Type 0 where
    pub course : KeeperRun old new w v
    pub crash : g.leaves old new (archives_in w (course.acts ++ v ∷ []))
