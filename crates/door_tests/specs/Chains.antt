-- Three commands in order, and what a crash since the first one's start leaves.
use Rattle.std.specs.Prelude.{[], ◌∷◌}
use Rattle.arch_model.specs.Keeping.{MatchesKnown, Keeper}
use Rattle.arch_model.specs.Standing.{LastKnown}
use Rattle.keep_course.specs.Courses.{archives_of}

-- The keeper fitted a standing, then one after each command; and a crash since the start has left the
-- archive, or the one in doubt, of one of these.
pub record Chain {K : Type 0} (g : Keeper K) (old new : K) (s : LastKnown) : Type 0 where
  pub first : LastKnown
  pub second : LastKnown
  pub third : LastKnown
  pub fits : MatchesKnown g new third
  pub crash : g.leaves old new (archives_of (s ∷ first ∷ second ∷ third ∷ []))
