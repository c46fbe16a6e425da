-- Three commands make one run.
use Rattle.std.proofs.Common.{[], ◌∷◌}
use Rattle.arch_model.specs.Keeping.{CrashesLeaveOnly, MatchesKnown, KeeperMoves, Keeper}
use Rattle.arch_model.specs.Standing.{LastKnown}
use Rattle.arch_model.proofs.Keepers.{passes-chain}
use Rattle.keep_course.specs.Courses.{archives_of}
use Rattle.keep_course.proofs.Courses.{all-own}
use Rattle.door_tests.specs.Chains.{Chain}

pub chained : {K : Type 0} (g : Keeper K) (old one two new : K) (s t u v : LastKnown)
    → MatchesKnown g old s → KeeperMoves g old s one t → KeeperMoves g one t two u → KeeperMoves g two u new v → Chain g old new s
chained {K} g old one two new s t u v fits first second third =
    let two_runs : CrashesLeaveOnly g.leaves old two (s ∷ t ∷ u ∷ []) = passes-chain g.leaves old one two (s ∷ []) t (u ∷ []) first.passes second.passes in
    let all_runs : CrashesLeaveOnly g.leaves old new (s ∷ t ∷ u ∷ v ∷ []) = passes-chain g.leaves old two new (s ∷ t ∷ []) u (v ∷ []) two_runs third.passes in
    let own = all-own (s ∷ t ∷ u ∷ v ∷ []) in
    record { first = t; second = u; third = v; fits = third.fits; crash = all_runs old (archives_of (s ∷ t ∷ u ∷ v ∷ [])) own (fits.left (archives_of (s ∷ t ∷ u ∷ v ∷ [])) own.0) }
