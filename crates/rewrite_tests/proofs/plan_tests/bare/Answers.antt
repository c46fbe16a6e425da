-- The root is that of an archive without messages.
use Rattle.std.specs.Prelude.{refl}
use Rattle.rewrite_tests.proofs.Bare.{is_bare}
use Rattle.rewrite_tests.proofs.plan_tests.bare.Goals as goal

pub returns : goal.returns
returns c = is_bare _ c.in_ok-config.ensures refl refl refl refl refl
