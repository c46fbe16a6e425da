-- The current epoch isn't planned yet.
use Rattle.std.proofs.Common.{rules}
use Rattle.store_planning.specs.Planning.{Planning}
use Rattle.store_planning.proofs.Apart.{current_apart}
use Rattle.store_planning.proofs.planning.Planner.close_last.Goals as goal

pub close-requires : goal.close-requires
close-requires c =
    let inside : Planning = record { plans = c.self.inside.plans.items; entries = c.self.inside.entries.items; gone = c.self.inside.gone; current = c.self.inside.current; form = c.self.inside.form } in
    current_apart inside c.args.self.now c.in-Some.plan c.self.view_is (search rules) c.requires
