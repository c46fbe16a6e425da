-- Without an entry the plan writes nothing.
use Rattle.std.proofs.Common.{◌≡◌, Some, false, is_some, rules, subst, sym}
use Rattle.root_change.specs.Rewriting.{Plan}
use Rattle.epoch_file.specs.Planning.{FinishesPlan, Planned}
use Rattle.epoch_file.proofs.Planned.{finishes_none, not_some}
use Rattle.epoch_file.proofs.planning.EpochPlan.finish.Goals as goal

pub returns-in-Some-clause-finished : goal.returns-in-Some-clause-finished
returns-in-Some-clause-finished c =
    let inside = c.self.inside in
    let was : Planned = record { file = inside.file; changed = inside.changed; end_ = inside.end; parent = inside.parent; form = inside.form } in
    let isnt : is_some inside.parent ≡ false = search rules in
    subst (λ (p : Planned). FinishesPlan p (Some c.new.result)) c.self.view_is
    (subst (λ (p : Plan). FinishesPlan was (Some p)) (sym c.new.ensures.plan) (finishes_none was (not_some inside.parent isnt)))
