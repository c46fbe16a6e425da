-- An entry that is refused.
use Rattle.store_planning.proofs.Taking.{refuses_entry}
use Rattle.store_planning.proofs.planning.Planner.keep.Goals as goal

pub returns-in-Err-clause-refused : goal.returns-in-Err-clause-refused
returns-in-Err-clause-refused g c = refuses_entry c.args.plan c.keep.new.self c.args.entry.now (g.D.Disk.content c.args.disk.now) c.in-Err.refusal c.in-Err.ensures.kept

pub returns-in-Err-clause-damage : goal.returns-in-Err-clause-damage
returns-in-Err-clause-damage g c = c.in-Err.ensures.damage
