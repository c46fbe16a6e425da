-- No epoch is current once the last one is closed.
use Rattle.std.proofs.Common.{refl}
use Rattle.store_planning.proofs.Apart.{last_none}
use Rattle.store_planning.proofs.planning.Planner.close_epochs.Goals as goal

pub returns-clause-none : goal.returns-clause-none
returns-clause-none c = last_none c.args.self.now c.args.self.now.current c.close_last.new.self refl c.in_ok-close_last.ensures
