use Rattle.thread_index.proofs.MapLists.{takes-key}
use Rattle.thread_index.proofs.lists.take_key.Goals as goal

-- src/lists.rt:44:1
pub returns-clause-rest : goal.returns-clause-rest
returns-clause-rest c = takes-key c.args.lists.now c.remove.new.self c.args.key.now c.remove.ensures.entries c.remove.ensures.updates.1
