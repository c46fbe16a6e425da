-- The old id is under the new one.
use Rattle.std.proofs.Common.{Some}
use Rattle.id_clashes.proofs.Seen.{changed}
use Rattle.id_clashes.proofs.clashes.take.Goals as goal

pub returns-in_ok-insert-in-None-clause-kept : goal.returns-in_ok-insert-in-None-clause-kept
returns-in_ok-insert-in-None-clause-kept c = λ no q. changed c.args.seen.now c.insert.new.self c.args.text.now.new (Some c.args.text.now.old) c.in_ok-insert-in-None.ensures.updates q
