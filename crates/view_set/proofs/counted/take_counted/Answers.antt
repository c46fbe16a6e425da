use Rattle.std.specs.Ordering.{nat_cmp}
use Rattle.std.specs.BTreeMap.{is_at}
use Rattle.std.specs.Map.{remove_entry}
use Rattle.view_set.proofs.Keyed.{becomes-by}
use Rattle.view_set.proofs.counted.take_counted.Goals as goal

pub returns : goal.returns
returns g c = becomes-by c.take.result c.args.threads.now c.take.new.self (remove_entry (is_at (nat_cmp c.args.n)) c.args.threads.now.rows) c.requires.whole c.take.ensures.whole c.take.ensures.rows
