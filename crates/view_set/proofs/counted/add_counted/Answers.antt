use Rattle.std.specs.Ordering.{nat_cmp}
use Rattle.std.specs.BTreeMap.{insert_entry}
use Rattle.view_set.proofs.Keyed.{becomes-by, broken-by}
use Rattle.view_set.proofs.counted.add_counted.Goals as goal

pub returns-clause-whole : goal.returns-clause-whole
returns-clause-whole g c = becomes-by c.add.result c.args.threads.now c.add.new.self (insert_entry nat_cmp c.args.threads.now.rows c.args.n c.args.keys.now) c.requires.whole c.add.ensures.whole c.add.ensures.rows

pub returns-clause-err : goal.returns-clause-err
returns-clause-err g c = broken-by c.add.result c.add.new.self.whole c.add.ensures.whole
