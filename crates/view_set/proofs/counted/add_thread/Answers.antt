use Rattle.std.proofs.Common.{◌∙◌, sym}
use Rattle.std.specs.Ordering.{nat_cmp}
use Rattle.std.specs.BTreeMap.{insert_entry}
use Rattle.view_set.proofs.Keyed.{becomes-not}
use Rattle.view_set.proofs.counted.add_thread.Goals as goal

pub returns-then-not-is_whole-clause-whole : goal.returns-then-not-is_whole-clause-whole
returns-then-not-is_whole-clause-whole c = becomes-not c.args.threads.now (insert_entry nat_cmp c.args.threads.now.rows c.args.n c.args.keys.now) (sym c.is_whole.ensures ∙ c.if-not-is_whole.true)

pub add_counted-requires-clause-new : goal.add_counted-requires-clause-new
add_counted-requires-clause-new c = c.requires (sym c.is_whole.ensures ∙ c.if-not-is_whole.false)
