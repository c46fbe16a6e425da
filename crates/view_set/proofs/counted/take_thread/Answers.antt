use Rattle.std.proofs.Common.{◌∙◌, sym}
use Rattle.std.specs.Ordering.{nat_cmp}
use Rattle.std.specs.BTreeMap.{is_at}
use Rattle.std.specs.Map.{remove_entry}
use Rattle.view_set.proofs.Keyed.{becomes-not}
use Rattle.view_set.proofs.counted.take_thread.Goals as goal

pub returns-then-not-is_whole : goal.returns-then-not-is_whole
returns-then-not-is_whole c = becomes-not c.args.threads.now (remove_entry (is_at (nat_cmp c.args.n)) c.args.threads.now.rows) (sym c.is_whole.ensures ∙ c.if-not-is_whole.true)
