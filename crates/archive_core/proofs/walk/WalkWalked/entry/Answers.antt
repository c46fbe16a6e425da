use Rattle.std.proofs.Common.{◌∙◌}
use Rattle.archive_core.proofs.ByIndex.{line-kept}
use Rattle.archive_core.proofs.Standing.{store_keeps}
use Rattle.archive_core.proofs.Walking.{line-index}
use Rattle.archive_core.proofs.walk.WalkWalked.entry.Goals as goal

pub returns-clause-line : goal.returns-clause-line
returns-clause-line g c = c.entry.ensures ∙ line-index c.args.self.now.store.now.entries c.args.index

pub returns-clause-archive : goal.returns-clause-archive
returns-clause-archive g c = λ a store. c.entry.ensures ∙ line-kept c.args.self.now.store.now a c.args.index (store_keeps c.args.self.now.store.now store.0 a (g.D.Disk.content c.args.self.now.disk.now) store.1)
