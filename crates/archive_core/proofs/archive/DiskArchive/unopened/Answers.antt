use Rattle.archive_core.proofs.ByIndex.{place-there}
use Rattle.archive_core.proofs.archive.DiskArchive.unopened.Goals as goal

pub unreachable-requires : goal.unreachable-requires
unreachable-requires c = place-there c.args.self.now c.self.inside.store c.args.unread.now.index c.self.view_is c.requires.there c.in-None.ensures
