use Rattle.std.proofs.Common.{◌∙◌, ap, slice_get}
use Rattle.epoch_store.specs.Reads.{line_if}
use Rattle.store_finding.specs.Kept.{StoreState}
use Rattle.archive_core.proofs.ByIndex.{line-kept}
use Rattle.archive_core.proofs.archive.DiskArchive.entry.Goals as goal

pub returns : goal.returns
returns c = λ a keeps. c.entry.ensures ∙ ap (λ (v : StoreState). line_if (slice_get v.entries c.args.index)) c.self.view_is ∙ line-kept c.args.self.now a c.args.index keeps
