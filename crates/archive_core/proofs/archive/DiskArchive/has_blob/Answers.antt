use Rattle.std.proofs.Common.{◌≡◌, ◌∙◌, ap, Some, slice_get}
use Rattle.epoch_store.specs.Reads.{line_if}
use Rattle.store_finding.specs.Kept.{StoreState}
use Rattle.archive_core.proofs.ByBlob.{blob-line}
use Rattle.archive_core.proofs.archive.DiskArchive.has_blob.Goals as goal

pub returns-in-Some : goal.returns-in-Some
returns-in-Some c =
    let lined : Some c.in-Some.line ≡ line_if (slice_get c.args.self.now.entries c.args.index) = c.in-Some.ensures ∙ ap (λ (v : StoreState). line_if (slice_get v.entries c.args.index)) c.self.view_is in
    blob-line c.args.self.now.entries c.args.index c.in-Some.line c.args.id.now c.eq.result lined c.eq.ensures
