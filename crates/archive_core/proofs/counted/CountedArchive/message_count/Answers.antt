use Rattle.std.proofs.Common.{◌∙◌, ap, length, min}
use Rattle.store_finding.specs.Kept.{StoreState}
use Rattle.epoch_store.specs.Commands.{live_kept}
use Rattle.archive_core.proofs.Counting.{kept-counted}
use Rattle.archive_core.proofs.counted.CountedArchive.message_count.Goals as goal

pub returns : goal.returns
returns c = λ a keeps.
    c.min.ensures ∙ ap (min _) c.from.ensures
    ∙ kept-counted c.args.self.now a c.self.inside.live keeps (c.self.invariant ∙ ap (λ (v : StoreState). length (live_kept v.entries)) c.self.view_is)
