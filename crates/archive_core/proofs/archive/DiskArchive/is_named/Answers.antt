use Rattle.std.proofs.Common.{◌≡◌, ◌∙◌, ap}
use Rattle.store_finding.specs.Kept.{StoreState}
use Rattle.archive_core.proofs.Removing.{named-yes, named-no}
use Rattle.archive_core.proofs.archive.DiskArchive.is_named.Goals as goal

pub returns-in-Some-clause-named : goal.returns-in-Some-clause-named
returns-in-Some-clause-named c =
    let same : c.stored.result.now ≡ c.args.self.now.entries = c.stored.ensures ∙ ap (λ (v : StoreState). v.entries) c.self.view_is in
    named-yes c.stored.result.now c.args.self.now.entries c.args.index c.index-stored-index.result c.args.text.now c.in-Some.id.now c.as_slice.result.now c.eq.result same c.requires.there c.as_slice.ensures c.in-Some.ensures c.eq.ensures

pub returns-in-Some-clause-other : goal.returns-in-Some-clause-other
returns-in-Some-clause-other c =
    let same : c.stored.result.now ≡ c.args.self.now.entries = c.stored.ensures ∙ ap (λ (v : StoreState). v.entries) c.self.view_is in
    named-no c.stored.result.now c.args.self.now.entries c.args.index c.index-stored-index.result c.args.text.now c.in-Some.id.now c.as_slice.result.now c.eq.result same c.as_slice.ensures c.in-Some.ensures c.eq.ensures
