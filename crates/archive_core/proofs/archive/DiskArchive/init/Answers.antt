use Rattle.std.proofs.Common.{◌∙◌, sym, ap, subst, List}
use Rattle.store_finding.specs.declared.entries.StoredEntry.{StoredEntry}
use Rattle.store_finding.specs.Indexes.{IndexesStored}
use Rattle.archive_core.specs.Placing.{message_places, PlacesRise}
use Rattle.store_finding.proofs.Indexes.{indexes_none}
use Rattle.archive_core.proofs.archive.DiskArchive.init.Goals as goal

pub invariant_of-result : goal.invariant_of-result
invariant_of-result g c = (
  subst (λ (es : List StoredEntry). IndexesStored es c.new.result) (sym c.in_ok-store.ensures.made.none) (indexes_none c.new.result c.new.ensures.owners c.new.ensures.blobs),
  c.new-2.ensures.items ∙ sym (ap (message_places 0) c.in_ok-store.ensures.made.none),
  subst PlacesRise (sym c.new-2.ensures.items) tt,
)
