use Rattle.std.proofs.Common.{◌≡◌, ◌∙◌, length, slice_get, Some, refl, sym, ap}
use Rattle.std.specs.Prelude.{Option}
use Rattle.std.proofs.lemmas.Option.{slice_get_read}
use Rattle.store_finding.specs.declared.entries.StoredEntry.{StoredEntry}
use Rattle.archive_core.specs.Placing.{found_blob}
use Rattle.arch_base.proofs.IdOrder.{id_eq-flip, same_ids}
use Rattle.archive_core.proofs.placing.has_blob.Goals as goal

pub returns-in-Some : goal.returns-in-Some
returns-in-Some c =
    let es = c.args.entries.now in
    let e : StoredEntry = c.in-Some.entry.now in
    let here : slice_get es c.args.index ≡ Some e = slice_get_read es (length es) c.args.index e refl c.in-Some.ensures.lookup.3.0 c.in-Some.ensures.lookup.1 in
    c.eq.ensures ∙ same_ids e.seen.blob c.args.blob.now ∙ id_eq-flip e.seen.blob c.args.blob.now ∙ ap (λ (o : Option StoredEntry). found_blob o c.args.blob.now) (sym here)
