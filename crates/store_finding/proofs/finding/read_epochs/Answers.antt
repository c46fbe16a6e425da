-- Nothing is read at first, and what is kept lies in the bytes that are named, with ids of the form.
use Rattle.std.proofs.Common.{◌≡◌, List, Result, Ok, Err, sym, subst}
use Rattle.std.specs.Prelude.{IfOk}
use Rattle.arch_model.specs.declared.opening.OpenRefusal.{OpenRefusal}
use Rattle.store_finding.specs.declared.entries.StoredEntry.{StoredEntry}
use Rattle.store_finding.specs.Extents.{AreNamed}
use Rattle.store_finding.specs.Files.{as_read}
use Rattle.store_finding.specs.StoredIds.{AreOfForm}
use Rattle.store_finding.proofs.Extents.{named_none}
use Rattle.store_finding.proofs.FindingTold.{where_so}
use Rattle.store_finding.proofs.FindingTurns.{begun}
use Rattle.store_finding.proofs.finding.read_epochs.Goals as goal

pub returns-in-Ok-join_all-clause-kept : goal.returns-in-Ok-join_all-clause-kept
returns-in-Ok-join_all-clause-kept g c =
    where_so _ _ (g.D.Disk.content c.args.disk.now) c.in-Ok-join_all.ensures.joined
    (λ k reads fits has. c.finish.ensures.ends c.args.records.now (as_read k) (reads c.args.records.now fits (begun c.args.root.now (as_read k) c.args.records.now c.in-Ok.joining has c.in-Ok.ensures.records c.in-Ok.ensures.entries)))

pub returns-in-Err-clause-kept : goal.returns-in-Err-clause-kept
returns-in-Err-clause-kept g c =
    where_so _ _ (g.D.Disk.content c.args.disk.now) c.in-Err.ensures.joined
    (λ k reads fits has. reads c.args.records.now fits (begun c.args.root.now (as_read k) c.args.records.now c.in-Ok.joining has c.in-Ok.ensures.records c.in-Ok.ensures.entries))

-- What holds of what was joined holds of what is kept.
also_kept : (P : List StoredEntry → Type 0) (es : List StoredEntry) (result : Result (List StoredEntry) OpenRefusal) → P es → IfOk result (λ (kept : List StoredEntry). kept ≡ es) → IfOk result P
also_kept P es (Ok kept) are same = subst P (sym same) are
also_kept P es (Err refusal) are same = tt

pub returns-in-Ok-join_all-clause-named : goal.returns-in-Ok-join_all-clause-named
returns-in-Ok-join_all-clause-named g c =
    let root = c.args.root.now in
    also_kept (AreNamed root) c.in-Ok-join_all.joined.entries c.finish.result (c.in-Ok-join_all.ensures.named (named_none root c.in-Ok.joining.entries c.in-Ok.ensures.entries)) c.finish.ensures.kept

pub returns-in-Ok-join_all-clause-ids : goal.returns-in-Ok-join_all-clause-ids
returns-in-Ok-join_all-clause-ids g c =
    let form = c.args.root.now.config.form in
    also_kept (AreOfForm form) c.in-Ok-join_all.joined.entries c.finish.result (c.in-Ok-join_all.ensures.ids (subst (AreOfForm form) (sym c.in-Ok.ensures.entries) tt)) c.finish.ensures.kept
