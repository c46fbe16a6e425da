-- The map is planned with all records.
use Rattle.std.proofs.Common.{◌≡◌, List, length, subst}
use Rattle.std.specs.List.{flat_map, sum_by}
use Rattle.number_map.specs.Records.{record_bytes, size_of_line}
use Rattle.number_map.specs.declared.line.Record.{Record}
use Rattle.root_change.specs.Rewriting.{with_bytes}
use Rattle.store_planning.proofs.Mapped.{plans_records, records_all}
use Rattle.store_planning.proofs.mapping.plan_map.Goals as goal

pub returns : goal.returns
returns c =
    let all = c.push_none.new.lines in
    let whole = records_all c.args.form c.args.entries.now c.args.next c.in_ok-number.number c.push_entries.new.lines all c.in_ok-number.ensures c.in_ok-push_none.ensures in
    let did = c.in_ok-push_records.ensures in
    let plan = c.new-plan.result in
    let made = c.push_records.new.plan in
    let pushed = subst (λ (rs : List Record). made ≡ with_bytes plan (flat_map record_bytes rs)) c.as_slice.ensures did.ok in
    let size = subst (λ (rs : List Record). length (flat_map record_bytes rs) ≡ sum_by size_of_line rs) c.as_slice.ensures did.size in
    record { planned = (all, whole.1, plans_records c.args.form all c.args.next plan made c.new-plan.ensures.plan pushed did.valid c.new-plan.ensures.valid size whole.0) }
