-- All entries were taken, and the map was planned.
use Rattle.std.proofs.Common.{List, subst}
use Rattle.arch_base.specs.declared.ids.Form.{Form}
use Rattle.disk_model.specs.Disk.{WhereTold}
use Rattle.store_finding.specs.declared.entries.StoredEntry.{StoredEntry}
use Rattle.store_planning.specs.Epochs.{PlansMapOf}
use Rattle.convert_planning.specs.ConvertSteps.{ConvertsAll, HasTaken}
use Rattle.convert_planning.proofs.WholePlans.{converts_own, plans_conversion}
use Rattle.convert_planning.proofs.whole.plan_conversion.Goals as goal

pub returns-clause-planned : goal.returns-clause-planned
returns-clause-planned g c =
    let root = c.args.root.now in
    let old = c.args.entries.now in
    let p = c.take_all.new.planned in
    let taken = subst (λ (f : Form). HasTaken root f old p) c.in_ok-planned.ensures.form c.in-Ok.ensures.taken in
    let map = subst (λ (es : List StoredEntry). PlansMapOf c.args.form es root.next c.in_ok-map.map) c.entries.ensures c.in_ok-map.ensures.planned in
    plans_conversion root c.args.form old p c.push.new.self taken c.in_ok-map.map map c.in_ok-push.ensures

pub returns-clause-own : goal.returns-clause-own
returns-clause-own g c =
    let root = c.args.root.now in
    let old = c.args.entries.now in
    let p = c.take_all.new.planned in
    let content = g.D.Disk.content c.args.disk.now in
    let taken = subst (λ (f : Form). HasTaken root f old p) c.in_ok-planned.ensures.form c.in-Ok.ensures.taken in
    let map = subst (λ (es : List StoredEntry). PlansMapOf c.args.form es root.next c.in_ok-map.map) c.entries.ensures c.in_ok-map.ensures.planned in
    let all = subst (λ (f : Form). WhereTold (ConvertsAll root f old p) content) c.in_ok-planned.ensures.form c.in-Ok.ensures.all in
    converts_own root c.args.form old p c.push.new.self taken c.in_ok-map.map map c.in_ok-push.ensures content all
