-- An entry is kept, or was refused.
use Rattle.std.proofs.Common.{Err, sym, subst}
use Rattle.epoch_file.specs.declared.refusal.StoreRefusal.{StoreRefusal}
use Rattle.store_planning.specs.DamagedTexts.{DamageBy, IsDamageOf}
use Rattle.store_planning.specs.Planning.{KeepsStored}
use Rattle.store_planning.proofs.Losing.{kept_changes}
use Rattle.store_planning.proofs.Taken.{kept_on}
use Rattle.store_planning.proofs.Taking.{kept_gone, kept_in, kept_made, keeps_stored, refuses_stored, take_damage}
use Rattle.store_planning.proofs.planning.Planner.keep_entry.Goals as goal

pub returns-in-Ok-clause-kept : goal.returns-in-Ok-clause-kept
returns-in-Ok-clause-kept g c = keeps_stored c.args.self.now c.args.file c.args.entry.now (g.D.Disk.content c.args.disk.now) c.open.new.self c.keep.new.self c.in_ok-plan.plan c.in_ok-plan.ensures.opened c.in-Ok.ensures.kept

pub returns-in-Ok-clause-made : goal.returns-in-Ok-clause-made
returns-in-Ok-clause-made g c = kept_made c.args.self.now c.args.file c.args.entry.now (g.D.Disk.content c.args.disk.now) c.open.new.self c.keep.new.self c.in_ok-plan.plan c.in_ok-plan.ensures.opened c.in-Ok.ensures.kept

pub returns-in-Ok-clause-gone : goal.returns-in-Ok-clause-gone
returns-in-Ok-clause-gone g c = kept_gone c.args.self.now c.args.file c.args.entry.now (g.D.Disk.content c.args.disk.now) c.open.new.self c.keep.new.self c.in_ok-plan.plan c.in_ok-plan.ensures.opened c.in-Ok.ensures.kept

pub returns-in-Ok-clause-plans : goal.returns-in-Ok-clause-plans
returns-in-Ok-clause-plans g c = λ root file_is are.
    kept_in root c.args.self.now c.args.file c.args.entry.now (g.D.Disk.content c.args.disk.now) c.open.new.self c.keep.new.self c.in_ok-plan.plan are c.in_ok-plan.ensures.opened file_is c.requires.epoch c.in-Ok.ensures.kept

pub returns-in-Ok-clause-changes : goal.returns-in-Ok-clause-changes
returns-in-Ok-clause-changes g c = kept_changes c.args.self.now c.args.file c.args.entry.now (g.D.Disk.content c.args.disk.now) c.open.new.self c.keep.new.self c.in_ok-plan.plan c.in_ok-plan.ensures.opened c.in-Ok.ensures.kept

pub returns-in-Ok-clause-lies : goal.returns-in-Ok-clause-lies
returns-in-Ok-clause-lies g c = kept_on c.args.self.now c.args.file c.args.entry.now (g.D.Disk.content c.args.disk.now) c.open.new.self c.keep.new.self c.in_ok-plan.plan c.in_ok-plan.ensures.opened c.in-Ok.ensures.kept

pub returns-in-Err-clause-kept : goal.returns-in-Err-clause-kept
returns-in-Err-clause-kept g c =
    let content = g.D.Disk.content c.args.disk.now in
    subst (λ (r : StoreRefusal). KeepsStored c.args.self.now c.args.file c.args.entry.now content c.keep.new.self (Err r)) (sym c.damaged_in.ensures)
    (refuses_stored c.args.self.now c.args.file c.args.entry.now content c.open.new.self c.keep.new.self c.in_ok-plan.plan c.in-Err.refusal c.in_ok-plan.ensures.opened c.in-Err.ensures.refused)

pub returns-in-Err-clause-damage : goal.returns-in-Err-clause-damage
returns-in-Err-clause-damage g c =
    let content = g.D.Disk.content c.args.disk.now in
    subst (λ (r : StoreRefusal). DamageBy r (IsDamageOf c.args.self.now.form c.args.file c.args.entry.now content)) (sym c.damaged_in.ensures)
    (take_damage c.args.self.now c.args.file c.args.entry.now content c.open.new.self c.in_ok-plan.plan c.in-Err.refusal c.in_ok-plan.ensures.opened c.in_ok-plan.ensures.form c.in-Err.ensures.damage)
