-- What carrying out a conversion leaves, on the disk and in memory.
use Rattle.std.proofs.Common.{◌≡◌, List, refl, rules, sym, subst}
use Rattle.root_change.specs.Rewriting.{Plan}
use Rattle.store_finding.specs.Extents.{AreNamed, AreNamedAfter}
use Rattle.store_finding.specs.Kept.{InEpochs, StoreState}
use Rattle.convert_planning.specs.Converting.{PlansConversion}
use Rattle.epoch_store.specs.declared.convert_refusal.ConvertRefusal.TheVariants as refusal
use Rattle.epoch_store.proofs.ConvertCarried.{converted_low, converts_done, converts_failed, converts_short, converts_unstarted, entries_done, named_in}
use Rattle.epoch_store.proofs.store.Store.carry_conversion.Goals as goal

pub returns-then-self-clause-changes : goal.returns-then-self-clause-changes
returns-then-self-clause-changes g c = converts_unstarted {g = g.D.Disk} refusal.NoMemory refl (search rules) (g.met.D.Disk.only_now c.args.disk.now) tt (λ same. absurd (cc same))

pub returns-in-Ok-clause-changes : goal.returns-in-Ok-clause-changes
returns-in-Ok-clause-changes g c = converts_done c.self.view_is c.other-slot.ensures c.plans.ensures c.rewrite.ensures.fewest c.requires.planned c.into_entries.ensures c.in-Ok.ensures.carried

pub returns-in-Ok-clause-kept : goal.returns-in-Ok-clause-kept
returns-in-Ok-clause-kept g c = entries_done c.self.view_is c.other-slot.ensures c.plans.ensures c.rewrite.ensures.fewest c.requires.planned c.into_entries.ensures c.in-Ok.ensures.carried

pub returns-in-Err-DiskFault-clause-changes : goal.returns-in-Err-DiskFault-clause-changes
returns-in-Err-DiskFault-clause-changes g c = converts_failed c.self.view_is c.other-slot.ensures c.plans.ensures c.rewrite.ensures.fewest c.requires.planned c.in-Err-DiskFault.field-0-is c.in-Err-DiskFault.ensures.carried

pub returns-clause-changes : goal.returns-clause-changes
returns-clause-changes g c = rw (c.in-Err-Short.file-is, c.in-Err-Short.at-is) (converts_short {p = c.args.planned} c.self.view_is c.other-slot.ensures c.plans.ensures c.rewrite.ensures.fewest c.requires.planned c.in-Err-Short.field-0-is c.in-Err-Short.ensures.carried)

pub invariant_of-self : goal.invariant_of-self
invariant_of-self g c =
    let old = c.self.inside.root in
    let p = c.args.planned in
    let plans : c.plans.result.now ≡ p.plans = c.plans.ensures in
    let entries = sym c.into_entries.ensures in
    let planned = subst (λ (u : StoreState). PlansConversion u.root c.args.form u.entries p) (sym c.self.view_is) c.requires.planned in
    let low = converted_low c.args.form c.self.inside.entries.items p.entries c.self.invariant.1 planned.kept in
    let after = named_in old c.plans.result.now old.next c.args.form c.in-Ok.root p.entries c.in-Ok.ensures.carried.root_is low (subst (λ (l : List Plan). AreNamedAfter old l p.entries) (sym plans) planned.named) in
    (c.in-Ok.ensures.carried.valid, subst InEpochs entries low, subst (AreNamed c.in-Ok.root) entries after)
