-- What carrying out plans leaves, on the disk and in memory.
use Rattle.std.proofs.Common.{◌≡◌, List, refl, rules, sym, subst}
use Rattle.root_change.specs.Rewriting.{Plan}
use Rattle.store_finding.specs.Extents.{AreNamed, AreNamedAfter}
use Rattle.store_finding.specs.Kept.{InEpochs, StoreState}
use Rattle.epoch_store.proofs.Changing.{carried_done, carried_failed, carried_short, unstarted}
use Rattle.epoch_store.proofs.EntryExtents.{named_after}
use Rattle.epoch_store.proofs.store.Store.carry_out.Goals as goal

pub returns-then-self-clause-changes : goal.returns-then-self-clause-changes
returns-then-self-clause-changes g c = unstarted {g = g.D.Disk} (g.met.D.Disk.only_now c.args.disk.now) (search rules) refl

pub returns-in-Ok-clause-changes : goal.returns-in-Ok-clause-changes
returns-in-Ok-clause-changes g c = carried_done c.self.view_is c.other-slot.ensures c.plans.ensures c.rewrite.ensures.fewest c.into_entries.ensures c.requires.ready c.in-Ok.ensures.carried

pub returns-in-Err-DiskFault-clause-changes : goal.returns-in-Err-DiskFault-clause-changes
returns-in-Err-DiskFault-clause-changes g c = carried_failed c.self.view_is c.other-slot.ensures c.plans.ensures c.rewrite.ensures.fewest c.in-Err-DiskFault.field-0-is c.in-Err-DiskFault.ensures.carried

pub returns-clause-changes : goal.returns-clause-changes
returns-clause-changes g c = rw (c.in-Err-Short.file-is, c.in-Err-Short.at-is) (carried_short {p = c.args.planned} c.self.view_is c.other-slot.ensures c.plans.ensures c.rewrite.ensures.fewest c.in-Err-Short.field-0-is c.requires.ready c.in-Err-Short.ensures.carried)

pub invariant_of-self : goal.invariant_of-self
invariant_of-self g c =
    let old = c.self.inside.root in
    let p = c.args.planned in
    let plans : c.plans.result.now ≡ p.plans = c.plans.ensures in
    let entries = sym c.into_entries.ensures in
    let named = subst (λ (u : StoreState). AreNamedAfter u.root p.plans p.entries) (sym c.self.view_is) c.requires.named in
    let after = named_after old c.plans.result.now c.args.next c.in-Ok.root p.entries c.in-Ok.ensures.carried.root_is c.requires.epochs (subst (λ (l : List Plan). AreNamedAfter old l p.entries) (sym plans) named) in
    (c.in-Ok.ensures.carried.valid, subst InEpochs entries c.requires.epochs, subst (AreNamed c.in-Ok.root) entries after)
