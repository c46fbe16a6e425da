-- One more entry was taken.
use Rattle.std.proofs.Common.{◌≡◌, ◌∙◌, List, length, take, sym, ap, subst, refl, arith}
use Rattle.std.specs.List.{AllZip}
use Rattle.disk_model.specs.Disk.{WhereTold}
use Rattle.disk_model.specs.declared.name.FileName.{FileName}
use Rattle.std.proofs.lemmas.List.{take_all}
use Rattle.store_finding.specs.declared.entries.StoredEntry.{StoredEntry}
use Rattle.store_finding.specs.Extents.{AreNamed}
use Rattle.store_planning.specs.Planning.{ArePlansIn, IsTakenUpTo, Planning, PlansFirst, is_anew, loses}
use Rattle.store_planning.specs.Dropping.{KeptOf, without_blob}
use Rattle.store_finding.specs.Kept.{StoreState}
use Rattle.store_finding.proofs.FindingTold.{reads_none, reads_both}
use Rattle.epoch_store.proofs.LosingAll.{lost_more}
use Rattle.epoch_store.proofs.Purged.{entry_at, first_none, first_more, first_stops, first_whole, kept_more, plans_none, rose_later_than}
use Rattle.store_planning.proofs.Apart.{taken_apart}
use Rattle.store_planning.proofs.Taken.{taken_more, taken_none}
use Rattle.epoch_store.proofs.TextDamage.{entry_damage}
use Rattle.epoch_store.proofs.store.Store.plan_entries.Goals as goal

pub loop-entry-init : goal.loop-entry-init
loop-entry-init g c =
    let v = c.args.self.now in
    let blob = c.args.blob.now in
    let none = sym c.requires.none in
    record {
      kept = subst (λ (p : Planning). AllZip KeptOf (without_blob (take 0 v.entries) blob) p.entries) none tt;
      plans = subst (ArePlansIn v.root) none (plans_none v.root);
      taken =
          let named : AreNamed v.root v.entries = subst (λ (u : StoreState). AreNamed u.root u.entries) c.self.view_is c.self.invariant.2 in
          record { epoch = 0; from = 0; taken = subst (IsTakenUpTo v.root 0 0) none (taken_none v.root.config.form v.root); lie = named.lie; ends = named.ends };
      changes = λ e. ap (λ (p : Planning). is_anew p e) c.requires.none;
      first = subst (λ (p : Planning). WhereTold (PlansFirst v blob 0 p) (g.D.Disk.content c.args.disk.now)) none (first_none v blob (g.D.Disk.content c.args.disk.now));
      reads = reads_none g.D.Disk c.args.disk.now (λ image. g.met.D.Disk.only_now c.args.disk.now image);
      steady = refl;
      fewest = omega arith;
    }

pub returns-in-Err-clause-undamaged : goal.returns-in-Err-clause-undamaged
returns-in-Err-clause-undamaged g c =
    let v = c.args.self.now in
    let inv = c.loop-entry.invariant in
    let i = c.loop-entry.entry-index in
    let e = c.entry-item.result in
    let here = entry_at v c.self.inside.root c.self.inside.slot c.self.inside.entries.items c.as_slice-entry-items.result.now i e c.self.view_is c.as_slice-entry-items.ensures.value c.loop-entry-test.true c.entry-item.is in
    first_stops v c.args.blob.now i c.loop-entry.planned c.take.new.self (g.D.Disk.content c.args.disk.now) (g.D.Disk.content c.loop-entry.disk) e c.file_of.result c.in-Err.refusal (Unit {0}) inv.reads.same here c.file_of.ensures c.requires.there inv.first c.in-Err.ensures.taken

pub returns-in-Err-clause-damage : goal.returns-in-Err-clause-damage
returns-in-Err-clause-damage g c =
    let v = c.args.self.now in
    let i = c.loop-entry.entry-index in
    let e = c.entry-item.result in
    let here = entry_at v c.self.inside.root c.self.inside.slot c.self.inside.entries.items c.as_slice-entry-items.result.now i e c.self.view_is c.as_slice-entry-items.ensures.value c.loop-entry-test.true c.entry-item.is in
    entry_damage v i e c.loop-entry.planned.form c.file_of.result (g.D.Disk.content c.args.disk.now) (g.D.Disk.content c.loop-entry.disk) c.in-Err.refusal here c.loop-entry.invariant.plans.form c.file_of.ensures c.loop-entry.invariant.reads.same c.in-Err.ensures.damage

pub returns-in-Err-clause-reads : goal.returns-in-Err-clause-reads
returns-in-Err-clause-reads g c = reads_both g.D.Disk c.args.disk.now c.loop-entry.disk c.take.new.disk c.loop-entry.invariant.reads c.take.ensures.reads

pub returns-in-Err-clause-cause : goal.returns-in-Err-clause-cause
returns-in-Err-clause-cause g c = rose_later_than _ (g.D.Disk.faults c.args.disk.now) (g.D.Disk.faults c.loop-entry.disk) (g.D.Disk.faults c.take.new.disk) c.loop-entry.invariant.steady c.in-Err.ensures.cause

pub loop-entry-preserved : goal.loop-entry-preserved
loop-entry-preserved g c =
    let v = c.args.self.now in
    let blob = c.args.blob.now in
    let inv = c.loop-entry.invariant in
    let i = c.loop-entry.entry-index in
    let e = c.entry-item.result in
    let old = c.loop-entry.planned in
    let new = c.take.new.self in
    let here = entry_at v c.self.inside.root c.self.inside.slot c.self.inside.entries.items c.as_slice-entry-items.result.now i e c.self.view_is c.as_slice-entry-items.ensures.value c.loop-entry-test.true c.entry-item.is in
    let fewest = inv.fewest in
    record {
      kept = kept_more v.entries i e blob old.entries new.entries here inv.kept c.in-Ok.ensures.kept;
      plans = c.in-Ok.ensures.plans v.root c.file_of.ensures inv.plans;
      taken = taken_more v.root v.entries i e c.file_of.result old new here c.file_of.ensures inv.taken c.in-Ok.ensures.lies;
      changes = lost_more v.entries i e blob c.file_of.result.number old new here (ap (λ (f : FileName). f.number) c.file_of.ensures) inv.changes c.in-Ok.ensures.changes;
      first = first_more v blob i old new (g.D.Disk.content c.args.disk.now) (g.D.Disk.content c.loop-entry.disk) e c.file_of.result inv.reads.same here c.file_of.ensures inv.first c.in-Ok.ensures.taken;
      reads = reads_both g.D.Disk c.args.disk.now c.loop-entry.disk c.take.new.disk inv.reads c.in-Ok.ensures.reads;
      steady = c.in-Ok.ensures.cause.kept (λ no. absurd (cc no)) ∙ inv.steady;
      fewest = (let more = c.in-Ok.ensures.fewest in omega (arith, fewest, more));
    }

pub returns-clause-kept : goal.returns-clause-kept
returns-clause-kept g c =
    let v = c.args.self.now in
    let same : c.as_slice-entry-items.result.now ≡ v.entries = c.as_slice-entry-items.ensures.value ∙ ap (λ (u : StoreState). u.entries) c.self.view_is in
    let size : length c.as_slice-entry-items.result.now ≡ length v.entries = ap length same in
    subst (λ (es : List StoredEntry). AllZip KeptOf (without_blob es c.args.blob.now) c.loop-entry.planned.entries) (take_all c.loop-entry.entry-index v.entries (omega (arith, c.loop-entry-test.false, size))) c.loop-entry.invariant.kept

pub returns-clause-changes : goal.returns-clause-changes
returns-clause-changes g c = λ n.
    let v = c.args.self.now in
    let same : c.as_slice-entry-items.result.now ≡ v.entries = c.as_slice-entry-items.ensures.value ∙ ap (λ (u : StoreState). u.entries) c.self.view_is in
    let size : length c.as_slice-entry-items.result.now ≡ length v.entries = ap length same in
    subst (λ (es : List StoredEntry). is_anew c.loop-entry.planned n ≡ loses es c.args.blob.now n) (take_all c.loop-entry.entry-index v.entries (omega (arith, c.loop-entry-test.false, size))) (c.loop-entry.invariant.changes n)

pub returns-clause-all : goal.returns-clause-all
returns-clause-all g c =
    let v = c.args.self.now in
    let same : c.as_slice-entry-items.result.now ≡ v.entries = c.as_slice-entry-items.ensures.value ∙ ap (λ (u : StoreState). u.entries) c.self.view_is in
    let size : length c.as_slice-entry-items.result.now ≡ length v.entries = ap length same in
    first_whole v c.args.blob.now c.loop-entry.entry-index c.loop-entry.planned (g.D.Disk.content c.args.disk.now) (omega (arith, c.loop-entry-test.false, size)) c.loop-entry.invariant.first

pub returns-clause-taken : goal.returns-clause-taken
returns-clause-taken g c = (let so = c.loop-entry.invariant.taken in record { epoch = so.epoch; from = so.from; taken = so.taken })

pub take-requires-clause-apart : goal.take-requires-clause-apart
take-requires-clause-apart g c = (let so = c.loop-entry.invariant.taken in taken_apart c.args.self.now.root so.epoch so.from c.loop-entry.planned so.taken)
