-- Each entry is joined, or the first that can't be ends it.
use Rattle.std.proofs.Common.{◌<◌, ◌+◌, ◌∙◌, ◌∷◌, sym, ap, subst, arith, length, rules, refl, Ok, Err}
use Rattle.std.proofs.lemmas.List.{nil_from_length}
use Rattle.std.specs.Vec.Iter.{into_iter_items}
use Rattle.store_finding.specs.declared.entries.StoredEntry.{StoredEntry}
use Rattle.epoch_file.specs.Forms.{HasIdsOf, HaveIdsOf}
use Rattle.epoch_file.specs.Lying.{LieIn, tree_end}
use Rattle.store_finding.specs.Damage.{named_length}
use Rattle.store_finding.specs.Joined.{JoinedEntries, JoinsByText, TakesEpoch}
use Rattle.store_finding.specs.StoredIds.{AreOfForm}
use Rattle.arch_model.proofs.ValidArchives.{all_weaker}
use Rattle.store_finding.proofs.FindingTold.{told_any, told_so, told_both, reads_none, reads_both}
use Rattle.store_finding.proofs.Extents.{AreJoinedTo, all_more, joined_more, joined_none}
use Rattle.store_finding.proofs.Comparing.{Come, come_first, come_more, come_stops, come_all}
use Rattle.store_finding.proofs.joining.Joining.take_epoch.Goals as goal

pub loop-entry-init : goal.loop-entry-init
loop-entry-init g c = record {
  before = all_weaker (λ (e : StoredEntry). e.epoch < c.args.epoch) (λ (e : StoredEntry). e.epoch < c.args.epoch + 1) c.args.self.entries (λ e less. omega (arith, less)) c.requires.before;
  named = λ lie are.
      (0, subst (LieIn 0 (named_length c.args.root.now c.args.epoch)) (sym (c.into_iter-entry-iterator.ensures.into_iter_gives.0 ∙ c.into_vec-entry-items.ensures)) lie, joined_none c.args.epoch (named_length c.args.root.now) c.args.self.entries c.requires.before are);
  ids = λ have are. (subst (HaveIdsOf c.args.root.now.config.form) (sym (c.into_iter-entry-iterator.ensures.into_iter_gives.0 ∙ c.into_vec-entry-items.ensures)) have, are);
  come = told_any (Come c.args.root.now c.args.self c.args.epoch c.args.seen c.args.self (into_iter_items c.into_iter-entry-iterator.result)) (g.D.Disk.content c.args.disk.now)
      (λ files. come_first c.args.root.now c.args.self c.args.epoch c.args.seen (into_iter_items c.into_iter-entry-iterator.result) files c.requires.before (c.into_iter-entry-iterator.ensures.into_iter_gives.0 ∙ c.into_vec-entry-items.ensures));
  reads = reads_none g.D.Disk c.args.disk.now (λ image. g.met.D.Disk.only_now c.args.disk.now image);
  kept = refl;
  left = search rules;
}

pub returns-in-Err-clause-taken : goal.returns-in-Err-clause-taken
returns-in-Err-clause-taken g c =
    let inv = c.loop-entry.invariant in
    let root = c.args.root.now in
    let epoch = c.args.epoch in
    let now = c.loop-entry.joining in
    let items = into_iter_items c.loop-entry.entry-iterator in
    told_both (Come root c.args.self epoch c.args.seen now items) (JoinsByText root now epoch c.in-Some.entry (Err c.in-Err.refusal)) (TakesEpoch root c.args.self epoch c.args.seen (Err c.in-Err.refusal))
    (g.D.Disk.content c.args.disk.now) (g.D.Disk.content c.loop-entry.disk) inv.reads.same inv.come c.in-Err.ensures.joined
    (λ files so_far joins. come_stops root c.args.self epoch c.args.seen now items c.in-Some.entry (into_iter_items c.next.new.self) c.in-Err.refusal files c.in-Some.ensures.steps.0 so_far joins)

pub loop-entry-preserved : goal.loop-entry-preserved
loop-entry-preserved g c =
    let inv = c.loop-entry.invariant in
    let root = c.args.root.now in
    let epoch = c.args.epoch in
    let now = c.loop-entry.joining in
    let next = c.in-Ok.next in
    let items = into_iter_items c.loop-entry.entry-iterator in
    let after = into_iter_items c.next.new.self in
    record {
      before = c.in-Ok.ensures.below (epoch + 1) inv.before (omega arith);
      named = λ lie are.
          let so = inv.named lie are in
          let most = named_length root epoch in
          let lie_so : LieIn so.0 most (c.in-Some.entry ∷ after) = subst (LieIn so.0 most) c.in-Some.ensures.steps.0 so.1 in
          let grown = c.in-Ok.ensures.grown in
          let entries = ap (λ (j : JoinedEntries). j.entries) grown.1 in
          (tree_end c.in-Some.entry, lie_so.1, subst (AreJoinedTo epoch (tree_end c.in-Some.entry) (named_length root)) (sym entries) (joined_more most epoch so.0 (named_length root) now.entries grown.0 c.in-Some.entry after refl lie_so so.2));
      ids = λ have are.
          let form = root.config.form in
          let so = inv.ids have are in
          let rest : HaveIdsOf form (c.in-Some.entry ∷ after) = subst (HaveIdsOf form) c.in-Some.ensures.steps.0 so.0 in
          let grown = c.in-Ok.ensures.grown in
          let entries = ap (λ (j : JoinedEntries). j.entries) grown.1 in
          (rest.1, subst (AreOfForm form) (sym entries) (all_more (λ (e : StoredEntry). HasIdsOf form e.seen) now.entries (record { number = grown.0; epoch = epoch; seen = c.in-Some.entry }) so.1 rest.0));
      come = told_both (Come root c.args.self epoch c.args.seen now items) (JoinsByText root now epoch c.in-Some.entry (Ok next)) (Come root c.args.self epoch c.args.seen next after)
          (g.D.Disk.content c.args.disk.now) (g.D.Disk.content c.loop-entry.disk) inv.reads.same inv.come c.in-Ok.ensures.joined
          (λ files so_far joins. come_more root c.args.self epoch c.args.seen now next items c.in-Some.entry after files c.requires.small c.in-Some.ensures.steps.0 so_far joins);
      reads = reads_both g.D.Disk c.args.disk.now c.loop-entry.disk c.join_next.new.disk inv.reads c.in-Ok.ensures.reads;
      kept = c.in-Ok.ensures.steady (λ no. absurd (cc no)) ∙ inv.kept;
      left = (let before = inv.left in let count = ap length c.in-Some.ensures.steps.0 in let fewer = c.in-Some.ensures.steps.1 in omega (arith, before, count, fewer));
    }

pub returns-clause-taken : goal.returns-clause-taken
returns-clause-taken g c =
    let inv = c.loop-entry.invariant in
    let root = c.args.root.now in
    let items = into_iter_items c.loop-entry.entry-iterator in
    told_so (Come root c.args.self c.args.epoch c.args.seen c.loop-entry.joining items) (TakesEpoch root c.args.self c.args.epoch c.args.seen (Ok c.loop-entry.joining)) (g.D.Disk.content c.args.disk.now) inv.come
    (λ files so_far. come_all root c.args.self c.args.epoch c.args.seen c.loop-entry.joining items files (nil_from_length items (sym inv.left ∙ c.in-None.ensures.steps.0)) so_far)

pub returns-clause-named : goal.returns-clause-named
returns-clause-named g c = λ lie are. (c.loop-entry.invariant.named lie are).2.are

pub returns-clause-ids : goal.returns-clause-ids
returns-clause-ids g c = λ have are. (c.loop-entry.invariant.ids have are).1
