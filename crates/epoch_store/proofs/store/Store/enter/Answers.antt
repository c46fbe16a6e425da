-- What is kept, and what is on the disk.
use Rattle.std.proofs.Common.{refl, rules, ◌≡◌, ◌∙◌, ◌+◌, ◌-◌, ◌++◌, ◌∷◌, [], ℕ, List, length, sym, ap, subst, is_ok, ◌≤◌, arith}
use Rattle.disk_model.specs.Disk.{WhereTold}
use Rattle.epoch_file.specs.Appending.{appended}
use Rattle.epoch_file.specs.Lying.{EntryLiesIn}
use Rattle.epoch_file.specs.declared.entry.NewEntry.{NewEntry}
use Rattle.epoch_file.specs.declared.entry.Written.{Written}
use Rattle.root_slots.specs.declared.root.Root.{Root}
use Rattle.root_slots.specs.OneRoot.{BeginsRootIn}
use Rattle.root_slots.specs.Slots.{slot_number}
use Rattle.root_change.specs.Texts.{HasPartSizes}
use Rattle.store_finding.specs.declared.entries.StoredEntry.{StoredEntry}
use Rattle.store_finding.specs.Extents.{AreNamed, AreUpToEpoch}
use Rattle.epoch_store.specs.Commands.{RootGoesOn, place_of}
use Rattle.store_finding.specs.Kept.{InEpochs, StoreState}
use Rattle.epoch_store.proofs.Carrying.{part_sizes, sizes_of_parts}
use Rattle.epoch_store.proofs.Changing.{stopped, unless_short, unstarted}
use Rattle.epoch_store.proofs.Delivering.{enters_leaves, enters_store}
use Rattle.epoch_store.proofs.EntryExtents.{written_named}
use Rattle.epoch_store.proofs.Kept.{in_epochs_more, pushed, same_view}
use Rattle.epoch_store.proofs.TextDamage.{none_told}
use Rattle.epoch_store.proofs.store.Store.enter.Goals as goal

pub returns-then-place-ge-MOST-clause-changes : goal.returns-then-place-ge-MOST-clause-changes
returns-then-place-ge-MOST-clause-changes g c = unstarted {g = g.D.Disk} (g.met.D.Disk.only_now c.args.disk.now) (search rules) refl

pub returns-in_err-id-clause-changes : goal.returns-in_err-id-clause-changes
returns-in_err-id-clause-changes g c = unstarted {g = g.D.Disk} (g.met.D.Disk.only_now c.args.disk.now) (search rules) (search rules)

pub returns-in_default-clause-changes : goal.returns-in_default-clause-changes
returns-in_default-clause-changes g c = unstarted {g = g.D.Disk} (g.met.D.Disk.only_now c.args.disk.now) (search rules) refl

pub write_entry-requires-clause-sizes : goal.write_entry-requires-clause-sizes
write_entry-requires-clause-sizes g c = subst (λ (v : StoreState). WhereTold (HasPartSizes v.root) (g.D.Disk.content c.args.disk.now)) (sym c.self.view_is) (part_sizes c.args.self.now (g.D.Disk.content c.args.disk.now) c.requires.sizes)

pub returns-in_err-root-clause-changes : goal.returns-in_err-root-clause-changes
returns-in_err-root-clause-changes g c =
    let e : NewEntry = record { kind = c.args.kind; text = c.args.text; ids = c.args.ids.now; moment = c.args.moment; parent = c.next_place-place.result.parent; form = c.self.inside.root.config.form } in
    let why = c.in_err-root.field-0.0 in
    let said = c.in_err-root.ensures in
    stopped why (search rules)
    (λ a b cache store room enters.
    enters_leaves e (g.D.Disk.content c.args.disk.now) (same_view _ _ _ _ c.reserve.ensures.items ∙ c.self.view_is) c.other-free.ensures c.next_place-place.ensures.next refl refl a b cache store room enters g.D.Disk c.args.disk.now c.write_entry.new.disk c.write_entry.ensures.crash)
    (search rules) (unless_short why said.refused said.undamaged) said.undamaged (none_told _ why said.undamaged) (search rules) said.count (subst (λ (n : ℕ). BeginsRootIn g.D.Disk n c.args.disk.now c.write_entry.new.disk) (c.other-free.ensures ∙ ap (λ (u : StoreState). 1 - u.slot) c.self.view_is) c.write_entry.ensures.crash_root)

pub returns-clause-changes : goal.returns-clause-changes
returns-clause-changes g c =
    let e : NewEntry = record { kind = c.args.kind; text = c.args.text; ids = c.args.ids.now; moment = c.args.moment; parent = c.next_place-place.result.parent; form = c.self.inside.root.config.form } in
    let k0 = g.D.Disk.content c.args.disk.now in
    let k3 = g.D.Disk.content c.write_entry.new.disk in
    let root = c.in_ok-root.root in
    let same = same_view _ _ _ _ c.reserve.ensures.items ∙ c.self.view_is in
    let full = c.in-Ok.ensures.ok in
    let more = pushed (is_ok c.push.result) c.reserve.new.self.items c.push.new.self.items c.new_entry-stored.result c.push.ensures.items (c.push.ensures.succeeds (omega (arith, full))) in
    record {
      crash = λ a b cache store room enters.
          enters_leaves e k0 same c.other-free.ensures c.next_place-place.ensures.next refl refl a b cache store room enters g.D.Disk c.args.disk.now c.write_entry.new.disk c.write_entry.ensures.crash;
      done = λ a b cache store room enters.
          enters_store e k0 same c.other-free.ensures c.next_place-place.ensures.next refl refl a b cache store room enters root c.push.new.self.items c.new_entry-stored.result k3 c.in_ok-root.ensures.root more c.new_entry-stored.ensures.stored c.in_ok-root.ensures.done;
      settled = c.in_ok-root.ensures.settled;
      sizes = sizes_of_parts root (slot_number c.other-free.result) c.push.new.self.items k3 c.in_ok-root.ensures.sizes;
      goes_on = subst (λ (u : StoreState). RootGoesOn u.root root) c.self.view_is c.in_ok-root.ensures.goes_on;
      slot = search rules;
      same = tt;
      untouched = tt;
      undamaged = tt;
      damage = tt;
      cause = search rules;
      count = c.in_ok-root.ensures.count;
      rooted = c.in_ok-root.ensures.rooted;
      crash_root = subst (λ (n : ℕ). BeginsRootIn g.D.Disk n c.args.disk.now c.write_entry.new.disk) (c.other-free.ensures ∙ ap (λ (u : StoreState). 1 - u.slot) c.self.view_is) c.write_entry.ensures.crash_root;
    }

pub invariant_of-self-2 : goal.invariant_of-self-2
invariant_of-self-2 g c =
    let items = sym c.reserve.ensures.items in
    (c.self.invariant.0, subst InEpochs items c.self.invariant.1, subst (AreNamed c.self.inside.root) items c.self.invariant.2)

pub invariant_of-self-3 : goal.invariant_of-self-3
invariant_of-self-3 g c =
    let stored = c.new_entry-stored.result in
    let full = c.in-Ok.ensures.ok in
    let more : c.push.new.self.items ≡ c.self.inside.entries.items ++ stored ∷ [] =
    pushed (is_ok c.push.result) c.reserve.new.self.items c.push.new.self.items stored c.push.ensures.items (c.push.ensures.succeeds (omega (arith, full))) ∙ ap (λ (es : List StoredEntry). es ++ stored ∷ []) c.reserve.ensures.items in
    let epoch_is = c.new_entry-stored.ensures.epoch in
    let small = c.next_place-place.ensures.small in
    let low : stored.epoch ≤ 63 = omega (arith, epoch_is, small) in
    let p = c.next_place-place.result in
    let e : NewEntry = record { kind = c.args.kind; text = c.args.text; ids = c.args.ids.now; moment = c.args.moment; parent = p.parent; form = c.self.inside.root.config.form } in
    let w : StoreState = record { root = c.self.inside.root; slot = slot_number c.self.inside.slot; entries = c.self.inside.entries.items } in
    let place = subst (λ (u : StoreState). p ≡ place_of u.root p.epoch p.parent) (sym c.self.view_is) c.next_place-place.ensures.place in
    let last = subst (λ (u : StoreState). AreUpToEpoch p.epoch u.entries) (sym c.self.view_is) c.next_place-place.ensures.last in
    let epochs = ap (λ (r : Root). r.epochs) c.in_ok-root.ensures.root in
    let lies = subst (λ (n : ℕ). EntryLiesIn p.length n stored.seen) (ap (λ (x : Written). x.end) c.in_ok-root.ensures.written) c.new_entry-stored.ensures.lies in
    let named = written_named w.root c.in_ok-root.root p (p.length + length (appended p.length e)) w.entries stored c.root_fits.ensures.count small place epochs epoch_is last lies c.self.invariant.2 in
    (c.in_ok-root.ensures.valid, subst InEpochs (sym more) (in_epochs_more c.self.inside.entries.items stored c.self.invariant.1 low), subst (AreNamed c.in_ok-root.root) (sym more) named)
