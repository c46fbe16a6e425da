-- The plans may be carried out, and on the store's own disk they are those of the archive without the
-- text.
use Rattle.std.proofs.Common.{◌∙◌, ◌-◌}
use Rattle.root_slots.specs.Slots.{slot_number}
use Rattle.store_planning.specs.Planning.{PlansLost}
use Rattle.store_planning.proofs.Apart.{plans_map, taken_apart}
use Rattle.epoch_store.proofs.LosingAll.{finished_some}
use Rattle.epoch_store.proofs.Purged.{ready_of}
use Rattle.epoch_store.proofs.store.Store.plan_without.Goals as goal

pub returns-clause-planned : goal.returns-clause-planned
returns-clause-planned g c =
    let so = ready_of c.args.self.now c.self.inside.root (slot_number c.self.inside.slot) c.self.inside.entries.items c.map_file.result c.plan_entries.new.planned c.finish.new.self c.self.view_is c.self.invariant.0 c.map_file.ensures c.in-Ok.ensures.plans c.in-Ok.ensures.taken c.in_ok-finish.ensures.finished c.in_ok-finish.ensures.ready in
    let lost : PlansLost c.args.self.now.entries c.args.blob.now c.finish.new.self.plans = λ e. finished_some c.plan_entries.new.planned c.map_file.result (c.self.inside.root.next - 1) c.finish.new.self c.in_ok-finish.ensures.finished e ∙ c.in-Ok.ensures.changes e in
    so.purge c.args.blob.now c.in-Ok.ensures.kept lost

pub returns-clause-own : goal.returns-clause-own
returns-clause-own g c =
    let so = ready_of c.args.self.now c.self.inside.root (slot_number c.self.inside.slot) c.self.inside.entries.items c.map_file.result c.plan_entries.new.planned c.finish.new.self c.self.view_is c.self.invariant.0 c.map_file.ensures c.in-Ok.ensures.plans c.in-Ok.ensures.taken c.in_ok-finish.ensures.finished c.in_ok-finish.ensures.ready in
    so.own c.args.blob.now (g.D.Disk.content c.args.disk.now) c.in-Ok.ensures.all

pub finish-requires-clause-apart : goal.finish-requires-clause-apart
finish-requires-clause-apart g c = (let so = c.in-Ok.ensures.taken in taken_apart c.args.self.now.root so.epoch so.from c.plan_entries.new.planned so.taken)

pub finish-requires-clause-map : goal.finish-requires-clause-map
finish-requires-clause-map g c = plans_map c.args.self.now.root c.plan_entries.new.planned c.in-Ok.ensures.plans
