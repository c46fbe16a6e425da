-- A conversion is planned, and carried out if no messages collide.
use Rattle.std.proofs.Common.{◌≡◌, ◌∙◌, ℕ, List, length, Err, None, refl, sym, ap, subst}
use Rattle.arch_model.specs.Archives.{Archive}
use Rattle.root_slots.specs.Slots.{slot_number}
use Rattle.store_finding.specs.declared.entries.StoredEntry.{StoredEntry}
use Rattle.store_finding.specs.Kept.{IsStoreWith}
use Rattle.convert_planning.specs.Collisions.{collision_of}
use Rattle.epoch_store.specs.Converting.{CollidesAs}
use Rattle.epoch_store.specs.declared.convert_refusal.ConvertRefusal.{ConvertRefusal}
use Rattle.epoch_store.specs.declared.convert_refusal.ConvertRefusal.TheVariants as refusal
use Rattle.epoch_store.proofs.CarriedOut.{store_same}
use Rattle.epoch_store.proofs.ConvertCarried.{collides_none, collides_refused, converts_unmade, planned_conversion, unplanned_conversion}
use Rattle.epoch_store.proofs.ConvertPlanned.{damage_for, found_for, may_for, same_count, sound_for, view_of}
use Rattle.epoch_store.proofs.store.Store.convert_to.Goals as goal

pub returns-in-Err-clause-collision : goal.returns-in-Err-clause-collision
returns-in-Err-clause-collision g c = λ a cache own.
    let root = c.self.inside.root in
    let slot = slot_number c.self.inside.slot in
    let es = c.as_slice-entries.result.now in
    let v = c.args.self.now in
    let k = g.D.Disk.content c.args.disk.now in
    let is = view_of root slot es c.self.inside.entries.items v c.as_slice-entries.ensures.value c.self.view_is in
    let sound = sound_for root slot es v is k (Unit {0}) c.in-Err.refusal c.in-Err.ensures.undamaged in
    subst (λ (e : ConvertRefusal). CollidesAs {T = Unit {0}} c.args.form a (Err e)) (sym c.into.ensures) (collides_refused (Unit {0}) c.args.form a c.in-Err.refusal (sound a cache own))

pub returns-in-Err-clause-changes : goal.returns-in-Err-clause-changes
returns-in-Err-clause-changes g c =
    let root = c.self.inside.root in
    let slot = slot_number c.self.inside.slot in
    let es = c.as_slice-entries.result.now in
    let v = c.args.self.now in
    let k = g.D.Disk.content c.args.disk.now in
    let is = view_of root slot es c.self.inside.entries.items v c.as_slice-entries.ensures.value c.self.view_is in
    unplanned_conversion c.in-Err.refusal (ap (λ (e : ConvertRefusal). Err e) c.into.ensures) refl c.plan_conversion.ensures.reads (sound_for root slot es v is k (Unit {0}) c.in-Err.refusal c.in-Err.ensures.undamaged) (damage_for root slot es v is k c.in-Err.refusal c.in-Err.ensures.damage) c.in-Err.ensures.cause c.plan_conversion.ensures.fewest

pub collision-requires : goal.collision-requires
collision-requires g c = same_count c.args.form c.as_slice-entries.result.now c.in-Ok.planned.entries c.in-Ok.ensures.planned.kept ∙ ap (λ (es : List StoredEntry). length es) (sym c.entries.ensures)

pub returns-in-Ok-None-clause-collision : goal.returns-in-Ok-None-clause-collision
returns-in-Ok-None-clause-collision g c = λ a cache own.
    let root = c.self.inside.root in
    let slot = slot_number c.self.inside.slot in
    let es = c.as_slice-entries.result.now in
    let v = c.args.self.now in
    let k = g.D.Disk.content c.args.disk.now in
    let is = view_of root slot es c.self.inside.entries.items v c.as_slice-entries.ensures.value c.self.view_is in
    let none = found_for root slot es v is k c.args.form c.in-Ok.planned c.in-Ok.ensures.own c.entries.result.now c.in-Ok-None.field-0 c.entries.ensures c.in-Ok-None.ensures a cache own ∙ c.in-Ok-None.field-0-is in
    collides_none c.args.form a c.carry_conversion.result none c.carry_conversion.ensures.never (c.carry_conversion.ensures.changes.undamaged a cache (store_same v cache a k (g.D.Disk.content c.plan_conversion.new.disk) c.plan_conversion.ensures.reads.same own))

pub returns-in-Ok-None-clause-changes : goal.returns-in-Ok-None-clause-changes
returns-in-Ok-None-clause-changes g c =
    let root = c.self.inside.root in
    let slot = slot_number c.self.inside.slot in
    let es = c.as_slice-entries.result.now in
    let v = c.args.self.now in
    let k = g.D.Disk.content c.args.disk.now in
    let p = c.in-Ok.planned in
    let form = c.args.form in
    let is = view_of root slot es c.self.inside.entries.items v c.as_slice-entries.ensures.value c.self.view_is in
    let none : (a : Archive) (cache : List ℕ) → IsStoreWith v cache a k → collision_of form a ≡ None =
    λ a cache own. found_for root slot es v is k form p c.in-Ok.ensures.own c.entries.result.now c.in-Ok-None.field-0 c.entries.ensures c.in-Ok-None.ensures a cache own ∙ c.in-Ok-None.field-0-is in
    planned_conversion p c.plan_conversion.ensures.reads (may_for root slot es v is k form p c.in-Ok.ensures.own c.law_of_collisions.ensures none) (c.in-Ok.ensures.cause.kept (λ no. absurd (cc no))) c.plan_conversion.ensures.fewest c.carry_conversion.ensures.changes

pub returns-in-Ok-Some-clause-collision : goal.returns-in-Ok-Some-clause-collision
returns-in-Ok-Some-clause-collision g c = λ a cache own.
    let root = c.self.inside.root in
    let slot = slot_number c.self.inside.slot in
    let es = c.as_slice-entries.result.now in
    let v = c.args.self.now in
    let k = g.D.Disk.content c.args.disk.now in
    let is = view_of root slot es c.self.inside.entries.items v c.as_slice-entries.ensures.value c.self.view_is in
    found_for root slot es v is k c.args.form c.in-Ok.planned c.in-Ok.ensures.own c.entries.result.now c.in-Ok-Some.field-0 c.entries.ensures c.in-Ok-Some.ensures a cache own ∙ c.in-Ok-Some.field-0-is

pub returns-in-Ok-Some-clause-changes : goal.returns-in-Ok-Some-clause-changes
returns-in-Ok-Some-clause-changes g c = converts_unmade c.plan_conversion.ensures.reads (refusal.Collision c.in-Ok-Some.number) refl refl (λ same. absurd (cc same)) tt (c.in-Ok.ensures.cause.kept (λ no. absurd (cc no))) c.plan_conversion.ensures.fewest

pub returns-in-Err-collision-clause-changes : goal.returns-in-Err-collision-clause-changes
returns-in-Err-collision-clause-changes g c = converts_unmade c.plan_conversion.ensures.reads refusal.NoMemory (ap (λ (e : ConvertRefusal). Err e) c.into-in-Err-collision.ensures) refl (λ same. absurd (cc same)) tt (c.in-Ok.ensures.cause.kept (λ no. absurd (cc no))) c.plan_conversion.ensures.fewest
