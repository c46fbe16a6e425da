-- The body of the newest slot, which is a root's spelling or none.
use Rattle.std.proofs.Common.{◌∙◌, sym, subst, ap, Some, List, ℕ}
use Rattle.root_slots.specs.Slots.{slot_number, slot_is, body_at, Current}
use Rattle.root_slots.proofs.Bodies.{body_slice, same_slot}
use Rattle.root_slots.specs.Spelling.{spelling}
use Rattle.root_slots.proofs.Reading.{some_is, none_isnt}
use Rattle.root_slots.proofs.find.find.Goals as goal

pub returns-in-Some-parse-clause-exact : goal.returns-in-Some-parse-clause-exact
returns-in-Some-parse-clause-exact c =
    let file = c.args.file.now in
    let slot = slot_number c.in-Some.slot in
    let part = body_slice file slot c.body-start.result c.body-start.ensures.offset in
    let spelled = c.in-Some-parse.ensures.some in
    (subst (λ (b : List ℕ). Current slot b file) (sym part ∙ spelled.0) c.in-Some.ensures.some, spelled.1)

pub returns-in-None-clause-exact : goal.returns-in-None-clause-exact
returns-in-None-clause-exact c =
    let file = c.args.file.now in
    let slot = slot_number c.in-Some.slot in
    let part = body_slice file slot c.body-start.result c.body-start.ensures.offset in
    record { slot = slot; current = c.in-Some.ensures.some; offset = c.body-start.ensures.offset; none = λ r fits valid is. c.in-None.ensures.none r fits valid (part ∙ is) }

pub returns-in-Some-parse-clause-inverse : goal.returns-in-Some-parse-clause-inverse
returns-in-Some-parse-clause-inverse c = λ slot r fits valid current.
    let file = c.args.file.now in
    let here = slot_number c.in-Some.slot in
    let part = body_slice file here c.body-start.result c.body-start.ensures.offset in
    let same = same_slot here (slot_number slot) (body_at file here) (spelling r) file c.in-Some.ensures.some current in
    let found = some_is c.parse.result c.in-Some-parse.root r c.in-Some-parse.is (c.parse.ensures.same r fits valid (part ∙ (ap (body_at file) same ∙ current.holds))) in
    let one = slot_is c.in-Some.slot slot same in
    λ i. Some (one i, found i)

pub returns-in-None-clause-inverse : goal.returns-in-None-clause-inverse
returns-in-None-clause-inverse c = λ slot r fits valid current.
    let file = c.args.file.now in
    let here = slot_number c.in-Some.slot in
    let part = body_slice file here c.body-start.result c.body-start.ensures.offset in
    let same = same_slot here (slot_number slot) (body_at file here) (spelling r) file c.in-Some.ensures.some current in
    none_isnt c.parse.result r c.in-None.is (c.parse.ensures.same r fits valid (part ∙ (ap (body_at file) same ∙ current.holds)))
