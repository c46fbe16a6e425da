-- The first bytes of the slot's part of the file.
use Rattle.root_slots.specs.Slots.{slot_number}
use Rattle.root_slots.proofs.Bodies.{sequence_slice}
use Rattle.root_slots.proofs.find.sequence.Goals as goal

pub returns : goal.returns
returns c = sequence_slice c.args.file.now (slot_number c.args.slot) c.body-start.result c.number64.result.0 c.body-start.ensures.offset c.number64.ensures.value
