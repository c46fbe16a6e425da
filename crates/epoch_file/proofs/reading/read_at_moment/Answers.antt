use Rattle.epoch_file.proofs.Finding.{reads-unstored}
use Rattle.epoch_file.proofs.reading.read_at_moment.Goals as goal

pub read_with_id-requires-clause-stored : goal.read_with_id-requires-clause-stored
read_with_id-requires-clause-stored c = c.in-Some.ensures.0

pub read_with_id-requires-clause-id : goal.read_with_id-requires-clause-id
read_with_id-requires-clause-id c = c.in-Some.ensures.1

pub returns-in-None : goal.returns-in-None
returns-in-None c = reads-unstored c.args.parts.now.form c.args.offset c.args.parent c.args.bytes.now c.args.parts.now c.args.moment c.in-None.ensures
