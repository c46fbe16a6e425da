use Rattle.epoch_file.proofs.Finding.{reads-moment, reads-no_moment}
use Rattle.epoch_file.proofs.reading.read_in_parts.Goals as goal

pub returns-in-Some : goal.returns-in-Some
returns-in-Some c =
    reads-moment c.args.parts.now.form c.args.offset c.args.parent c.args.bytes.now c.args.parts.now c.in-Some.moment c.read_at_moment.result c.in-Some.ensures.again c.read_at_moment.ensures

pub returns-in-None : goal.returns-in-None
returns-in-None c = reads-no_moment c.args.parts.now.form c.args.offset c.args.parent c.args.bytes.now c.args.parts.now c.in-None.ensures.again
