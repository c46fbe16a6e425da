use Rattle.epoch_file.proofs.Finding.{reads-parted, reads-unparted}
use Rattle.epoch_file.proofs.reading.read_entry.Goals as goal

pub returns-in-Some : goal.returns-in-Some
returns-in-Some c = reads-parted c.args.form c.args.offset c.args.parent c.args.bytes.now c.in-Some.parts c.read_in_parts.result c.in-Some.ensures.form c.in-Some.ensures.again c.read_in_parts.ensures

pub returns-in-None : goal.returns-in-None
returns-in-None c = reads-unparted c.args.form c.args.offset c.args.parent c.args.bytes.now c.in-None.ensures.again
