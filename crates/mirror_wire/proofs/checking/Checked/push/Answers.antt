use Rattle.mirror_wire.proofs.Taking.{line-taken}
use Rattle.mirror_wire.proofs.checking.Checked.push.Goals as goal

pub returns : goal.returns
returns c =
    line-taken c.push.result c.args.self.now c.take_number.new.self c.args.line c.insert.new.self c.push.new.self c.requires.checked c.requires.follows c.in_ok-take_number.ensures c.in_ok-insert.ensures.updates c.push.ensures
