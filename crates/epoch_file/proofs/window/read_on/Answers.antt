use Rattle.std.proofs.Common.{length, take, length-take, ap, arith}
use Rattle.epoch_file.proofs.Bringing.{comes-wider}
use Rattle.epoch_file.proofs.window.read_on.Goals as goal

pub returns-clause-came : goal.returns-clause-came
returns-clause-came g c =
    comes-wider (g.D.Disk.content c.args.disk.now) c.args.part.now (length (take c.min-wanted.result c.args.piece.now)) (length c.args.piece.now) c.args.window.now c.read_into.new.window c.read_into.result
    (omega (arith, c.min-wanted.ensures, length-take c.min-wanted.result c.args.piece.now, ap length c.as_slice.ensures)) c.read_into.ensures.came
