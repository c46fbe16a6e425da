use Rattle.std.proofs.Common.{◌+◌, ℕ, List, length, ap}
use Rattle.epoch_file.proofs.Bringing.{comes-some}
use Rattle.epoch_file.proofs.window.read_into.Goals as goal

pub returns-clause-came : goal.returns-clause-came
returns-clause-came g c =
    comes-some (g.D.Disk.content c.args.disk.now) c.args.part.now (c.args.part.now.offset + length c.as_slice.result.now) c.in_ok-count.count c.args.room.now c.read.new.into
    c.args.window.now c.split_at.result.0.now c.push.new.self c.in_ok-count.ensures.bytes c.split_at.ensures.front c.in_ok-push.ensures.ok
    (ap (λ (l : List ℕ). c.args.part.now.offset + length l) c.as_slice.ensures) c.requires.fits
