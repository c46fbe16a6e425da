use Rattle.std.proofs.Common.{length}
use Rattle.epoch_file.proofs.Bringing.{begins-either, begins-inside}
use Rattle.epoch_file.proofs.walking.begin_in.Goals as goal

pub returns-clause-begins : goal.returns-clause-begins
returns-clause-begins g c =
    begins-either c.args.form (g.D.Disk.content c.args.disk.now) c.args.part.now (length c.args.piece.now) c.new-window.result c.read_on.new.window c.in_ok-read_on.field-0 c.begin_with.result
    c.new-window.ensures c.requires.front c.requires.some c.requires.room c.in_ok-read_on.ensures.came c.begin_with.ensures

pub returns-clause-inside : goal.returns-clause-inside
returns-clause-inside g c = begins-inside c.args.form c.args.part.now c.read_on.new.window c.begin_with.result c.requires.front c.in_ok-read_on.ensures.inside c.begin_with.ensures
