-- Removing a key removes its file.
use Rattle.std.proofs.Common.{None, refl}
use Rattle.disk_model.proofs.FileMaps.{sets_file}
use Rattle.disk_model.proofs.files.drop_file.Goals as goal

pub returns : goal.returns
returns c = sets_file c.args.files.now c.remove.new.self c.args.name None None c.remove.ensures.updates refl
