-- A cut of a file that is there, and of one that is missing.
use Rattle.disk_model.proofs.FileMaps.{cut_found, cut_missing}
use Rattle.disk_model.proofs.files.trim.Goals as goal

pub returns-in-Some : goal.returns-in-Some
returns-in-Some c =
    cut_found c.args.files.now (c.get_mut.follows.lender c.truncate.new.self) c.args.name c.in-Some.file.now c.truncate.new.self c.args.length c.in-Some.ensures.value (c.get_mut.follows.holds c.truncate.new.self) c.truncate.ensures.items

pub returns-in_default : goal.returns-in_default
returns-in_default c = cut_missing c.get_mut.follows.lender-at-none c.args.files.now c.args.name c.args.length c.get_mut.follows.holds-at-none c.in_default.ensures.value
