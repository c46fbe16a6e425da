use Rattle.mirror_wire.proofs.Telling.{bad-once, texts-tell, read-back, change-shows}
use Rattle.mirror_wire.proofs.Archives.{list-valid}
use Rattle.mirror_wire.proofs.laws.law_of_lists.Goals as goal

pub returns : goal.returns
returns c = record { bad = bad-once; told = texts-tell; valid = list-valid; back = read-back; changed = change-shows }
