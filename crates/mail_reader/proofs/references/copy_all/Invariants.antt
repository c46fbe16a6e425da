use Rattle.std.proofs.Common.{◌≡◌, take}
use Rattle.mail_reader.specs.References.{shown_all}
use Rattle.mail_reader.proofs.references.copy_all.Given as goal

abbrev pub invariant-loop-slice : goal.invariant-loop-slice
invariant-loop-slice l = l.texts ≡ shown_all (take l.slice-index l.slices)
