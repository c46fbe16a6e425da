use Rattle.std.proofs.Common.{◌≡◌}
use Rattle.std.specs.List.{fold}
use Rattle.mail_reader.specs.Ids.{ids_of}
use Rattle.mail_reader.specs.References.{put_new}
use Rattle.mail_reader.proofs.references.push_ids.Given as goal

abbrev pub invariant-loop-id : goal.invariant-loop-id
invariant-loop-id l = fold put_new l.found l.id-iterator ≡ fold put_new l.fn.found (ids_of l.value)
