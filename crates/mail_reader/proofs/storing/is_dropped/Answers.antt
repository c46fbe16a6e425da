use Rattle.std.proofs.Common.{◌∷◌, [], arith}
use Rattle.std.proofs.lemmas.Grind.{common_steps}
use Rattle.mail_reader.specs.Fields.{is_named}
use Rattle.mail_reader.specs.Stored.{is_dropped}
use Rattle.mail_reader.proofs.FieldNames.{is_dropped-within}
use Rattle.mail_reader.proofs.storing.is_dropped.Goals as goal

pub returns-then-is_same_name-3 : goal.returns-then-is_same_name-3
unfolding is_dropped is_named
returns-then-is_same_name-3 c = rw (is_dropped-within c.args.content.now (10 ∷ []) c.requires) (grind (arith, common_steps))

pub returns-else-is_same_name-3 : goal.returns-else-is_same_name-3
unfolding is_dropped is_named
returns-else-is_same_name-3 c = rw (is_dropped-within c.args.content.now (10 ∷ []) c.requires) (grind (arith, common_steps))
