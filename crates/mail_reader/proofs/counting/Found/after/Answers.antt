use Rattle.std.proofs.Common.{refl, sym, ◌∙◌}
use Rattle.mail_reader.specs.Reading.{shown}
use Rattle.mail_reader.proofs.Countings.{found-passed, found-first}
use Rattle.mail_reader.proofs.counting.Found.after.Goals as goal

pub returns-then-not-is_same_name : goal.returns-then-not-is_same_name
returns-then-not-is_same_name c = λ fields rest h.
    found-passed c.args.name.now c.args.self (shown c.args.field.now) fields rest (sym c.is_same_name.ensures ∙ c.if-not-is_same_name.true) h

pub returns-in-Nothing : goal.returns-in-Nothing
returns-in-Nothing c = λ fields rest h.
    found-first c.args.name.now c.args.self c.args.field.now.value (shown c.args.field.now) fields rest c.in-Nothing.is refl (sym c.is_same_name.ensures ∙ c.if-not-is_same_name.false) h
