use Rattle.std.proofs.Common.{◌≡◌, Some, None, refl, sym, ap, ◌∙◌}
use Rattle.mail_reader.specs.Fields.{fields_of, first_named}
use Rattle.mail_reader.specs.Reading.{shown}
use Rattle.mail_reader.proofs.reading.first_value.Goals as goal

pub returns-then-is_same_name : goal.returns-then-is_same_name
returns-then-is_same_name c =
    let found : first_named c.args.name.now (fields_of c.args.text.now) ≡ Some (shown c.in-Some.field) =
    sym c.loop-field.invariant ∙ ap (first_named c.args.name.now) c.in-Some.ensures.steps ∙ rw (sym c.is_same_name.ensures, c.if-is_same_name.true) refl in
    rw found refl

pub returns : goal.returns
returns c =
    let none : first_named c.args.name.now (fields_of c.args.text.now) ≡ None =
    sym c.loop-field.invariant ∙ ap (first_named c.args.name.now) c.in-None.ensures.steps.0 in
    rw none refl
