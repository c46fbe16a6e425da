use Rattle.std.proofs.Common.{codes, sym, ◌∙◌}
use Rattle.std.specs.List.{flat_map}
use Rattle.mail_reader.specs.Fields.{fields_of}
use Rattle.mail_reader.specs.Reading.{shown}
use Rattle.mail_commits.specs.Facts.{after_comma, values_of}
use Rattle.mail_commits.proofs.Texts.{values-taken, values-end}
use Rattle.mail_commits.proofs.facts.from_values.Goals as goal

pub loop-field-preserved-in-Continue-1 : goal.loop-field-preserved-in-Continue-1
loop-field-preserved-in-Continue-1 c =
    values-taken (codes "From") c.loop-field.values c.push_value.new.into (flat_map after_comma (values_of (codes "From") (fields_of c.args.text.now)))
    c.loop-field.field-iterator c.next.new.self (shown c.in-Some.field) c.in-Some.ensures.steps (sym c.is_same_name.ensures ∙ c.if-is_same_name.true) c.in_ok-push_value.ensures c.loop-field.invariant

pub returns : goal.returns
returns c =
    values-end (codes "From") c.loop-field.values (flat_map after_comma (values_of (codes "From") (fields_of c.args.text.now))) c.loop-field.field-iterator c.in-None.ensures.steps.0
    c.loop-field.invariant
