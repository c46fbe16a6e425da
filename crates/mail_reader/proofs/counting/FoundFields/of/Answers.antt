use Rattle.std.proofs.Common.{[], ◌∷◌, sym, ◌∙◌}
use Rattle.mail_reader.specs.Fields.{fields_of}
use Rattle.mail_reader.specs.Reading.{shown}
use Rattle.mail_reader.proofs.Countings.{are-found-at}
use Rattle.mail_reader.proofs.counting.FoundFields.of.Goals as goal

pub loop-field-init : goal.loop-field-init
loop-field-init c =
    let all = fields_of c.args.text.now in
    are-found-at c.nothing-found.result all all c.into_iter-field-iterator.result (sym (c.into_iter-field-iterator.ensures.into_iter_gives ∙ c.of-field-items.ensures.value)) (c.nothing-found.ensures all)

pub loop-field-preserved : goal.loop-field-preserved
loop-field-preserved c =
    let all = fields_of c.args.text.now in
    c.after-found.ensures all c.next.new.self (are-found-at c.loop-field.found all c.loop-field.field-iterator (shown c.in-Some.field ∷ c.next.new.self) c.in-Some.ensures.steps c.loop-field.invariant)

pub returns : goal.returns
returns c = are-found-at c.loop-field.found (fields_of c.args.text.now) c.loop-field.field-iterator [] c.in-None.ensures.steps.0 c.loop-field.invariant
