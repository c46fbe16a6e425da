use Rattle.std.proofs.Common.{◌≡◌, ◌∙◌}
use Rattle.mail_reader.specs.Values.{flat_of}
use Rattle.mail_forms.specs.NamedValues.{flat_first}
use Rattle.mail_forms.proofs.FirstValues.{flat_first-some, flat_first-none}
use Rattle.mail_forms.proofs.named_values.flat_first.Goals as goal

pub returns-in-Some : goal.returns-in-Some
returns-in-Some c =
    let same : flat_of c.in-Some.value.now ≡ flat_first c.args.name.now c.args.text.now = flat_first-some c.args.name.now c.args.text.now c.in-Some.value.now c.in-Some.ensures in
    rw same at c.flat.ensures

pub returns-in-None : goal.returns-in-None
returns-in-None c = c.new.ensures ∙ flat_first-none c.args.name.now c.args.text.now c.in-None.ensures
