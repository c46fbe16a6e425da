use Rattle.std.proofs.Common.{◌≡◌, ◌∙◌, ◌++◌, List, ℕ, ap}
use Rattle.mail_forms.specs.NamedValues.{flat_first}
use Rattle.nntp_reader.proofs.field.read_value.Goals as goal

pub returns-in-Ok-flat_first-clause-value : goal.returns-in-Ok-flat_first-clause-value
returns-in-Ok-flat_first-clause-value g c = λ a held.
    let text = c.in-Ok.ensures.text a held in
    let read : c.as_slice.result.now ≡ text.0 = c.as_slice.ensures ∙ text.2 ∙ ap (λ (t : List ℕ). t ++ text.0) c.new-text.ensures in
    (text.0, text.1, c.in-Ok-flat_first.ensures ∙ ap (flat_first c.args.name.now) read)
