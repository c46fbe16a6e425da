use Rattle.std.proofs.Common.{◌++◌, ap, ◌∙◌}
use Rattle.mail_rows.proofs.RowFacts.{id-some, id-none}
use Rattle.mail_rows.proofs.rows.id_of.Goals as goal

pub returns-in_ok-push_slice-in-Some : goal.returns-in_ok-push_slice-in-Some
returns-in_ok-push_slice-in-Some c =
    c.in_ok-push_slice-in-Some.ensures ∙ ap (λ t. t ++ c.in-Some.id.now) c.new-made.ensures ∙ id-some c.args.text.now c.in-Some.id.now c.in-Some.ensures

pub returns-in-None : goal.returns-in-None
returns-in-None c = c.new-made.ensures ∙ id-none c.args.text.now c.in-None.ensures
