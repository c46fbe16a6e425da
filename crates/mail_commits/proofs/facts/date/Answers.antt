use Rattle.std.proofs.Common.{◌∙◌}
use Rattle.mail_commits.proofs.Texts.{date_fact-some, date_fact-none, zone_of_read}
use Rattle.mail_commits.proofs.facts.date.Goals as goal

pub returns-clause-value : goal.returns-clause-value
returns-clause-value c = c.read.ensures.value ∙ date_fact-some c.args.text.now c.in_ok-value.value.now c.in_ok-value.ensures

pub returns-clause-zone : goal.returns-clause-zone
returns-clause-zone c = zone_of_read c.read.result c.read.ensures.valid

pub returns-in_err-value-clause-value : goal.returns-in_err-value-clause-value
returns-in_err-value-clause-value c = c.from_residual.ensures ∙ date_fact-none c.args.text.now c.in_err-value.ensures
