use Rattle.std.proofs.Common.{sym, ◌∙◌, rules}
use Rattle.mail_date.proofs.ReadLemmas.{spelled_by_date, refused_by_date, refused_without_date, written_given, written_without_date}
use Rattle.mail_date.proofs.MomentLemmas.{answer_in}
use Rattle.mail_date.proofs.reading.read.Goals as goal

pub returns-clause-value : goal.returns-clause-value
returns-clause-value c =
    let e = sym c.in_ok-date.was ∙ c.date_of.ensures.value in
    answer_in c.moment_of.result c.args.value.now
    (spelled_by_date c.moment_of.result c.args.value.now c.in_ok-date.date e c.moment_of.ensures.spelled)
    (refused_by_date c.moment_of.result c.args.value.now c.in_ok-date.date e c.moment_of.ensures.refused)

pub returns-in_err-date-clause-value : goal.returns-in_err-date-clause-value
returns-in_err-date-clause-value c =
    answer_in c.from_residual.result c.args.value.now (search rules) (refused_without_date c.from_residual.result c.args.value.now (sym c.in_err-date.was ∙ c.date_of.ensures.value))

pub returns-clause-spelled : goal.returns-clause-spelled
returns-clause-spelled c = spelled_by_date c.moment_of.result c.args.value.now c.in_ok-date.date (sym c.in_ok-date.was ∙ c.date_of.ensures.value) c.moment_of.ensures.spelled

pub returns-clause-refused : goal.returns-clause-refused
returns-clause-refused c = refused_by_date c.moment_of.result c.args.value.now c.in_ok-date.date (sym c.in_ok-date.was ∙ c.date_of.ensures.value) c.moment_of.ensures.refused

pub returns-clause-again : goal.returns-clause-again
returns-clause-again c =
    let e = sym c.in_ok-date.was ∙ c.date_of.ensures.value in
    written_given c.moment_of.result c.args.value.now
    (spelled_by_date c.moment_of.result c.args.value.now c.in_ok-date.date e c.moment_of.ensures.spelled)
    (refused_by_date c.moment_of.result c.args.value.now c.in_ok-date.date e c.moment_of.ensures.refused)

pub returns-in_err-date-clause-refused : goal.returns-in_err-date-clause-refused
returns-in_err-date-clause-refused c = refused_without_date c.from_residual.result c.args.value.now (sym c.in_err-date.was ∙ c.date_of.ensures.value)

pub returns-in_err-date-clause-again : goal.returns-in_err-date-clause-again
returns-in_err-date-clause-again c = written_without_date c.from_residual.result c.args.value.now (sym c.in_err-date.was ∙ c.date_of.ensures.value)
