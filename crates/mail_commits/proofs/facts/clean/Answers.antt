use Rattle.std.proofs.Common.{ap, ◌∙◌}
use Rattle.git_objects.specs.CleanText.{trimmed}
use Rattle.mail_commits.proofs.Texts.{copied-clean}
use Rattle.mail_commits.proofs.facts.clean.Goals as goal

pub returns-clause-clean : goal.returns-clause-clean
returns-clause-clean c =
    copied-clean c.copied.result c.trimmed.result.now c.args.text.now (c.trimmed.ensures ∙ ap trimmed (c.as_slice.ensures.value ∙ c.in_ok-kept.ensures)) c.copied.ensures
