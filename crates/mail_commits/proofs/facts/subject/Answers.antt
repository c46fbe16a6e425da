use Rattle.std.proofs.Common.{◌≡◌, ◌∙◌, ap}
use Rattle.git_objects.specs.CleanText.{clean}
use Rattle.mail_reader.specs.Values.{flat_of}
use Rattle.mime_words.specs.Decoding.{decoded}
use Rattle.mail_commits.specs.Facts.{subject_fact}
use Rattle.mail_commits.proofs.Texts.{subject_fact-some, subject_fact-none}
use Rattle.mail_commits.proofs.facts.subject.Goals as goal

pub returns-in-Some-clause-value : goal.returns-in-Some-clause-value
returns-in-Some-clause-value c =
    let same : decoded (flat_of c.in-Some.value.now) ≡ subject_fact c.args.text.now = subject_fact-some c.args.text.now c.in-Some.value.now c.in-Some.ensures in
    rw same at c.clean_flat.ensures.value

pub returns-in-None-clause-value : goal.returns-in-None-clause-value
returns-in-None-clause-value c = c.new.ensures ∙ ap clean (subject_fact-none c.args.text.now c.in-None.ensures)
