use Rattle.std.proofs.Common.{◌≡◌, ◌∙◌}
use Rattle.std.proofs.lemmas.Result.{IfOk-weaker}
use Rattle.mail_commits.specs.Facts.{subject_fact}
use Rattle.mail_reader.specs.Values.{flat_of}
use Rattle.mime_words.specs.Decoding.{decoded}
use Rattle.mail_rows.proofs.RowFacts.{subject-some, subject-none}
use Rattle.mail_rows.proofs.rows.subject.Goals as goal

pub returns-in-Some : goal.returns-in-Some
returns-in-Some c =
    let text = c.args.text.now in
    let value = c.in-Some.value.now in
    IfOk-weaker c.decoded_flat.result (λ made. made ≡ decoded (flat_of value)) (λ made. made ≡ subject_fact text) (λ made e. e ∙ subject-some text value c.in-Some.ensures) c.decoded_flat.ensures

pub returns-in-None : goal.returns-in-None
returns-in-None c = c.new.ensures ∙ subject-none c.args.text.now c.in-None.ensures
