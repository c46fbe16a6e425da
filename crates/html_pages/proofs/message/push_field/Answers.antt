use Rattle.std.proofs.Common.{◌≡◌, ◌++◌, ap, sym, ◌∙◌, append-nil, codes}
use Rattle.mail_reader.specs.Values.{flat_of}
use Rattle.mime_words.specs.Decoding.{decoded}
use Rattle.web_text.specs.Escapes.{escaped}
use Rattle.web_text.proofs.Pushing.{last_ok}
use Rattle.html_pages.proofs.FieldLines.{header_line-some, header_line-none, value_line}
use Rattle.html_pages.proofs.message.push_field.Goals as goal

pub returns-in-Some : goal.returns-in-Some
returns-in-Some c =
    let first = c.args.into.now in
    let name = c.args.name.now in
    let text = escaped (decoded (flat_of c.in-Some.value.now)) in
    last_ok c.push_value.result
    (λ (e : c.push_value.new.into ≡ first ++ name ++ codes ": " ++ text ++ codes "\n"). e ∙ value_line first name (codes ": ") text (codes "\n") ∙ ap (λ t. first ++ t) (header_line-some c.args.text.now name c.in-Some.value.now c.in-Some.ensures))
    c.push_value.ensures

pub returns-in-None : goal.returns-in-None
returns-in-None c =
    sym (append-nil c.args.into.now) ∙ ap (λ t. c.args.into.now ++ t) (header_line-none c.args.text.now c.args.name.now c.in-None.ensures)
