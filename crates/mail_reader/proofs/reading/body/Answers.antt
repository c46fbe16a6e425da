use Rattle.std.proofs.Common.{◌≡◌, ◌<◌, length, get_or, sym, ap, ◌∙◌, rules, arith}
use Rattle.std.proofs.lemmas.List.{take_rest}
use Rattle.std.specs.List.{concat}
use Rattle.mail_reader.specs.Lines.{after_empty}
use Rattle.mail_reader.specs.Bodies.{body_of}
use Rattle.mail_reader.proofs.Bodied.{body-empty, body-other}
use Rattle.mail_reader.proofs.reading.body.Goals as goal

pub returns-in-10 : goal.returns-in-10
unfolding body_of
returns-in-10 c =
    let rest = c.after_header.result.now in
    let first : get_or rest 0 0 ≡ 10 = search rules in
    let some : 0 < length rest = omega arith in
    rw (take_rest rest 1) (sym (body-empty rest some first) ∙ ap (λ ls. concat (after_empty ls)) c.after_header.ensures)

pub returns-in_default : goal.returns-in_default
unfolding body_of
returns-in_default c =
    sym (body-other c.after_header.result.now (λ some first. absurd (omega arith))) ∙ ap (λ ls. concat (after_empty ls)) c.after_header.ensures

pub returns-in_default-2 : goal.returns-in_default-2
unfolding body_of
returns-in_default-2 c =
    sym (body-other c.after_header.result.now (λ some first. absurd (search (rules, first)))) ∙ ap (λ ls. concat (after_empty ls)) c.after_header.ensures
