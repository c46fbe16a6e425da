use Rattle.std.proofs.Common.{◌≡◌, ◌++◌, ◌∷◌, [], ap, ◌∙◌, rules}
use Rattle.std.specs.List.{concat}
use Rattle.std.proofs.lemmas.List.{nil_from_length}
use Rattle.mail_reader.specs.Stored.{clean_lines}
use Rattle.mail_reader.proofs.LineEnds.{clean_lines-none}
use Rattle.mail_reader.proofs.PieceEnds.{Ahead-more, Ahead-not, Ahead-all, ends_there, never}
use Rattle.mail_reader.proofs.checking.is_lines_of.Goals as goal

pub returns-in-None : goal.returns-in-None
returns-in-None c =
    let line = c.first_line-line.result.content.now ++ 10 ∷ [] in
    let later = concat (clean_lines c.first_line-line.result.rest.now) in
    let split = ap concat c.first_line-line.ensures.lines in
    never c.args.text.now _ (Ahead-not c.args.text.now (concat (clean_lines c.args.bytes.now)) c.loop-rest.left.now line _ later c.loop-rest.invariant split c.in-None.ensures)

pub loop-rest-preserved : goal.loop-rest-preserved
loop-rest-preserved c =
    let line = c.first_line-line.result.content.now ++ 10 ∷ [] in
    let later = concat (clean_lines c.first_line-line.result.rest.now) in
    let split = ap concat c.first_line-line.ensures.lines in
    Ahead-more c.args.text.now (concat (clean_lines c.args.bytes.now)) c.loop-rest.left.now line c.in-Some.after.now _ later c.loop-rest.invariant split c.in-Some.ensures

pub returns : goal.returns
returns c =
    let nil : c.loop-rest.rest.now ≡ [] = nil_from_length c.loop-rest.rest.now (search rules) in
    let none = ap (λ bytes. concat (clean_lines bytes)) nil ∙ ap concat clean_lines-none in
    ends_there c.args.text.now _ c.loop-rest.left.now _ (Ahead-all c.args.text.now (concat (clean_lines c.args.bytes.now)) c.loop-rest.left.now _ c.loop-rest.invariant none) c.is_empty-2.ensures
