use Rattle.std.proofs.Common.{◌∙◌, take, drop, ap, sym}
use Rattle.std.specs.List.{concat}
use Rattle.std.proofs.lemmas.List.{take_at}
use Rattle.mail_reader.specs.Lines.{lines_of}
use Rattle.mail_reader.proofs.LineEnds.{concat-lines_of}
use Rattle.pop3_reader.specs.Texts.{first_lines}
use Rattle.pop3_reader.proofs.Lines.{lines-are_front}
use Rattle.pop3_reader.proofs.texts.first_lines.Goals as goal

pub returns : goal.returns
returns c =
    let text = c.args.text.now in
    let parts = lines-are_front c.args.count text (concat-lines_of text) in
    c.split_at.ensures.front ∙ ap (take c.lines_len.result) parts ∙ take_at (first_lines c.args.count text) (concat (drop c.args.count (lines_of text))) c.lines_len.result (sym c.lines_len.ensures.value)
