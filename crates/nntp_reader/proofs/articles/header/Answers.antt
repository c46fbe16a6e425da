use Rattle.std.proofs.Common.{◌∙◌, take, ap, sym}
use Rattle.std.specs.List.{concat}
use Rattle.std.proofs.lemmas.List.{take_at}
use Rattle.mail_reader.specs.Lines.{lines_of, after_header}
use Rattle.mail_reader.specs.Fields.{fields_of}
use Rattle.mail_reader.specs.Laws.{wholes}
use Rattle.nntp_reader.specs.Articles.{header_of}
use Rattle.nntp_reader.proofs.articles.header.Goals as goal

pub returns : goal.returns
unfolding header_of
returns c =
    let parts = c.fields_are_front.ensures c.args.text.now in
    c.split_at.ensures.front ∙ ap (take c.header_len.result) parts ∙ take_at (wholes (fields_of c.args.text.now)) (concat (after_header (lines_of c.args.text.now))) c.header_len.result (sym c.header_len.ensures.value)
