use Rattle.std.proofs.Common.{sym, ◌∙◌}
use Rattle.imap_syntax.proofs.SetLemmas.{split_rest, fields_more}
use Rattle.imap_syntax.proofs.sections.fields_name.Goals as goal

pub returns-in-Some : goal.returns-in-Some
returns-in-Some c =
    c.not_name.ensures ∙ sym (fields_more c.args.word.now c.args.text.now c.split.result.0.now c.in-Some.rest.now
    (split_rest 46 c.args.text.now c.split.result.0.now c.split.result.1 c.in-Some.rest c.split.ensures c.in-Some.is))
