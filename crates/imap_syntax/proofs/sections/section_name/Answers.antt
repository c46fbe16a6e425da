use Rattle.std.proofs.Common.{sym, ◌∙◌}
use Rattle.imap_syntax.proofs.SetLemmas.{split_rest, name_more}
use Rattle.imap_syntax.proofs.sections.section_name.Goals as goal

pub returns-in-Some : goal.returns-in-Some
returns-in-Some c =
    c.fields_name.ensures ∙ sym (name_more c.args.numbered c.args.keyword.now c.split.result.0.now c.in-Some.rest.now
    (split_rest 46 c.args.keyword.now c.split.result.0.now c.split.result.1 c.in-Some.rest c.split.ensures c.in-Some.is))
