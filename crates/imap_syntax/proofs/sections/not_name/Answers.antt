use Rattle.std.proofs.Common.{sym}
use Rattle.imap_syntax.proofs.SetLemmas.{split_rest, not_more}
use Rattle.imap_syntax.proofs.sections.not_name.Goals as goal

pub returns-in-Some : goal.returns-in-Some
returns-in-Some c =
    sym (not_more c.args.word.now c.args.other.now c.args.text.now c.split.result.0.now c.in-Some.field-0.now
    (split_rest 46 c.args.text.now c.split.result.0.now c.split.result.1 c.in-Some.field-0 c.split.ensures c.in-Some.is))
