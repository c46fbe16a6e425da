use Rattle.std.proofs.Common.{sym}
use Rattle.imap_syntax.proofs.SetLemmas.{split_rest, range_three}
use Rattle.imap_syntax.proofs.set_reading.two_ends.Goals as goal

pub returns-in-Some : goal.returns-in-Some
returns-in-Some c =
    sym (range_three c.args.first.now c.args.text.now c.split.result.0.now c.in-Some.field-0.now
    (split_rest 58 c.args.text.now c.split.result.0.now c.split.result.1 c.in-Some.field-0 c.split.ensures c.in-Some.is))
