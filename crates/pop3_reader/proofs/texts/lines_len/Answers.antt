use Rattle.std.proofs.Common.{arith}
use Rattle.pop3_reader.proofs.Lines.{lines-step}
use Rattle.pop3_reader.proofs.texts.lines_len.Goals as goal

pub loop-left-preserved : goal.loop-left-preserved
loop-left-preserved c =
    rw c.split_at.ensures.back
    (lines-step c.args.count c.loop-left.left c.line_len.result c.args.text.now c.loop-left.rest.now (omega arith) c.line_len.ensures.within c.line_len.ensures.lines c.loop-left.invariant.0 c.loop-left.invariant.1)
