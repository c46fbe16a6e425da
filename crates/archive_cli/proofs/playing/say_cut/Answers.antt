use Rattle.std.proofs.Common.{codes}
use Rattle.edge_io.proofs.Wording.{Says-then, Says-lost}
use Rattle.answer_lines.specs.Lines.{whole_line}
use Rattle.archive_cli.proofs.playing.say_cut.Goals as goal

pub returns-in_err-say-clause-said : goal.returns-in_err-say-clause-said
returns-in_err-say-clause-said g c = Says-lost c.args.frames.now (whole_line (codes "12 no memory")) _ _ _ _ _ c.from_residual.result c.from_residual.ensures.0 c.in_err-say.ensures.said

pub returns-clause-said : goal.returns-clause-said
returns-clause-said g c = Says-then c.args.frames.now (whole_line (codes "12 no memory")) _ _ _ _ _ _ _ _ c.in_ok-say.ensures.said c.say_memory.ensures.said
