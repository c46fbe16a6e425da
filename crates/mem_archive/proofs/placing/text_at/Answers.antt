use Rattle.std.proofs.Common.{Some, ap, ◌∙◌}
use Rattle.mem_archive.proofs.Numbers.{text-none, text-some}
use Rattle.mem_archive.proofs.placing.text_at.Goals as goal

pub returns-in-None : goal.returns-in-None
returns-in-None c = text-none c.args.kept.now c.args.entry c.in-None.ensures.lookup.3

pub returns-in-Some : goal.returns-in-Some
returns-in-Some c = ap Some c.as_slice.ensures ∙ text-some c.args.kept.now c.args.entry c.in-Some.kept.now c.in-Some.ensures.lookup.3.0 c.in-Some.ensures.lookup.1
