use Rattle.std.proofs.Common.{arith}
use Rattle.load_run.proofs.Sizes.{line_some, line_none}
use Rattle.load_run.proofs.counting.entry_count.Goals as goal

pub returns-then-is_none : goal.returns-then-is_none
returns-then-is_none g c = λ a held few.
    let past = line_none a.config.form a.entries c.loop-index.index c.entry.result (c.entry.ensures a held) c.if-is_none.ensures in
    let within = c.loop-index.invariant.within a held in
    omega (arith, past, within)

pub loop-index-preserved : goal.loop-index-preserved
loop-index-preserved g c = record { within = λ a held. line_some a.config.form a.entries c.loop-index.index c.entry.result (c.entry.ensures a held) c.if-is_none.ensures }
