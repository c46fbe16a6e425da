use Rattle.std.proofs.Common.{◌-◌, length}
use Rattle.view_set.proofs.Walking.{Filled}
use Rattle.view_set.proofs.rebuilding.fill.Given as goal

abbrev pub invariant-loop-line : goal.invariant-loop-line
invariant-loop-line g l = Filled g.W.Walked.holds g.W.Walked.sound g.W.Walked.lines g.W.Walked.alike g.W.Walked.faults g.W.Walked.reads l.fn.walked l.walked l.index l.views

abbrev pub decreases-loop-line : goal.decreases-loop-line
decreases-loop-line g l = length (g.W.Walked.lines l.walked) - l.index
