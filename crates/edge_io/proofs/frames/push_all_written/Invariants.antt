use Rattle.std.proofs.Common.{◌≡◌, ◌-◌, ◌++◌, min}
use Rattle.edge_io.specs.Frames.{each_from, written_between}
use Rattle.edge_io.specs.MemHosts.{outputs_in}
use Rattle.edge_io.specs.ScriptHosts.{marked}
use Rattle.edge_io.proofs.frames.push_all_written.Given as goal

abbrev pub invariant-loop-conn : goal.invariant-loop-conn
invariant-loop-conn l = l.frames ≡ l.fn.frames ++ each_from (written_between (marked (outputs_in l.outlets) l.marks) (outputs_in l.outlets)) l.fn.touched.first (min l.conn l.fn.touched.after - l.fn.touched.first)
