use Rattle.edge_io.specs.MemHosts.{outputs_in}
use Rattle.edge_io.specs.ScriptHosts.{AreMarked}
use Rattle.edge_io.proofs.marks.mark_all.Given as goal

-- Those that are still to be marked are the touched ones from this one on.
abbrev pub invariant-loop-conn : goal.invariant-loop-conn
invariant-loop-conn l = AreMarked (outputs_in l.outlets) l.marks.items (record { first = l.conn; after = l.fn.touched.after })
