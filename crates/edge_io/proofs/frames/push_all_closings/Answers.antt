use Rattle.edge_io.specs.Frames.{closing_between}
use Rattle.edge_io.specs.MemHosts.{outputs_in}
use Rattle.edge_io.specs.ScriptHosts.{marked}
use Rattle.edge_io.proofs.Framing.{row-begun, row-more, row-ended}
use Rattle.edge_io.proofs.frames.push_all_closings.Goals as goal

pub loop-conn-init : goal.loop-conn-init
loop-conn-init c = row-begun (closing_between (marked (outputs_in c.args.outlets.now) c.args.marks.now) (outputs_in c.args.outlets.now)) c.args.frames.now c.args.touched.first c.args.touched.after

pub loop-conn-preserved : goal.loop-conn-preserved
loop-conn-preserved c =
    row-more (closing_between (marked (outputs_in c.args.outlets.now) c.args.marks.now) (outputs_in c.args.outlets.now)) c.args.frames.now c.loop-conn.frames _ c.args.touched.first c.args.touched.after c.loop-conn.conn
    c.loop-conn.auto.conn c.loop-conn-test.true c.loop-conn.invariant c.in_ok-push_closed.ensures

pub returns : goal.returns
returns c = row-ended (closing_between (marked (outputs_in c.args.outlets.now) c.args.marks.now) (outputs_in c.args.outlets.now)) c.args.frames.now c.loop-conn.frames c.args.touched.first c.args.touched.after c.loop-conn.conn c.loop-conn.invariant c.loop-conn-test.false
