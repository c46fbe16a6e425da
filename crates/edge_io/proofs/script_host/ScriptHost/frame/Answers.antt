use Rattle.std.proofs.Common.{◌≡◌, subst}
use Rattle.edge_io.specs.Frames.{event_frame}
use Rattle.edge_io.specs.MemHosts.{outputs_in}
use Rattle.edge_io.specs.ScriptHosts.{Scripting, begun_of}
use Rattle.edge_io.proofs.Framing.{both-rows}
use Rattle.edge_io.proofs.script_host.ScriptHost.frame.Goals as goal

-- Both rows of texts were appended, and they are the frames of the event.
pub returns : goal.returns
returns c =
    subst (λ (s : Scripting). c.push_all_closings.new.frames ≡ event_frame (begun_of s) (outputs_in s.outgoing)) c.self.view_is
    (both-rows (outputs_in c.self.inside.outlets) c.self.inside.marks.items _ _ c.self.inside.touched _ _ _ c.self.invariant.0 c.as_slice.ensures.value c.as_slice-2.ensures.value c.new-frame.ensures
    c.in_ok-push_all_written.ensures c.in_ok-push_all_closings.ensures)
