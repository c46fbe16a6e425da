use Rattle.std.proofs.Common.{◌∷◌, ◌++◌, [], sym, subst}
use Rattle.edge_io.specs.MemHosts.{outputs_in}
use Rattle.edge_io.specs.ScriptHosts.{Scripting, Recorded}
use Rattle.edge_io.proofs.Framing.{recorded-more, recorded-with}
use Rattle.edge_io.proofs.script_host.ScriptHostHost.next.Goals as goal

-- The frames of the event were collected, or memory ran out. Then the next event was given.
pub returns-clause-noted : goal.returns-clause-noted
returns-clause-noted c = λ past is.
    let more = past ++ outputs_in c.args.self.now.outgoing ∷ [] in
    subst (λ (s : Scripting). Recorded (record s { events = c.next.new.self }) more) (sym c.self.view_is)
    (recorded-with c.end_event.new.self c.next.new.self more (recorded-more c.args.self.now c.end_event.new.self past is c.end_event.ensures.begun c.end_event.ensures.collected))
