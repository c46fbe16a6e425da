use Rattle.std.proofs.Common.{refl, rules}
use Rattle.edge_io.proofs.Framing.{new-recorded}
use Rattle.edge_io.proofs.script_host.ScriptHost.new.Goals as goal

-- A new host has no record.
pub returns : goal.returns
returns c = record {
  events_are = search rules;
  unused = c.in_ok-outlets.ensures;
  nothing_yet = new-recorded _ c.in_ok-outlets.ensures c.in_ok-marks.ensures.zero c.new-3.ensures;
  not_starved = refl;
}
