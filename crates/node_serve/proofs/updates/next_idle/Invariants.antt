use Rattle.std.proofs.Common.{◌≡◌, ◌≤◌, ◌<◌, ◌-◌, ℕ, false}
use Rattle.node_serve.specs.Nodes.{session_of}
use Rattle.node_serve.specs.Updates.{idles_if, connection_limit}
use Rattle.node_serve.proofs.updates.next_idle.Given as goal

abbrev pub invariant-loop-conn : goal.invariant-loop-conn
invariant-loop-conn l = record {
  from : l.fn.from ≤ l.next;
  none : (c : ℕ) → l.fn.from ≤ c → c < l.next → idles_if (session_of l.sessions.entries c) ≡ false;
}

abbrev pub decreases-loop-conn : goal.decreases-loop-conn
decreases-loop-conn l = connection_limit - l.next
