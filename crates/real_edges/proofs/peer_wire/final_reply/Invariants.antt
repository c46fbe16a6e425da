use Rattle.std.proofs.Common.{◌≤◌, length}
use Rattle.real_edges.proofs.peer_wire.final_reply.Given as goal

abbrev pub invariant-loop : goal.invariant-loop
invariant-loop l = l.start ≤ length l.bytes
