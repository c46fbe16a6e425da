use Rattle.std.proofs.lemmas.List.Elements.{All-push}
use Rattle.edge_io.specs.Scripts.{IsArrival}
use Rattle.edge_io.proofs.Unambiguous.{one-more}
use Rattle.edge_io.proofs.reading.script.Goals as goal

pub loop-rest-preserved : goal.loop-rest-preserved
loop-rest-preserved c = record {
  each = rw c.in_ok-push.ensures (All-push IsArrival c.loop-rest.made (c.in-Some.first.event, c.in-Some.first.piece.now) c.loop-rest.invariant.each c.in-Some.ensures.0);
  spells = rw c.in_ok-push.ensures (one-more c.loop-rest.made c.in-Some.first.event c.in-Some.first.piece.now c.args.bytes.now c.loop-rest.rest.now c.in-Some.first.rest.now c.loop-rest.invariant.spells c.in-Some.ensures.1);
}
