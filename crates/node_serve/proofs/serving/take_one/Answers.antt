use Rattle.std.proofs.Common.{refl}
use Rattle.arch_model.specs.KeeperRecord.{keeper}
use Rattle.node_serve.specs.Ends.{is_stop}
use Rattle.node_serve.proofs.Running.{outer-same, took-event, takes-one}
use Rattle.node_serve.proofs.serving.take_one.Goals as goal

pub returns-in-Err-clause-taken : goal.returns-in-Err-clause-taken
returns-in-Err-clause-taken g c = (
  record {
    node_kept = refl;
    out_kept = outer-same _ _ _ _ _ _ _ _ _ c.next.ensures.taken c.next.ensures.closings c.next.ensures.lost c.next.ensures.closed_at;
    given_kept = c.in-Err.ensures.failed_given;
    left_kept = c.in-Err.ensures.failed_left;
  },
  c.in-Err.ensures.cause.failed,
  λ past noted. c.in-Err.ensures.failed_noted past noted,
)

pub returns-in-Ok-Some-clause-taken : goal.returns-in-Ok-Some-clause-taken
returns-in-Ok-Some-clause-taken g c =
    takes-one (keeper g.K.Shelf g.K.Keep) c.after.result (is_stop c.in-Ok-Some.event.what) c.args.node.now c.turn.new.self _ _ _ _ _ _ _ _ _ _ c.after.ensures
    (took-event (keeper g.K.Shelf g.K.Keep) c.in-Ok-Some.event c.next.new.into c.piece_len-len.result c.args.node.now c.turn.new.self _ _ _ _ _ _ _ _ _ _ _ _ c.piece_len-len.ensures (rw c.in-Ok-Some.field-0-is at c.in-Ok-Some.ensures.gave)
    (outer-same _ _ _ _ _ _ _ _ _ c.next.ensures.taken c.next.ensures.closings c.next.ensures.lost c.next.ensures.closed_at) c.turn.ensures.turned c.turn.ensures.events.left_same c.turn.ensures.events.given_same (λ past noted. c.in-Ok-Some.ensures.noted past noted) c.turn.ensures.events.recorded_same)
