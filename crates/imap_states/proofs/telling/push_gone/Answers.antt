use Rattle.std.proofs.Common.{◌+◌, drop, arith}
use Rattle.std.specs.List.{flat_map}
use Rattle.wire_replies.proofs.Wording.{sofar-none}
use Rattle.imap_states.specs.States.{expunge_line}
use Rattle.imap_states.proofs.Lines.{next-said, next-lost, none-left, next-line, no-line}
use Rattle.imap_states.proofs.telling.push_gone.Goals as goal

pub loop-sequence-init : goal.loop-sequence-init
loop-sequence-init g c = record { so_far = sofar-none (flat_map expunge_line c.args.gone.now) c.args.reply.now _ _; sink = g.met.O.Sink.alike_same _ }

pub loop-sequence-preserved : goal.loop-sequence-preserved
loop-sequence-preserved g c = record {
  so_far = next-said _ _ c.args.reply.now c.loop-sequence.reply _ _ _ _ c.loop-sequence.invariant.so_far _ _ c.push_expunge.new.reply _ _ tt
      (next-line expunge_line c.args.gone.now c.loop-sequence.sequence-index _ c.loop-sequence-test.true) c.in-Ok.ensures.said;
  sink = g.met.O.Sink.alike_joined _ _ _ c.loop-sequence.invariant.sink c.push_expunge.ensures.sink;
}

pub returns-in-Err-clause-said : goal.returns-in-Err-clause-said
returns-in-Err-clause-said g c =
    next-lost _ _ c.args.reply.now c.loop-sequence.reply _ _ _ _ c.loop-sequence.invariant.so_far _ _ _ _ c.in-Err.fault
    (next-line expunge_line c.args.gone.now c.loop-sequence.sequence-index _ c.loop-sequence-test.true) c.in-Err.ensures.said

pub returns-clause-said : goal.returns-clause-said
returns-clause-said g c =
    none-left _ _ c.args.reply.now c.loop-sequence.reply _ _ _ _ c.loop-sequence.invariant.so_far (no-line expunge_line c.args.gone.now c.loop-sequence.sequence-index (omega arith))
