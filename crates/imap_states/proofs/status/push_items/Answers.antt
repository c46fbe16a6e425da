use Rattle.std.proofs.Common.{◌+◌, arith, codes}
use Rattle.wire_replies.proofs.Wording.{sofar-none}
use Rattle.imap_states.specs.Boxes.{status_list}
use Rattle.imap_states.proofs.Lines.{next-said, next-lost, none-left, next-item, no-item}
use Rattle.imap_states.proofs.status.push_items.Goals as goal

pub loop-item-init : goal.loop-item-init
loop-item-init g c = record {
  so_far = λ a held valid. sofar-none (status_list a c.args.range (codes "(") c.args.items.now) c.args.reply.now _ _;
  sink = g.met.O.Sink.alike_same _;
}

pub loop-item-preserved : goal.loop-item-preserved
loop-item-preserved g c = record {
  so_far = λ a held valid. next-said _ _ c.args.reply.now c.loop-item.reply _ _ _ _ (c.loop-item.invariant.so_far a held valid) _ _ c.push_item.new.reply _ _ tt
      (next-item a c.args.range c.loop-item.before.now c.args.items.now c.loop-item.item-index _ c.loop-item-test.true) (c.in-Ok.ensures.said a held valid);
  sink = g.met.O.Sink.alike_joined _ _ _ c.loop-item.invariant.sink c.push_item.ensures.sink;
}

pub returns-in-Err-clause-said : goal.returns-in-Err-clause-said
returns-in-Err-clause-said g c = λ a held valid.
    next-lost _ _ c.args.reply.now c.loop-item.reply _ _ _ _ (c.loop-item.invariant.so_far a held valid) _ _ _ _ c.in-Err.fault
    (next-item a c.args.range c.loop-item.before.now c.args.items.now c.loop-item.item-index _ c.loop-item-test.true) (c.in-Err.ensures.said a held valid)

pub returns-clause-said : goal.returns-clause-said
returns-clause-said g c = λ a held valid.
    none-left _ _ c.args.reply.now c.loop-item.reply _ _ _ _ (c.loop-item.invariant.so_far a held valid) (no-item a c.args.range c.loop-item.before.now c.args.items.now c.loop-item.item-index (omega arith))
