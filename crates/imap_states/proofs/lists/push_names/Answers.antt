use Rattle.std.proofs.Common.{◌≡◌, ◌+◌, ◌-◌, ◌++◌, ℕ, subst, arith}
use Rattle.wire_replies.proofs.Wording.{SoFar, sofar-none}
use Rattle.imap_states.specs.Lists.{list_lines}
use Rattle.imap_states.proofs.Lines.{next-said, next-lost, none-left, next-box, no-box}
use Rattle.imap_states.proofs.lists.push_names.Goals as goal

pub loop-index-init : goal.loop-index-init
loop-index-init g c = record {
  so_far = λ a held.
      let name = c.args.listed.now.name.now in
      let pattern = c.args.listed.now.reference.now ++ c.args.listed.now.pattern.now in
      let same : c.args.count ≡ c.args.count - 0 = omega arith in
      subst (λ (k : ℕ). SoFar (list_lines a name pattern 0 c.args.count) (list_lines a name pattern 0 k) c.args.reply.now (g.O.Sink.taken c.args.out.now) (g.O.Sink.faults c.args.out.now) c.args.reply.now (g.O.Sink.taken c.args.out.now) (g.O.Sink.faults c.args.out.now)) same
      (sofar-none (list_lines a name pattern 0 c.args.count) c.args.reply.now (g.O.Sink.taken c.args.out.now) (g.O.Sink.faults c.args.out.now));
  within = omega arith;
  sink = g.met.O.Sink.alike_same _;
}

pub loop-index-preserved : goal.loop-index-preserved
loop-index-preserved g c = record {
  so_far = λ a held. next-said _ _ c.args.reply.now c.loop-index.reply _ _ _ _ (c.loop-index.invariant.so_far a held) _ _ c.push_name.new.reply _ _ tt
      (next-box a c.args.listed.now.name.now (c.args.listed.now.reference.now ++ c.args.listed.now.pattern.now) c.loop-index.index c.args.count (omega arith)) (c.in-Ok.ensures.said a held);
  within = omega arith;
  sink = g.met.O.Sink.alike_joined _ _ _ c.loop-index.invariant.sink c.push_name.ensures.sink;
}

pub returns-in-Err-clause-said : goal.returns-in-Err-clause-said
returns-in-Err-clause-said g c = λ a held.
    next-lost _ _ c.args.reply.now c.loop-index.reply _ _ _ _ (c.loop-index.invariant.so_far a held) _ _ _ _ c.in-Err.fault
    (next-box a c.args.listed.now.name.now (c.args.listed.now.reference.now ++ c.args.listed.now.pattern.now) c.loop-index.index c.args.count (omega arith)) (c.in-Err.ensures.said a held)

pub returns-clause-said : goal.returns-clause-said
returns-clause-said g c = λ a held.
    none-left _ _ c.args.reply.now c.loop-index.reply _ _ _ _ (c.loop-index.invariant.so_far a held)
    (no-box a c.args.listed.now.name.now (c.args.listed.now.reference.now ++ c.args.listed.now.pattern.now) c.loop-index.index c.args.count (omega arith))
