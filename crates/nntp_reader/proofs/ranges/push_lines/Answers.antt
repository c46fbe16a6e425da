use Rattle.std.proofs.Common.{Ok, ◌+◌, ◌∙◌, sym, rules}
use Rattle.arch_model.specs.Archives.{live}
use Rattle.nntp_reader.specs.Facts.{line_at, fact_lines}
use Rattle.wire_replies.proofs.Wording.{sofar-none, sofar-more, sofar-end, sofar-lost, Waits-none}
use Rattle.nntp_reader.proofs.Walking.{facts-rest, facts-none}
use Rattle.nntp_reader.proofs.ranges.push_lines.Goals as goal

pub loop-next-init : goal.loop-next-init
loop-next-init g c = record {
  so_far = λ a held. (c.args.range.first, c.live_within-next.ensures.number a held, sofar-none (fact_lines c.args.fact a c.args.range.first c.args.range.last) c.args.reply.now _ _);
  within = search rules;
  sink = g.met.O.Sink.alike_same _;
}

pub loop-next-preserved : goal.loop-next-preserved
loop-next-preserved g c = record {
  so_far = λ a held.
      let before = c.loop-next.invariant.so_far a held in
      let rest = facts-rest c.args.fact a before.0 c.args.range.last c.in-Some.number (sym before.1 ∙ c.in-Some.is) in (
        c.in-Some.number + 1,
        c.live_after-next.ensures.number a held,
        sofar-more (fact_lines c.args.fact a c.args.range.first c.args.range.last) c.args.reply.now _ _ (fact_lines c.args.fact a before.0 c.args.range.last) c.loop-next.reply _ _ before.2
            (line_at c.args.fact a c.in-Some.number) (fact_lines c.args.fact a (c.in-Some.number + 1) c.args.range.last) c.push_fact.new.reply _ _ tt rest (c.in-Ok.ensures.said a held),
      );
  within = search rules;
  sink = g.met.O.Sink.alike_joined _ _ _ c.loop-next.invariant.sink c.push_fact.ensures.sink;
}

pub returns-in-Err-clause-said : goal.returns-in-Err-clause-said
returns-in-Err-clause-said g c = λ a held.
    let before = c.loop-next.invariant.so_far a held in
    let rest = facts-rest c.args.fact a before.0 c.args.range.last c.in-Some.number (sym before.1 ∙ c.in-Some.is) in
    sofar-lost (fact_lines c.args.fact a c.args.range.first c.args.range.last) c.args.reply.now _ _ (fact_lines c.args.fact a before.0 c.args.range.last) c.loop-next.reply _ _ before.2
    (line_at c.args.fact a c.in-Some.number) (fact_lines c.args.fact a (c.in-Some.number + 1) c.args.range.last) _ _ c.in-Err.fault rest (c.in-Err.ensures.said a held)

pub returns-clause-said : goal.returns-clause-said
returns-clause-said g c = λ a held.
    let before = c.loop-next.invariant.so_far a held in
    let none = facts-none c.args.fact a before.0 c.args.range.last (sym before.1 ∙ c.in_default.is) in
    sofar-end (fact_lines c.args.fact a c.args.range.first c.args.range.last) c.args.reply.now _ _ (fact_lines c.args.fact a before.0 c.args.range.last) c.loop-next.reply _ _ before.2 c.loop-next.reply _ _ (Ok tt)
    (rw none (Waits-none c.loop-next.reply (g.O.Sink.taken c.loop-next.out) (g.O.Sink.faults c.loop-next.out)))
