use Rattle.std.proofs.Common.{◌≡◌, refl, arith}
use Rattle.arch_model.specs.Archives.{live}
use Rattle.arch_model.proofs.Shelving.{stays-same, stays-joined}
use Rattle.door_tests.proofs.Parts.{sofar-none, sofar-absent, sofar-given, streams-end, streams-unread, streams-lost, streams-short}
use Rattle.door_tests.proofs.shelf_client.say_texts.Goals as goal

pub loop-at-init : goal.loop-at-init
loop-at-init g c = record {
  so_far = λ a held. sofar-none (live a.entries) c.args.low _;
  shelf = stays-same g.S.Shelf.holds g.S.Shelf.ready g.S.Shelf.alike g.S.Shelf.faults g.met.S.Shelf.alike_same c.args.shelf.now c.requires.ready;
  sink = g.met.O.Sink.alike_same _;
  within = omega arith;
}

pub loop-at-preserved-in-Absent : goal.loop-at-preserved-in-Absent
loop-at-preserved-in-Absent g c = record {
  so_far = λ a held.
      let part = c.in-Absent.ensures.part a (c.loop-at.invariant.shelf.kept a held) in
      sofar-absent (live a.entries) c.args.low c.loop-at.at c.loop-at.begun _ _ _ (c.loop-at.invariant.so_far a held) part.0 part.1 part.2;
  shelf = stays-joined g.S.Shelf.holds g.S.Shelf.ready g.S.Shelf.alike g.S.Shelf.faults g.met.S.Shelf.alike_joined _ _ _ c.loop-at.invariant.shelf c.say_part.ensures.shelf;
  sink = g.met.O.Sink.alike_joined _ _ _ c.loop-at.invariant.sink c.say_part.ensures.sink;
  within = omega (arith, c.loop-at-test.true);
}

pub loop-at-preserved : goal.loop-at-preserved
loop-at-preserved g c = record {
  so_far = λ a held. sofar-given (live a.entries) c.args.low c.loop-at.at c.loop-at.begun _ _ _ (c.loop-at.invariant.so_far a held) (c.in-Given.ensures.part a (c.loop-at.invariant.shelf.kept a held));
  shelf = stays-joined g.S.Shelf.holds g.S.Shelf.ready g.S.Shelf.alike g.S.Shelf.faults g.met.S.Shelf.alike_joined _ _ _ c.loop-at.invariant.shelf c.say_part.ensures.shelf;
  sink = g.met.O.Sink.alike_joined _ _ _ c.loop-at.invariant.sink c.say_part.ensures.sink;
  within = omega (arith, c.loop-at-test.true);
}

pub returns-in-Unread-clause-acts : goal.returns-in-Unread-clause-acts
returns-in-Unread-clause-acts g c = λ a h held.
    let part = c.in-Unread.ensures.part a (c.loop-at.invariant.shelf.kept a held) in
    rw c.is_ok.ensures.value (streams-unread a c.args.low c.args.count h c.loop-at.at c.loop-at.begun _ _ _ c.in-Unread.sent part.0 (c.loop-at.invariant.so_far a held) part.1)

pub returns-in-Short-clause-acts : goal.returns-in-Short-clause-acts
returns-in-Short-clause-acts g c = λ a h held.
    streams-short a c.args.low c.args.count h c.loop-at.at c.loop-at.begun _ _ _ c.loop-at-test.true (c.loop-at.invariant.so_far a held) (c.in-Short.ensures.part a (c.loop-at.invariant.shelf.kept a held))

pub returns-in-Lost-clause-acts : goal.returns-in-Lost-clause-acts
returns-in-Lost-clause-acts g c = λ a h held.
    let part = c.in-Lost.ensures.part a (c.loop-at.invariant.shelf.kept a held) in
    streams-lost a c.args.low c.args.count h c.loop-at.at c.loop-at.begun _ _ _ part.0 c.loop-at-test.true (c.loop-at.invariant.so_far a held) part.1

pub returns-clause-acts : goal.returns-clause-acts
returns-clause-acts g c = λ a h held.
    let all : c.loop-at.at ≡ c.args.count = omega (arith, c.loop-at-test.false, c.loop-at.invariant.within) in
    rw c.is_ok-2.ensures.value (streams-end a c.args.low c.args.count h c.loop-at.at c.loop-at.begun _ _ _ c.say_line.result all (c.loop-at.invariant.so_far a held) refl c.say_line.ensures.said)
