use Rattle.std.proofs.Common.{◌+◌, ◌++◌, drop, refl, arith}
use Rattle.http_front.specs.Mailboxes.{mailbox_at}
use Rattle.arch_model.proofs.Shelving.{stays-joined, stays-same}
use Rattle.http_front.proofs.Feeds.{reads-more, reads-stop}
use Rattle.http_front.proofs.Finding.{reads-none}
use Rattle.http_front.proofs.Pieces.{mailbox-next, mailbox-none}
use Rattle.http_front.proofs.Streaming.{under-begin, under-part, streams-end, streams-stopped}
use Rattle.http_front.proofs.mailbox.say_pieces.Goals as goal

pub loop-n-init : goal.loop-n-init
loop-n-init g c = record {
  so_far = λ a held. under-begin c.args.unsaid (mailbox_at a.entries c.args.numbers.now) (mailbox_at a.entries c.args.numbers.now) _ refl;
  reads = reads-none 0 _;
  shelf = stays-same g.S.Shelf.holds g.S.Shelf.ready g.S.Shelf.alike g.S.Shelf.faults g.met.S.Shelf.alike_same _ c.requires.ready;
  sink = g.met.O.Sink.alike_same _;
}

pub loop-n-preserved : goal.loop-n-preserved
loop-n-preserved g c = record {
  so_far = λ a held.
      let now = c.loop-n.invariant.shelf.kept a held in
      under-part c.args.manner.moment (c.args.unsaid ++ mailbox_at a.entries c.args.numbers.now) c.loop-n.unsaid (mailbox_at a.entries (drop c.loop-n.n-index c.args.numbers.now)) _ (mailbox_at a.entries (drop (c.loop-n.n-index + 1) c.args.numbers.now)) c.loop-n.begun _ _ (c.loop-n.invariant.so_far a held)
      (mailbox-next a.entries c.args.numbers.now c.loop-n.n-index _ c.loop-n-test.true) c.in-Ok.said c.say_part.new.unsaid _ (c.in-Ok.ensures.part a now);
  reads = reads-more c.loop-n.n-index _ _ _ c.loop-n.invariant.reads c.say_part.ensures.reads;
  shelf = stays-joined g.S.Shelf.holds g.S.Shelf.ready g.S.Shelf.alike g.S.Shelf.faults g.met.S.Shelf.alike_joined _ _ _ c.loop-n.invariant.shelf c.say_part.ensures.shelf;
  sink = g.met.O.Sink.alike_joined _ _ _ c.loop-n.invariant.sink c.say_part.ensures.sink;
}

pub returns-in-Err-clause-acts : goal.returns-in-Err-clause-acts
returns-in-Err-clause-acts g c = λ a rest held.
    let now = c.loop-n.invariant.shelf.kept a held in
    streams-stopped c.args.manner.moment a c.args.manner.closes rest (c.args.unsaid ++ mailbox_at a.entries c.args.numbers.now) c.loop-n.unsaid (mailbox_at a.entries (drop c.loop-n.n-index c.args.numbers.now)) _ (mailbox_at a.entries (drop (c.loop-n.n-index + 1) c.args.numbers.now)) c.loop-n.begun _ _
    (c.loop-n.invariant.so_far a held) (mailbox-next a.entries c.args.numbers.now c.loop-n.n-index _ c.loop-n-test.true) _ _ (c.in-Err.ensures.part a now)

pub returns-in-Err-clause-reads : goal.returns-in-Err-clause-reads
returns-in-Err-clause-reads g c = reads-stop c.loop-n.n-index _ _ _ _ c.loop-n-test.true c.loop-n.invariant.reads c.say_part.ensures.reads

pub returns-clause-acts : goal.returns-clause-acts
returns-clause-acts g c = λ a rest held.
    streams-end c.args.manner.moment a c.args.manner.closes rest (c.args.unsaid ++ mailbox_at a.entries c.args.numbers.now) c.loop-n.unsaid (mailbox_at a.entries (drop c.loop-n.n-index c.args.numbers.now)) c.loop-n.begun _ _ _ _ (c.loop-n.invariant.so_far a held)
    (mailbox-none a.entries c.args.numbers.now c.loop-n.n-index (omega arith)) refl c.say_rest.ensures.said
