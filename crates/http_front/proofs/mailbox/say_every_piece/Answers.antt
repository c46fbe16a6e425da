use Rattle.std.proofs.Common.{◌+◌, ◌++◌, length, refl, rules}
use Rattle.arch_model.specs.Archives.{live}
use Rattle.http_front.specs.Mailboxes.{whole_mailbox, piece_at}
use Rattle.arch_model.proofs.Shelving.{stays-joined, stays-same}
use Rattle.http_front.proofs.Counting.{entries_from, from-all, from-next, ahead-none, ahead-once, ahead-all}
use Rattle.http_front.proofs.Pieces.{pieces_left, pieces-all, pieces-next, pieces-none}
use Rattle.http_front.proofs.Streaming.{under-begin, under-part, streams-end, streams-stopped}
use Rattle.http_front.proofs.mailbox.say_every_piece.Goals as goal

pub loop-n-init : goal.loop-n-init
loop-n-init g c = record {
  so_far = λ a held. under-begin c.args.unsaid (whole_mailbox a.entries) (pieces_left a.entries 0) _ (pieces-all a.entries);
  reads = λ a held. ahead-none (length (live a.entries)) _ _ (from-all (live a.entries) 0);
  within = search rules;
  shelf = stays-same g.S.Shelf.holds g.S.Shelf.ready g.S.Shelf.alike g.S.Shelf.faults g.met.S.Shelf.alike_same _ c.requires.ready;
  sink = g.met.O.Sink.alike_same _;
}

pub loop-n-preserved : goal.loop-n-preserved
loop-n-preserved g c = record {
  so_far = λ a held.
      let now = c.loop-n.invariant.shelf.kept a held in
      rw c.from-low.ensures (under-part c.args.manner.moment (c.args.unsaid ++ whole_mailbox a.entries) c.loop-n.unsaid (pieces_left a.entries c.loop-n.low) (piece_at a.entries c.in-Some.n) (pieces_left a.entries (c.in-Some.n + 1)) c.loop-n.begun _ _ (c.loop-n.invariant.so_far a held) (pieces-next a.entries c.loop-n.low c.in-Some.n c.in-Some.ensures.later.1 (c.in-Some.ensures.next a now))
      c.in-Ok.said c.say_part.new.unsaid _ (c.in-Ok.ensures.part a now));
  reads = λ a held.
      let now = c.loop-n.invariant.shelf.kept a held in
      rw c.from-low.ensures (ahead-once (length (live a.entries)) (entries_from (live a.entries) c.loop-n.low) (entries_from (live a.entries) (c.in-Some.n + 1)) _ _ _
      (from-next (live a.entries) c.loop-n.low c.in-Some.n (c.in-Some.ensures.next a now).0 (c.in-Some.ensures.next a now).2) (c.loop-n.invariant.reads a held) c.say_part.ensures.reads);
  within = search rules;
  shelf = stays-joined g.S.Shelf.holds g.S.Shelf.ready g.S.Shelf.alike g.S.Shelf.faults g.met.S.Shelf.alike_joined _ _ _ c.loop-n.invariant.shelf c.say_part.ensures.shelf;
  sink = g.met.O.Sink.alike_joined _ _ _ c.loop-n.invariant.sink c.say_part.ensures.sink;
}

pub returns-in-Err-clause-acts : goal.returns-in-Err-clause-acts
returns-in-Err-clause-acts g c = λ a rest held.
    let now = c.loop-n.invariant.shelf.kept a held in
    streams-stopped c.args.manner.moment a c.args.manner.closes rest (c.args.unsaid ++ whole_mailbox a.entries) c.loop-n.unsaid (pieces_left a.entries c.loop-n.low) (piece_at a.entries c.in-Some.n) (pieces_left a.entries (c.in-Some.n + 1)) c.loop-n.begun _ _ (c.loop-n.invariant.so_far a held)
    (pieces-next a.entries c.loop-n.low c.in-Some.n c.in-Some.ensures.later.1 (c.in-Some.ensures.next a now)) _ _ (c.in-Err.ensures.part a now)

pub returns-in-Err-clause-reads : goal.returns-in-Err-clause-reads
returns-in-Err-clause-reads g c = λ a held.
    let now = c.loop-n.invariant.shelf.kept a held in
    ahead-all _ _ _ _ (ahead-once (length (live a.entries)) (entries_from (live a.entries) c.loop-n.low) (entries_from (live a.entries) (c.in-Some.n + 1)) _ _ _
    (from-next (live a.entries) c.loop-n.low c.in-Some.n (c.in-Some.ensures.next a now).0 (c.in-Some.ensures.next a now).2) (c.loop-n.invariant.reads a held) c.say_part.ensures.reads)

pub returns-clause-acts : goal.returns-clause-acts
returns-clause-acts g c = λ a rest held.
    let now = c.loop-n.invariant.shelf.kept a held in
    streams-end c.args.manner.moment a c.args.manner.closes rest (c.args.unsaid ++ whole_mailbox a.entries) c.loop-n.unsaid (pieces_left a.entries c.loop-n.low) c.loop-n.begun _ _ _ _ (c.loop-n.invariant.so_far a held) (pieces-none a.entries c.loop-n.low (c.in_default.ensures.next a now)) refl c.say_rest.ensures.said

pub returns-clause-reads : goal.returns-clause-reads
returns-clause-reads g c = λ a held. ahead-all _ _ _ _ (c.loop-n.invariant.reads a held)
