use Rattle.std.proofs.Common.{◌++◌, None, refl, inl, inr, arith}
use Rattle.keep_course.specs.Courses.{ShelfActs}
use Rattle.keep_course.proofs.Courses.{coming-same, coming-more, coming-last}
use Rattle.arch_model.proofs.Shelving.{stays-same, stays-joined}
use Rattle.http_front.specs.Door.{said, has_request, pages_at}
use Rattle.http_front.proofs.Counting.{ahead-none, ahead-more, ahead-kept, ahead-last, bytes-quiet}
use Rattle.http_front.proofs.session.HttpSession.feed.Goals as goal

pub loop-taken-init : goal.loop-taken-init
loop-taken-init g c = record {
  going = λ a held. coming-same (ShelfActs g.S.Shelf (pages_at c.args.moment)) (said c.args.moment) has_request _ _;
  reads = λ a held. ahead-none _ _ _ (omega arith);
  shelf = stays-same g.S.Shelf.holds g.S.Shelf.ready g.S.Shelf.alike g.S.Shelf.faults g.met.S.Shelf.alike_same c.args.shelf.now c.requires.ready;
  sink = g.met.O.Sink.alike_same _;
}

pub loop-taken-preserved : goal.loop-taken-preserved
loop-taken-preserved g c = rw c.split_at.ensures.back (record {
  going = λ a held.
      let before = c.loop-taken.invariant.going a held in
      let turn = c.in-Went.ensures.turn a (c.loop-taken.invariant.shelf.kept a held) in
      coming-more (ShelfActs g.S.Shelf (pages_at c.args.moment)) (said c.args.moment) has_request c.args.shelf.now c.loop-taken.shelf c.act.new.shelf _ (c.loop-taken.self ++ c.loop-taken.rest.now) a _ _ a _ before turn.0 turn.1 (record { stays = c.act.ensures.shelf; archive = refl; disk = refl; spared = c.act.ensures.unused a (c.loop-taken.invariant.shelf.kept a held) });
  reads = λ a held.
      ahead-more _ _ _ _ _ _ (c.loop-taken.invariant.reads a held) (c.in-Went.ensures.reads a (c.loop-taken.invariant.shelf.kept a held));
  shelf = stays-joined g.S.Shelf.holds g.S.Shelf.ready g.S.Shelf.alike g.S.Shelf.faults g.met.S.Shelf.alike_joined _ _ _ c.loop-taken.invariant.shelf c.act.ensures.shelf;
  sink = g.met.O.Sink.alike_joined _ _ _ c.loop-taken.invariant.sink c.act.ensures.sink;
})

pub returns-in-Kept-clause-fed : goal.returns-in-Kept-clause-fed
returns-in-Kept-clause-fed g c = λ a held.
    let before = c.loop-taken.invariant.going a held in
    let turn = c.in-Kept.ensures.turn a (c.loop-taken.invariant.shelf.kept a held) in
    coming-last (ShelfActs g.S.Shelf (pages_at c.args.moment)) (said c.args.moment) has_request c.args.shelf.now c.loop-taken.shelf c.act.new.shelf _ (c.loop-taken.self ++ c.loop-taken.rest.now) a _ _ a _ before turn.2 (inr (turn.0, turn.1)) (record { stays = c.act.ensures.shelf; archive = refl; disk = refl; spared = c.act.ensures.unused a (c.loop-taken.invariant.shelf.kept a held) })

pub returns-in-Closed-clause-fed : goal.returns-in-Closed-clause-fed
returns-in-Closed-clause-fed g c = λ a held.
    let before = c.loop-taken.invariant.going a held in
    let turn = c.in-Closed.ensures.turn a (c.loop-taken.invariant.shelf.kept a held) in
    coming-last (ShelfActs g.S.Shelf (pages_at c.args.moment)) (said c.args.moment) has_request c.args.shelf.now c.loop-taken.shelf c.act.new.shelf _ (c.loop-taken.self ++ c.loop-taken.rest.now) a _ None a _ before turn (inl refl) (record { stays = c.act.ensures.shelf; archive = refl; disk = refl; spared = c.act.ensures.unused a (c.loop-taken.invariant.shelf.kept a held) })

pub returns-in-Kept-clause-reads : goal.returns-in-Kept-clause-reads
returns-in-Kept-clause-reads g c = λ a held.
    ahead-kept _ _ _ _ _ (c.loop-taken.invariant.reads a held) (c.in-Kept.ensures.reads a (c.loop-taken.invariant.shelf.kept a held))

pub returns-in-Kept-clause-unread : goal.returns-in-Kept-clause-unread
returns-in-Kept-clause-unread g c = λ a held quiet.
    bytes-quiet a (c.args.self.now ++ c.args.piece.now) _ _ (ahead-kept _ _ _ _ _ (c.loop-taken.invariant.reads a held) (c.in-Kept.ensures.reads a (c.loop-taken.invariant.shelf.kept a held))) quiet

pub returns-in-Closed-clause-reads : goal.returns-in-Closed-clause-reads
returns-in-Closed-clause-reads g c = λ a held.
    ahead-last _ _ _ _ _ (c.loop-taken.invariant.reads a held) (c.in-Closed.ensures.reads a (c.loop-taken.invariant.shelf.kept a held))

pub returns-in-Closed-clause-unread : goal.returns-in-Closed-clause-unread
returns-in-Closed-clause-unread g c = λ a held quiet.
    bytes-quiet a (c.args.self.now ++ c.args.piece.now) _ _ (ahead-last _ _ _ _ _ (c.loop-taken.invariant.reads a held) (c.in-Closed.ensures.reads a (c.loop-taken.invariant.shelf.kept a held))) quiet
