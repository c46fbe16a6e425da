use Rattle.std.proofs.Common.{refl, sym, ap, inl, None}
use Rattle.line_door.specs.Acts.{ConnectionState}
use Rattle.keep_course.specs.Courses.{ShelfActs}
use Rattle.keep_course.proofs.Courses.{coming-same, coming-more, coming-done, coming-last}
use Rattle.arch_model.proofs.Shelving.{stays-same, stays-joined}
use Rattle.line_door.specs.Clipped.{longest_line}
use Rattle.line_door.specs.Readers.{has_request, with_piece}
use Rattle.line_door.proofs.Turning.{last-kept}
use Rattle.shelf_doors.proofs.Reading.{ahead-none, ahead-more, ahead-kept, ahead-last}
use Rattle.nntp_reader.specs.Door.{Reader, news_at, said}
use Rattle.nntp_reader.specs.Replies.{line_answered, too_long}
use Rattle.nntp_reader.proofs.session.NntpSession.feed.Goals as goal

pub loop-taken-init : goal.loop-taken-init
loop-taken-init g c = record {
  going = λ a held. coming-same (ShelfActs g.S.Shelf (news_at c.args.moment)) (said c.args.moment) (has_request longest_line) _ _;
  reads = λ a held. ahead-none _ _;
  shelf = stays-same g.S.Shelf.holds g.S.Shelf.ready g.S.Shelf.alike g.S.Shelf.faults g.met.S.Shelf.alike_same c.args.shelf.now c.requires.ready;
  sink = g.met.O.Sink.alike_same _;
}

pub loop-taken-preserved : goal.loop-taken-preserved
loop-taken-preserved g c = rw c.split_at.ensures.back (record {
  going = λ a held.
      let turn = c.in-Went.ensures.turn a (c.loop-taken.invariant.shelf.kept a held) in
      coming-more (ShelfActs g.S.Shelf (news_at c.args.moment)) (said c.args.moment) (has_request longest_line) c.args.shelf.now c.loop-taken.shelf c.act.new.shelf _ (with_piece longest_line c.loop-taken.rest.now c.loop-taken.self) a _ _ a _ (c.loop-taken.invariant.going a held) turn.0 turn.1 (record { stays = c.act.ensures.shelf; archive = refl; disk = refl; spared = c.act.ensures.unused a (c.loop-taken.invariant.shelf.kept a held) });
  reads = λ a held. ahead-more _ _ _ _ _ _ (c.loop-taken.invariant.reads a held) (c.in-Went.ensures.reads a (c.loop-taken.invariant.shelf.kept a held));
  shelf = stays-joined g.S.Shelf.holds g.S.Shelf.ready g.S.Shelf.alike g.S.Shelf.faults g.met.S.Shelf.alike_joined _ _ _ c.loop-taken.invariant.shelf c.act.ensures.shelf;
  sink = g.met.O.Sink.alike_joined _ _ _ c.loop-taken.invariant.sink c.act.ensures.sink;
})

pub returns-in-Kept-clause-fed : goal.returns-in-Kept-clause-fed
returns-in-Kept-clause-fed g c = λ a held.
    let turn = c.in-Kept.ensures.turn a (c.loop-taken.invariant.shelf.kept a held) in
    let before : Reader = with_piece longest_line c.loop-taken.rest.now c.loop-taken.self in
    rw (turn.0, turn.2)
    (coming-done (ShelfActs g.S.Shelf (news_at c.args.moment)) (said c.args.moment) (has_request longest_line) c.args.shelf.now c.loop-taken.shelf c.act.new.shelf _ _ _ (c.loop-taken.invariant.going a held) (last-kept longest_line (line_answered c.args.moment) too_long a before _ (rw turn.0 at turn.1)) (record { stays = c.act.ensures.shelf; archive = refl; disk = ap (λ (o : ConnectionState). o.disk) (sym turn.2); spared = λ _. refl }))

pub returns-in-Closed-clause-fed : goal.returns-in-Closed-clause-fed
returns-in-Closed-clause-fed g c = λ a held.
    let turn = c.in-Closed.ensures.turn a (c.loop-taken.invariant.shelf.kept a held) in
    coming-last (ShelfActs g.S.Shelf (news_at c.args.moment)) (said c.args.moment) (has_request longest_line) c.args.shelf.now c.loop-taken.shelf c.act.new.shelf _ (with_piece longest_line c.loop-taken.rest.now c.loop-taken.self) a _ None a _ (c.loop-taken.invariant.going a held) turn (inl refl) (record { stays = c.act.ensures.shelf; archive = refl; disk = refl; spared = c.act.ensures.unused a (c.loop-taken.invariant.shelf.kept a held) })

pub returns-in-Kept-clause-reads : goal.returns-in-Kept-clause-reads
returns-in-Kept-clause-reads g c = λ a held.
    ahead-kept _ _ _ _ _ (c.loop-taken.invariant.reads a held) (c.in-Kept.ensures.reads a (c.loop-taken.invariant.shelf.kept a held))

pub returns-in-Closed-clause-reads : goal.returns-in-Closed-clause-reads
returns-in-Closed-clause-reads g c = λ a held.
    ahead-last _ _ _ _ _ (c.loop-taken.invariant.reads a held) (c.in-Closed.ensures.reads a (c.loop-taken.invariant.shelf.kept a held))
