use Rattle.std.proofs.Common.{refl, sym, ap, inl, None}
use Rattle.arch_model.proofs.Shelving.{stays-same, stays-joined}
use Rattle.line_door.specs.Readers.{has_request, with_piece}
use Rattle.line_door.specs.Acts.{ConnectionState}
use Rattle.keep_course.specs.Courses.{ShelfActs}
use Rattle.keep_course.proofs.Courses.{coming-same, coming-more, coming-done, coming-last}
use Rattle.line_door.proofs.Turning.{last-kept}
use Rattle.shelf_doors.proofs.Reading.{ahead-none, ahead-more, ahead-kept, ahead-last}
use Rattle.pop3_reader.specs.Door.{PopClient, line_limit, pop_door, said}
use Rattle.pop3_reader.specs.Replies.{line_answered, too_long}
use Rattle.pop3_reader.proofs.session.Pop3Session.feed.Goals as goal

pub loop-taken-init : goal.loop-taken-init
loop-taken-init g c = record {
  going = λ a held. coming-same (ShelfActs g.S.Shelf pop_door) said (has_request line_limit) _ _;
  reads = ahead-none _ _;
  shelf = stays-same g.S.Shelf.holds g.S.Shelf.ready g.S.Shelf.alike g.S.Shelf.faults g.met.S.Shelf.alike_same c.args.shelf.now c.requires.ready;
  sink = g.met.O.Sink.alike_same _;
}

pub loop-taken-preserved : goal.loop-taken-preserved
loop-taken-preserved g c = rw c.split_at.ensures.back (record {
  going = λ a held.
      let turn = c.in-Went.ensures.turn a (c.loop-taken.invariant.shelf.kept a held) in
      coming-more (ShelfActs g.S.Shelf pop_door) said (has_request line_limit) c.args.shelf.now c.loop-taken.shelf c.act.new.shelf _ (with_piece line_limit c.loop-taken.rest.now c.loop-taken.self) a _ _ a _ (c.loop-taken.invariant.going a held) turn.0 turn.1 (record { stays = c.act.ensures.shelf; archive = refl; disk = refl; spared = c.act.ensures.unused a (c.loop-taken.invariant.shelf.kept a held) });
  reads = ahead-more _ _ _ _ _ _ c.loop-taken.invariant.reads c.in-Went.ensures.reads;
  shelf = stays-joined g.S.Shelf.holds g.S.Shelf.ready g.S.Shelf.alike g.S.Shelf.faults g.met.S.Shelf.alike_joined _ _ _ c.loop-taken.invariant.shelf c.act.ensures.shelf;
  sink = g.met.O.Sink.alike_joined _ _ _ c.loop-taken.invariant.sink c.act.ensures.sink;
})

pub returns-in-Kept-clause-fed : goal.returns-in-Kept-clause-fed
returns-in-Kept-clause-fed g c = λ a held.
    let turn = c.in-Kept.ensures.turn a (c.loop-taken.invariant.shelf.kept a held) in
    let before : PopClient = with_piece line_limit c.loop-taken.rest.now c.loop-taken.self in
    rw (turn.0, turn.2)
    (coming-done (ShelfActs g.S.Shelf pop_door) said (has_request line_limit) c.args.shelf.now c.loop-taken.shelf c.act.new.shelf _ _ _ (c.loop-taken.invariant.going a held) (last-kept line_limit line_answered too_long a before _ (rw turn.0 at turn.1)) (record { stays = c.act.ensures.shelf; archive = refl; disk = ap (λ (o : ConnectionState). o.disk) (sym turn.2); spared = λ _. refl }))

pub returns-in-Closed-clause-fed : goal.returns-in-Closed-clause-fed
returns-in-Closed-clause-fed g c = λ a held.
    let turn = c.in-Closed.ensures.turn a (c.loop-taken.invariant.shelf.kept a held) in
    coming-last (ShelfActs g.S.Shelf pop_door) said (has_request line_limit) c.args.shelf.now c.loop-taken.shelf c.act.new.shelf _ (with_piece line_limit c.loop-taken.rest.now c.loop-taken.self) a _ None a _ (c.loop-taken.invariant.going a held) turn (inl refl) (record { stays = c.act.ensures.shelf; archive = refl; disk = refl; spared = c.act.ensures.unused a (c.loop-taken.invariant.shelf.kept a held) })

pub returns-in-Kept-clause-reads : goal.returns-in-Kept-clause-reads
returns-in-Kept-clause-reads g c = ahead-kept _ _ _ _ _ c.loop-taken.invariant.reads c.in-Kept.ensures.reads

pub returns-in-Closed-clause-reads : goal.returns-in-Closed-clause-reads
returns-in-Closed-clause-reads g c = ahead-last _ _ _ _ _ c.loop-taken.invariant.reads c.in-Closed.ensures.reads
