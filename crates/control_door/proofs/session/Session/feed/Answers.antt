use Rattle.std.proofs.Common.{◌++◌, true, refl, inl, inr, arith}
use Rattle.arch_model.specs.KeeperRecord.{keeper}
use Rattle.keep_course.specs.Courses.{KeeperActs}
use Rattle.keep_course.proofs.Courses.{coming-same, coming-more, coming-last, ended}
use Rattle.control_door.specs.Counting.{asks_for}
use Rattle.control_door.specs.Door.{waiting, said, has_request, control_at}
use Rattle.control_door.specs.Requests.{is_request}
use Rattle.control_door.proofs.Counting.{left-all, left-opened, left-went, left-kept, left-closed}
use Rattle.control_door.proofs.session.Session.feed.Goals as goal

pub loop-opened-init : goal.loop-opened-init
loop-opened-init g c = record {
  going = λ s fits. (s, fits, coming-same (KeeperActs (keeper g.K.Shelf g.K.Keep) (control_at c.args.moment)) (said c.args.moment) has_request c.args.keep.now _);
  reads = left-all (asks_for (c.args.self.now ++ c.args.piece.now)) _ _ _ c.requires.ready;
  ready = λ _. c.requires.ready;
  later = omega arith;
  sink = g.met.O.Sink.alike_same _;
}

pub loop-opened-preserved-in-Opened : goal.loop-opened-preserved-in-Opened
loop-opened-preserved-in-Opened g c = record {
  going = λ s fits.
      let before = c.loop-opened.invariant.going s fits in
      let turn = c.in-Opened.ensures.turn before.0 before.1 in (
        turn.0,
        turn.1.fits,
        coming-more (KeeperActs (keeper g.K.Shelf g.K.Keep) (control_at c.args.moment)) (said c.args.moment) has_request c.args.keep.now c.loop-opened.keep c.act.new.keep _ (waiting (c.loop-opened.self ++ c.loop-opened.rest.now) c.loop-opened.opened) before.0 _ _ turn.0 _ before.2 turn.2.0 turn.2.1 (record { moves = turn.1; disk = refl; does = turn.3 }),
      );
  reads = rw (c.act.ensures.held c.in-Opened.is)
      (left-opened _ _ (is_request (c.loop-opened.self ++ c.loop-opened.rest.now)) _ _ _ _ _ c.loop-opened.invariant.reads c.in-Opened.ensures.reads c.in-Opened.ensures.rest);
  ready = λ _. c.act.ensures.ready c.in-Opened.is;
  later = omega (arith, c.loop-opened.invariant.later, c.act.ensures.later);
  sink = g.met.O.Sink.alike_joined _ _ _ c.loop-opened.invariant.sink c.act.ensures.sink;
}

pub loop-opened-preserved : goal.loop-opened-preserved
loop-opened-preserved g c = rw c.split_at.ensures.back (record {
  going = λ s fits.
      let before = c.loop-opened.invariant.going s fits in
      let turn = c.in-Went.ensures.turn before.0 before.1 in (
        turn.0,
        turn.1.fits,
        coming-more (KeeperActs (keeper g.K.Shelf g.K.Keep) (control_at c.args.moment)) (said c.args.moment) has_request c.args.keep.now c.loop-opened.keep c.act.new.keep _ (waiting (c.loop-opened.self ++ c.loop-opened.rest.now) c.loop-opened.opened) before.0 _ _ turn.0 _ before.2 turn.2.0 turn.2.1 (record { moves = turn.1; disk = refl; does = turn.3 }),
      );
  reads = left-went _ _ (is_request (c.loop-opened.self ++ c.loop-opened.rest.now)) _ _ _ _ _ _ _ c.loop-opened.invariant.reads c.in-Went.ensures.reads c.in-Went.ensures.rest;
  ready = λ h. absurd (cc h);
  later = omega (arith, c.loop-opened.invariant.later, c.act.ensures.later);
  sink = g.met.O.Sink.alike_joined _ _ _ c.loop-opened.invariant.sink c.act.ensures.sink;
})

pub returns-in-Kept-clause-fed : goal.returns-in-Kept-clause-fed
returns-in-Kept-clause-fed g c = λ s fits.
    let before = c.loop-opened.invariant.going s fits in
    let turn = c.in-Kept.ensures.turn before.0 before.1 in (
      turn.0,
      c.loop-opened.opened,
      turn.1.fits,
      ended (keeper g.K.Shelf g.K.Keep) (control_at c.args.moment) c.args.keep.now c.act.new.keep _ _ fits
          (coming-last (KeeperActs (keeper g.K.Shelf g.K.Keep) (control_at c.args.moment)) (said c.args.moment) has_request c.args.keep.now c.loop-opened.keep c.act.new.keep _ (waiting (c.loop-opened.self ++ c.loop-opened.rest.now) c.loop-opened.opened) before.0 _ _ turn.0 _ before.2 turn.2.2 (inr (turn.2.0, turn.2.1)) (record { moves = turn.1; disk = refl; does = turn.3 })),
    )

pub returns-in-Closed-clause-fed : goal.returns-in-Closed-clause-fed
returns-in-Closed-clause-fed g c = λ s fits.
    let before = c.loop-opened.invariant.going s fits in
    let turn = c.in-Closed.ensures.turn before.0 before.1 in (
      turn.0,
      true,
      turn.1.fits,
      ended (keeper g.K.Shelf g.K.Keep) (control_at c.args.moment) c.args.keep.now c.act.new.keep _ _ fits
          (coming-last (KeeperActs (keeper g.K.Shelf g.K.Keep) (control_at c.args.moment)) (said c.args.moment) has_request c.args.keep.now c.loop-opened.keep c.act.new.keep _ (waiting (c.loop-opened.self ++ c.loop-opened.rest.now) c.loop-opened.opened) before.0 _ _ turn.0 _ before.2 turn.2 (inl refl) (record { moves = turn.1; disk = refl; does = turn.3 })),
    )

pub returns-in-Kept-clause-reads : goal.returns-in-Kept-clause-reads
returns-in-Kept-clause-reads g c =
    left-kept _ _ (is_request (c.loop-opened.self ++ c.loop-opened.rest.now)) _ _ _ _ _ c.loop-opened.invariant.reads c.in-Kept.ensures.reads c.in-Kept.ensures.rest

pub returns-in-Closed-clause-reads : goal.returns-in-Closed-clause-reads
returns-in-Closed-clause-reads g c =
    left-closed _ _ (is_request (c.loop-opened.self ++ c.loop-opened.rest.now)) _ _ _ _ _ c.loop-opened.invariant.reads c.in-Closed.ensures.reads c.in-Closed.ensures.rest
