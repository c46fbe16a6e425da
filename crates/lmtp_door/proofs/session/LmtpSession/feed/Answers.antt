use Rattle.std.proofs.Common.{◌∙◌, refl, inl, inr, ap, sym, subst, arith, Option, Some, None}
use Rattle.arch_base.specs.declared.config.Config.{Config}
use Rattle.arch_model.specs.Archives.{Archive}
use Rattle.lmtp_door.specs.Sessions.{DoubtHasName}
use Rattle.std.proofs.lemmas.Bool.{false≢true}
use Rattle.arch_model.specs.KeeperRecord.{keeper}
use Rattle.keep_course.specs.Courses.{KeeperActs}
use Rattle.keep_course.proofs.Courses.{coming-same, coming-more, coming-last, ended}
use Rattle.lmtp_door.specs.Courses.{at_work}
use Rattle.lmtp_door.specs.Door.{Guest, said, has_request, lmtp_at}
use Rattle.lmtp_door.proofs.session.LmtpSession.feed.Goals as goal

pub loop-opened-init : goal.loop-opened-init
loop-opened-init g c = record {
  going = λ s fits.
      let settled = fits.settled c.requires.ready in
      (s, fits, (sym (c.copy-name.ensures ∙ ap (λ (x : Config). x.name) (c.config.ensures s.archive settled.0)), subst (λ (d : Option Archive). DoubtHasName c.copy-name.result d) (sym settled.1) tt), coming-same (KeeperActs (keeper g.K.Shelf g.K.Keep) (lmtp_at c.args.moment)) (said c.args.moment) has_request c.args.keep.now _);
  ready = λ _. c.requires.ready;
  later = omega arith;
  sink = g.met.O.Sink.alike_same _;
}

pub loop-opened-preserved-in-Opened : goal.loop-opened-preserved-in-Opened
loop-opened-preserved-in-Opened g c = record {
  going = λ s fits.
      let before = c.loop-opened.invariant.going s fits in
      let turn = c.in-Opened.ensures.turn before.0 before.1 before.2 in (
        turn.0,
        turn.1.fits,
        turn.2,
        coming-more (KeeperActs (keeper g.K.Shelf g.K.Keep) (lmtp_at c.args.moment)) (said c.args.moment) has_request c.args.keep.now c.loop-opened.keep c.act.new.keep _ (at_work c.loop-opened.self c.loop-opened.rest.now c.loop-opened.opened) before.0 _ _ turn.0 _ before.3 turn.3.0 turn.3.1
            (record { moves = turn.1; disk = refl; does = turn.4 }),
      );
  ready = λ _. c.in-Opened.ensures.ready;
  later = omega (arith, c.loop-opened.invariant.later, c.act.ensures.later);
  sink = g.met.O.Sink.alike_joined _ _ _ c.loop-opened.invariant.sink c.act.ensures.sink;
}

pub loop-opened-preserved-in-Went : goal.loop-opened-preserved-in-Went
loop-opened-preserved-in-Went g c = rw c.split_at.ensures.back (record {
  going = λ s fits.
      let before = c.loop-opened.invariant.going s fits in
      let turn = c.in-Went.ensures.turn before.0 before.1 before.2 in (
        turn.0,
        turn.1.fits,
        turn.2,
        coming-more (KeeperActs (keeper g.K.Shelf g.K.Keep) (lmtp_at c.args.moment)) (said c.args.moment) has_request c.args.keep.now c.loop-opened.keep c.act.new.keep _ (at_work c.loop-opened.self c.loop-opened.rest.now c.loop-opened.opened) before.0 _ _ turn.0 _ before.3 turn.3.0 turn.3.1
            (record { moves = turn.1; disk = refl; does = turn.4 }),
      );
  ready = λ opened. c.in-Went.ensures.ready ∙ c.loop-opened.invariant.ready opened;
  later = omega (arith, c.loop-opened.invariant.later, c.act.ensures.later);
  sink = g.met.O.Sink.alike_joined _ _ _ c.loop-opened.invariant.sink c.act.ensures.sink;
})

pub loop-opened-preserved : goal.loop-opened-preserved
loop-opened-preserved g c = record {
  going = λ s fits.
      let before = c.loop-opened.invariant.going s fits in
      let turn = c.in-Gave.ensures.turn before.0 before.1 before.2 in (
        turn.0,
        turn.1.fits,
        turn.2,
        coming-more (KeeperActs (keeper g.K.Shelf g.K.Keep) (lmtp_at c.args.moment)) (said c.args.moment) has_request c.args.keep.now c.loop-opened.keep c.act.new.keep _ (at_work c.loop-opened.self c.loop-opened.rest.now c.loop-opened.opened) before.0 _ _ turn.0 _ before.3 turn.3.0 turn.3.1
            (record { moves = turn.1; disk = refl; does = turn.4 }),
      );
  ready = λ never. absurd (false≢true never);
  later = omega (arith, c.loop-opened.invariant.later, c.act.ensures.later);
  sink = g.met.O.Sink.alike_joined _ _ _ c.loop-opened.invariant.sink c.act.ensures.sink;
}

pub returns-in-Kept-clause-fed : goal.returns-in-Kept-clause-fed
returns-in-Kept-clause-fed g c = λ s fits.
    let before = c.loop-opened.invariant.going s fits in
    let turn = c.in-Kept.ensures.turn before.0 before.1 before.2 in (
      turn.0,
      Some (at_work c.loop-opened.self c.loop-opened.rest.now c.loop-opened.opened),
      turn.1.fits,
      ap (λ (x : Guest). Some x) turn.3.2,
      ended (keeper g.K.Shelf g.K.Keep) (lmtp_at c.args.moment) c.args.keep.now c.act.new.keep _ _ fits
          (coming-last (KeeperActs (keeper g.K.Shelf g.K.Keep) (lmtp_at c.args.moment)) (said c.args.moment) has_request c.args.keep.now c.loop-opened.keep c.act.new.keep _ (at_work c.loop-opened.self c.loop-opened.rest.now c.loop-opened.opened) before.0 _ _ turn.0 _ before.3 turn.3.3 (inr (turn.3.0, turn.3.1))
          (record { moves = turn.1; disk = refl; does = turn.4 })),
    )

pub returns-in-Closed-clause-fed : goal.returns-in-Closed-clause-fed
returns-in-Closed-clause-fed g c = λ s fits.
    let before = c.loop-opened.invariant.going s fits in
    let turn = c.in-Closed.ensures.turn before.0 before.1 before.2 in (
      turn.0,
      None,
      turn.1.fits,
      refl,
      ended (keeper g.K.Shelf g.K.Keep) (lmtp_at c.args.moment) c.args.keep.now c.act.new.keep _ _ fits
          (coming-last (KeeperActs (keeper g.K.Shelf g.K.Keep) (lmtp_at c.args.moment)) (said c.args.moment) has_request c.args.keep.now c.loop-opened.keep c.act.new.keep _ (at_work c.loop-opened.self c.loop-opened.rest.now c.loop-opened.opened) before.0 _ _ turn.0 _ before.3 turn.3 (inl refl)
          (record { moves = turn.1; disk = refl; does = turn.4 })),
    )
