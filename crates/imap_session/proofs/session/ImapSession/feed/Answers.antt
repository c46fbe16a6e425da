use Rattle.std.proofs.Common.{refl, sym, ap, inl, None}
use Rattle.arch_model.proofs.Shelving.{stays-same, stays-joined}
use Rattle.line_door.specs.Acts.{ConnectionState}
use Rattle.keep_course.specs.Courses.{ShelfActs}
use Rattle.keep_course.proofs.Courses.{coming-same, coming-more, coming-done, coming-last}
use Rattle.shelf_doors.proofs.Reading.{ahead-none, ahead-more, ahead-kept, ahead-last}
use Rattle.imap_framer.specs.Doors.{framed_more}
use Rattle.imap_commands.proofs.Leaving.{laws_hold}
use Rattle.imap_session.specs.Door.{ImapClient, said, has_request, imap_door}
use Rattle.imap_session.proofs.Acting.{last-kept, went-suits, kept-suits}
use Rattle.imap_session.proofs.session.ImapSession.feed.Goals as goal

pub loop-taken-init : goal.loop-taken-init
loop-taken-init g c = record {
  going = λ a held suits. coming-same (ShelfActs g.S.Shelf imap_door) said has_request _ _;
  suits = λ a held suits. suits;
  reads = λ a held suits. ahead-none _ _;
  shelf = stays-same g.S.Shelf.holds g.S.Shelf.ready g.S.Shelf.alike g.S.Shelf.faults g.met.S.Shelf.alike_same c.args.shelf.now c.requires.ready;
  sink = g.met.O.Sink.alike_same _;
}

pub loop-taken-preserved : goal.loop-taken-preserved
loop-taken-preserved g c = rw c.split_at.ensures.back (record {
  going = λ a held suits.
      let kept = c.loop-taken.invariant.shelf.kept a held in
      let turn = c.in-Went.ensures.turn a kept (c.loop-taken.invariant.suits a held suits) in
      coming-more (ShelfActs g.S.Shelf imap_door) said has_request c.args.shelf.now c.loop-taken.shelf c.act.new.shelf _ (framed_more c.loop-taken.rest.now c.loop-taken.self) a _ _ a _ (c.loop-taken.invariant.going a held suits) turn.0 turn.1
      (record { stays = c.act.ensures.shelf; archive = refl; disk = refl; spared = c.act.ensures.unused a kept });
  suits = λ a held suits.
      let kept = c.loop-taken.invariant.shelf.kept a held in
      let now = c.loop-taken.invariant.suits a held suits in
      went-suits laws_hold.suit a c.loop-taken.self c.loop-taken.rest.now c.in-Went.taken c.act.new.self _ _ now (c.in-Went.ensures.turn a kept now);
  reads = λ a held suits.
      ahead-more _ _ _ _ _ _ (c.loop-taken.invariant.reads a held suits) (c.in-Went.ensures.reads a (c.loop-taken.invariant.shelf.kept a held) (c.loop-taken.invariant.suits a held suits));
  shelf = stays-joined g.S.Shelf.holds g.S.Shelf.ready g.S.Shelf.alike g.S.Shelf.faults g.met.S.Shelf.alike_joined _ _ _ c.loop-taken.invariant.shelf c.act.ensures.shelf;
  sink = g.met.O.Sink.alike_joined _ _ _ c.loop-taken.invariant.sink c.act.ensures.sink;
})

pub returns-in-Kept-clause-fed : goal.returns-in-Kept-clause-fed
returns-in-Kept-clause-fed g c = λ a held suits.
    let kept = c.loop-taken.invariant.shelf.kept a held in
    let turn = c.in-Kept.ensures.turn a kept (c.loop-taken.invariant.suits a held suits) in
    let before : ImapClient = framed_more c.loop-taken.rest.now c.loop-taken.self in
    rw (turn.0, turn.1)
    (coming-done (ShelfActs g.S.Shelf imap_door) said has_request c.args.shelf.now c.loop-taken.shelf c.act.new.shelf _ _ _ (c.loop-taken.invariant.going a held suits) (last-kept a before _ (rw turn.0 at c.in-Kept.ensures.takes))
    (record { stays = c.act.ensures.shelf; archive = refl; disk = ap (λ (o : ConnectionState). o.disk) (sym turn.1); spared = λ _. refl }))

pub returns-in-Closed-clause-fed : goal.returns-in-Closed-clause-fed
returns-in-Closed-clause-fed g c = λ a held suits.
    let kept = c.loop-taken.invariant.shelf.kept a held in
    let turn = c.in-Closed.ensures.turn a kept (c.loop-taken.invariant.suits a held suits) in
    coming-last (ShelfActs g.S.Shelf imap_door) said has_request c.args.shelf.now c.loop-taken.shelf c.act.new.shelf _ (framed_more c.loop-taken.rest.now c.loop-taken.self) a _ None a _ (c.loop-taken.invariant.going a held suits) turn (inl refl)
    (record { stays = c.act.ensures.shelf; archive = refl; disk = refl; spared = c.act.ensures.unused a kept })

pub returns-in-Kept-clause-suits : goal.returns-in-Kept-clause-suits
returns-in-Kept-clause-suits g c = λ a held suits on.
    let kept = c.loop-taken.invariant.shelf.kept a held in
    let now = c.loop-taken.invariant.suits a held suits in
    kept-suits a c.loop-taken.self c.loop-taken.rest.now c.act.new.self _ _ now (c.in-Kept.ensures.turn a kept now)

pub returns-in-Kept-clause-reads : goal.returns-in-Kept-clause-reads
returns-in-Kept-clause-reads g c = λ a held suits.
    ahead-kept _ _ _ _ _ (c.loop-taken.invariant.reads a held suits) (c.in-Kept.ensures.reads a (c.loop-taken.invariant.shelf.kept a held) (c.loop-taken.invariant.suits a held suits))

pub returns-in-Closed-clause-reads : goal.returns-in-Closed-clause-reads
returns-in-Closed-clause-reads g c = λ a held suits.
    ahead-last _ _ _ _ _ (c.loop-taken.invariant.reads a held suits) (c.in-Closed.ensures.reads a (c.loop-taken.invariant.shelf.kept a held) (c.loop-taken.invariant.suits a held suits))
