use Rattle.std.proofs.Common.{◌++◌, ◌∙◌, inl, inr, refl, sym, ap}
use Rattle.arch_model.specs.KeeperRecord.{keeper}
use Rattle.arch_model.specs.Next.{continues}
use Rattle.control_door.specs.Sessions.{request_of}
use Rattle.control_door.proofs.Answering.{turns-answered, turns-opened, turns-held}
use Rattle.control_door.proofs.Counting.{turn-reads, opened-reads, rest-reads, rest-is, never-rest, never-opened}
use Rattle.control_door.proofs.Holding.{held-unfinished}
use Rattle.control_door.proofs.session.Session.act.Goals as goal

pub returns-in-Rest-clause-turn : goal.returns-in-Rest-clause-turn
returns-in-Rest-clause-turn g c = turns-held (keeper g.K.Shelf g.K.Keep) c.args.moment c.args.opened c.args.self.now c.args.piece.now c.args.keep.now _ c.hold.result _ _ (held-unfinished (c.args.self.now ++ c.args.piece.now) c.in-Rest.payload c.in-Rest.ensures) (g.met.K.Shelf.alike_same c.args.keep.now) refl (λ s. c.hold.ensures.turn c.args.moment (g.K.Shelf.faults c.args.keep.now) c.args.opened s)

pub returns-then-not-opened-clause-turn : goal.returns-then-not-opened-clause-turn
returns-then-not-opened-clause-turn g c = rw (c.reopened.ensures, c.if-not-opened.true)
    (turns-opened (keeper g.K.Shelf g.K.Keep) c.args.moment c.args.self.now c.args.piece.now (request_of c.args.self.now c.in-Whole.request) c.in-Whole.taken _ _ _ _ (continues c.reopen.result) c.in-Whole.ensures.stands
    c.reopen.ensures.acts)

pub returns-else-not-opened-clause-turn : goal.returns-else-not-opened-clause-turn
returns-else-not-opened-clause-turn g c = rw (c.went.ensures, c.if-not-opened.false)
    (turns-answered (keeper g.K.Shelf g.K.Keep) c.args.moment c.args.self.now c.args.piece.now (request_of c.args.self.now c.in-Whole.request) c.in-Whole.taken _ _ _ _ _ (continues c.say_requested-next.result)
    (c.requires.ready c.if-not-opened.false) c.in-Whole.ensures.stands c.truncate.ensures (rw c.self.view_is at c.say_requested-next.ensures.acts))

pub returns-in-Rest-clause-held : goal.returns-in-Rest-clause-held
returns-in-Rest-clause-held g c = λ opened. (elim c.hold.ensures.ends [
  | inl kept ↦ absurd (cc (sym opened ∙ kept))
  | inr closed ↦ absurd (cc (sym opened ∙ closed))
])

pub returns-in-Rest-clause-reads : goal.returns-in-Rest-clause-reads
returns-in-Rest-clause-reads g c = λ ready. rest-reads c.args.self.now c.args.piece.now c.hold.result _ _ _ (held-unfinished (c.args.self.now ++ c.args.piece.now) c.in-Rest.payload c.in-Rest.ensures) c.hold.ensures.ends ready

pub returns-in-Rest-clause-rest : goal.returns-in-Rest-clause-rest
returns-in-Rest-clause-rest g c = λ none. rest-is c.hold.result _ c.hold.ensures.ends

pub returns-then-not-opened-clause-reads : goal.returns-then-not-opened-clause-reads
returns-then-not-opened-clause-reads g c = λ ready.
    let still = c.reopen.ensures.nothing ready in
    rw c.reopened.ensures (opened-reads c.args.self.now c.args.piece.now c.args.self.now (continues c.reopen.result) _ _ _ still.0 (ap g.K.Shelf.ready still.1 ∙ ready) (ap g.K.Shelf.reads still.1))

pub returns-then-not-opened-clause-rest : goal.returns-then-not-opened-clause-rest
returns-then-not-opened-clause-rest g c = λ none. never-rest (c.args.self.now ++ c.args.piece.now) (request_of c.args.self.now c.in-Whole.request) _ _ _ _ c.in-Whole.ensures.stands none

pub returns-else-not-opened-clause-held : goal.returns-else-not-opened-clause-held
returns-else-not-opened-clause-held g c = λ opened. absurd (never-opened c.in-Whole.taken (continues c.say_requested-next.result) (sym c.went.ensures ∙ opened))

pub returns-else-not-opened-clause-reads : goal.returns-else-not-opened-clause-reads
returns-else-not-opened-clause-reads g c = λ ready. rw c.went.ensures
    (turn-reads c.args.self.now c.args.piece.now (request_of c.args.self.now c.in-Whole.request) c.in-Whole.taken _ (continues c.say_requested-next.result) _ _ _ c.in-Whole.ensures.stands c.truncate.ensures (rw c.self.view_is at c.say_requested-next.ensures.closes) (rw c.self.view_is at c.say_requested-next.ensures.reads))

pub returns-else-not-opened-clause-rest : goal.returns-else-not-opened-clause-rest
returns-else-not-opened-clause-rest g c = λ none. never-rest (c.args.self.now ++ c.args.piece.now) (request_of c.args.self.now c.in-Whole.request) _ _ _ _ c.in-Whole.ensures.stands none
