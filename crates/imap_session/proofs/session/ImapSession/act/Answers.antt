use Rattle.std.proofs.Common.{ap, refl}
use Rattle.arch_model.specs.Next.{continues}
use Rattle.imap_framer.specs.Framing.{with_octets}
use Rattle.imap_framer.specs.Doors.{is_answered}
use Rattle.shelf_doors.proofs.Reading.{reads-still}
use Rattle.imap_session.proofs.Acting.{last-at, literal-at, turn-last, turn-literal, turn-excess, suits-inside, part-reads, front-reads}
use Rattle.imap_session.proofs.session.ImapSession.act.Goals as goal

pub returns-in-Last-clause-turn : goal.returns-in-Last-clause-turn
returns-in-Last-clause-turn g c = λ a held suits.
    let is = last-at c.args.self.now c.self.inside.state c.self.inside.framer c.is_idle.result c.args.piece.now c.self.view_is c.is_idle.ensures c.split_at.result.0.now c.in-Last.used c.in-Last.ensures c.split_at.ensures.front in
    rw c.went.ensures
    (turn-last a _ _ c.args.self.now.0 c.answer.new.self.0 c.args.self.now.1 c.answer.new.self.1 c.args.piece.now c.in-Last.used (continues c.answer.result) c.split_at.result.0.now is c.answer.ensures.dropped (c.answer.ensures.acts a held suits))

pub returns-in-Last-clause-reads : goal.returns-in-Last-clause-reads
returns-in-Last-clause-reads g c = λ a held suits.
    let is = last-at c.args.self.now c.self.inside.state c.self.inside.framer c.is_idle.result c.args.piece.now c.self.view_is c.is_idle.ensures c.split_at.result.0.now c.in-Last.used c.in-Last.ensures c.split_at.ensures.front in
    rw c.went.ensures
    (part-reads a c.args.self.now.0 c.answer.new.self.0 c.args.self.now.1 c.answer.new.self.1 c.args.piece.now c.in-Last.used _ _ _ _ (continues c.answer.result) (ap is_answered is)
    (turn-last a _ _ c.args.self.now.0 c.answer.new.self.0 c.args.self.now.1 c.answer.new.self.1 c.args.piece.now c.in-Last.used (continues c.answer.result) c.split_at.result.0.now is c.answer.ensures.dropped (c.answer.ensures.acts a held suits))
    (front-reads a (c.args.self.now.0, with_octets c.args.self.now.1 c.args.piece.now) _ _ _ _ is refl (c.answer.ensures.reads a held)))

pub returns-in-Literal-clause-turn : goal.returns-in-Literal-clause-turn
returns-in-Literal-clause-turn g c = λ a held suits.
    let is = literal-at c.args.self.now c.self.inside.state c.self.inside.framer c.is_idle.result c.args.piece.now c.self.view_is c.is_idle.ensures c.split_at-in-Literal.result.0.now c.in-Literal.used c.in-Literal.octets c.in-Literal.ensures c.split_at-in-Literal.ensures.front in
    rw c.went-in-Literal.ensures
    (turn-literal a _ _ c.args.self.now.0 c.begin.new.self.0 c.args.self.now.1 c.begin.new.self.1 c.args.piece.now c.in-Literal.used (continues c.begin.result) c.split_at-in-Literal.result.0.now c.in-Literal.octets is c.begin.ensures.held (c.begin.ensures.acts a (g.S.Shelf.faults c.args.shelf.now)))

pub returns-in-Literal-clause-reads : goal.returns-in-Literal-clause-reads
returns-in-Literal-clause-reads g c = λ a held suits.
    let is = literal-at c.args.self.now c.self.inside.state c.self.inside.framer c.is_idle.result c.args.piece.now c.self.view_is c.is_idle.ensures c.split_at-in-Literal.result.0.now c.in-Literal.used c.in-Literal.octets c.in-Literal.ensures c.split_at-in-Literal.ensures.front in
    rw c.went-in-Literal.ensures
    (part-reads a c.args.self.now.0 c.begin.new.self.0 c.args.self.now.1 c.begin.new.self.1 c.args.piece.now c.in-Literal.used _ _ _ _ (continues c.begin.result) (ap is_answered is)
    (turn-literal a _ _ c.args.self.now.0 c.begin.new.self.0 c.args.self.now.1 c.begin.new.self.1 c.args.piece.now c.in-Literal.used (continues c.begin.result) c.split_at-in-Literal.result.0.now c.in-Literal.octets is c.begin.ensures.held (c.begin.ensures.acts a (g.S.Shelf.faults c.args.shelf.now)))
    (front-reads a (c.args.self.now.0, with_octets c.args.self.now.1 c.args.piece.now) _ _ _ _ is refl (reads-still 0 _)))

pub returns-in-TooLong-clause-turn : goal.returns-in-TooLong-clause-turn
returns-in-TooLong-clause-turn g c = λ a held suits.
    turn-excess c.args.self.now c.self.inside.state c.self.inside.framer c.is_idle.result c.args.piece.now c.self.view_is c.is_idle.ensures a _ _ _ c.in-TooLong.ensures
    (c.say_too_long.ensures.acts a (g.S.Shelf.faults c.args.shelf.now) held (suits-inside c.args.self.now c.self.inside.state c.self.inside.framer c.is_idle.result c.args.piece.now c.self.view_is c.is_idle.ensures a suits))
