use Rattle.std.proofs.Common.{refl}
use Rattle.arch_model.specs.KeeperRecord.{keeper}
use Rattle.node_serve.specs.Nodes.{places_of}
use Rattle.node_serve.proofs.Turning.{acts-still, same-world, ended-world}
use Rattle.node_serve.proofs.node.Node.act.Goals as goal

pub returns-in-Opened-clause-acted : goal.returns-in-Opened-clause-acted
returns-in-Opened-clause-acted g c = rw (← c.self.view_is) (λ s fits suit.
    acts-still (keeper g.K.Shelf g.K.Keep) (c.args.event.now, c.args.piece.now) s c.self.inside.keep c.self.inside.sessions.entries c.admit.new.sessions.entries c.self.inside.idling c.noted-self-inside.result _ _ fits (rw c.in-Opened.is (c.admit.ensures.made (g.K.Shelf.faults c.self.inside.keep) s, refl)) (rw c.in-Opened.is refl))

pub returns-in-Bytes-clause-acted : goal.returns-in-Bytes-clause-acted
returns-in-Bytes-clause-acted g c = rw (← c.self.view_is, c.in-Bytes.is) (c.feed.ensures.acted _ c.self.inside.idling c.noted-self-inside-in-Bytes.result)

pub returns-in-Ended-clause-acted : goal.returns-in-Ended-clause-acted
returns-in-Ended-clause-acted g c = rw (← c.self.view_is) (λ s fits suit.
    acts-still (keeper g.K.Shelf g.K.Keep) (c.args.event.now, c.args.piece.now) s c.self.inside.keep c.self.inside.sessions.entries c.end.new.sessions.entries c.self.inside.idling c.noted-self-inside-in-Ended.result _ _ fits (rw c.in-Ended.is (ended-world c.in-Ended.conn (places_of c.self.inside.sessions.entries) (places_of c.end.new.sessions.entries) s _ c.end.ensures, refl)) (rw c.in-Ended.is refl))

pub returns-in-Quiet-clause-acted : goal.returns-in-Quiet-clause-acted
returns-in-Quiet-clause-acted g c = rw (← c.self.view_is) (λ s fits suit.
    acts-still (keeper g.K.Shelf g.K.Keep) (c.args.event.now, c.args.piece.now) s c.self.inside.keep c.self.inside.sessions.entries c.self.inside.sessions.entries c.self.inside.idling c.self.inside.idling _ _ fits (rw c.in-Quiet.is (same-world (keeper g.K.Shelf g.K.Keep) s _ _, refl)) (rw c.in-Quiet.is refl))

pub returns-in-Stop-clause-acted : goal.returns-in-Stop-clause-acted
returns-in-Stop-clause-acted g c = rw (← c.self.view_is) (λ s fits suit.
    acts-still (keeper g.K.Shelf g.K.Keep) (c.args.event.now, c.args.piece.now) s c.self.inside.keep c.self.inside.sessions.entries c.self.inside.sessions.entries c.self.inside.idling c.self.inside.idling _ _ fits (rw c.in-Stop.is (same-world (keeper g.K.Shelf g.K.Keep) s _ _, refl)) (rw c.in-Stop.is refl))

pub returns-in-Opened-clause-anyway : goal.returns-in-Opened-clause-anyway
returns-in-Opened-clause-anyway g c = rw (← c.self.view_is, c.in-Opened.is) (record {
  kept = refl;
  acted = λ s. (c.admit.ensures.made (g.K.Shelf.faults c.self.inside.keep) s, refl);
})

pub returns-in-Bytes-clause-anyway : goal.returns-in-Bytes-clause-anyway
returns-in-Bytes-clause-anyway g c = rw (← c.self.view_is, c.in-Bytes.is) (c.feed.ensures.anyway _ c.self.inside.idling c.noted-self-inside-in-Bytes.result)

pub returns-in-Ended-clause-anyway : goal.returns-in-Ended-clause-anyway
returns-in-Ended-clause-anyway g c = rw (← c.self.view_is, c.in-Ended.is) (record {
  kept = refl;
  acted = λ s. (ended-world c.in-Ended.conn (places_of c.self.inside.sessions.entries) (places_of c.end.new.sessions.entries) s _ c.end.ensures, refl);
})

pub returns-in-Quiet-clause-anyway : goal.returns-in-Quiet-clause-anyway
returns-in-Quiet-clause-anyway g c = rw (← c.self.view_is, c.in-Quiet.is) (record {
  kept = refl;
  acted = λ s. (same-world (keeper g.K.Shelf g.K.Keep) s _ _, refl);
})

pub returns-in-Stop-clause-anyway : goal.returns-in-Stop-clause-anyway
returns-in-Stop-clause-anyway g c = rw (← c.self.view_is, c.in-Stop.is) (record {
  kept = refl;
  acted = λ s. (same-world (keeper g.K.Shelf g.K.Keep) s _ _, refl);
})

pub returns-in-Opened-clause-reads : goal.returns-in-Opened-clause-reads
returns-in-Opened-clause-reads g c = rw (← c.self.view_is, c.in-Opened.is) refl

pub returns-in-Bytes-clause-reads : goal.returns-in-Bytes-clause-reads
returns-in-Bytes-clause-reads g c = rw (← c.self.view_is, c.in-Bytes.is) c.feed.ensures.reads

pub returns-in-Ended-clause-reads : goal.returns-in-Ended-clause-reads
returns-in-Ended-clause-reads g c = rw (← c.self.view_is, c.in-Ended.is) refl

pub returns-in-Quiet-clause-reads : goal.returns-in-Quiet-clause-reads
returns-in-Quiet-clause-reads g c = rw (← c.self.view_is, c.in-Quiet.is) refl

pub returns-in-Stop-clause-reads : goal.returns-in-Stop-clause-reads
returns-in-Stop-clause-reads g c = rw (← c.self.view_is, c.in-Stop.is) refl

pub returns-in-Opened-clause-noted : goal.returns-in-Opened-clause-noted
returns-in-Opened-clause-noted g c = rw (← c.self.view_is, c.in-Opened.is) c.noted-self-inside.ensures

pub returns-in-Bytes-clause-noted : goal.returns-in-Bytes-clause-noted
returns-in-Bytes-clause-noted g c = rw (← c.self.view_is, c.in-Bytes.is, ← c.noted_through-through.ensures) c.noted-self-inside-in-Bytes.ensures

pub returns-in-Ended-clause-noted : goal.returns-in-Ended-clause-noted
returns-in-Ended-clause-noted g c = rw (← c.self.view_is, c.in-Ended.is) c.noted-self-inside-in-Ended.ensures

pub returns-in-Quiet-clause-noted : goal.returns-in-Quiet-clause-noted
returns-in-Quiet-clause-noted g c = rw (← c.self.view_is, c.in-Quiet.is) refl

pub returns-in-Stop-clause-noted : goal.returns-in-Stop-clause-noted
returns-in-Stop-clause-noted g c = rw (← c.self.view_is, c.in-Stop.is) refl
