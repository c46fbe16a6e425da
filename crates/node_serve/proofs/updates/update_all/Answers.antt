use Rattle.std.proofs.Common.{refl}
use Rattle.arch_model.specs.KeeperRecord.{keeper}
use Rattle.node_serve.specs.World.{at_host}
use Rattle.node_serve.specs.declared.updates.Idling.TheVariants.{Nobody}
use Rattle.node_serve.proofs.Updating.{each-still}
use Rattle.node_serve.proofs.Refreshing.{updates-none, updates-told}
use Rattle.node_serve.proofs.updates.update_all.Goals as goal

pub returns-in-Nobody-clause-updated : goal.returns-in-Nobody-clause-updated
returns-in-Nobody-clause-updated g c = rw c.in-Nobody.is (λ s fits suits.
    updates-none (keeper g.K.Shelf g.K.Keep) s c.args.keep.now c.args.sessions.now.entries (at_host g.H.Host c.args.host.now (g.K.Shelf.faults c.args.keep.now)) Nobody fits suits.noted)

pub returns-in-Nobody-clause-anyway : goal.returns-in-Nobody-clause-anyway
returns-in-Nobody-clause-anyway g c = λ s disk. each-still _

pub returns-in-Told-clause-updated : goal.returns-in-Told-clause-updated
returns-in-Told-clause-updated g c = rw c.in-Told.is (λ s fits suits.
    updates-told (keeper g.K.Shelf g.K.Keep) s c.args.keep.now c.args.sessions.now.entries (at_host g.H.Host c.args.host.now (g.K.Shelf.faults c.args.keep.now)) c.update_law.ensures fits suits refl)

pub returns-in-Told-clause-anyway : goal.returns-in-Told-clause-anyway
returns-in-Told-clause-anyway g c = λ s disk. each-still _
