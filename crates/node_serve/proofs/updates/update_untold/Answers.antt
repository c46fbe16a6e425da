use Rattle.std.proofs.Common.{refl, arith}
use Rattle.std.proofs.lemmas.Bool.{false≢true}
use Rattle.arch_model.specs.KeeperRecord.{keeper}
use Rattle.node_serve.specs.Nodes.{places_of, session_of, world_of}
use Rattle.node_serve.specs.World.{at_host}
use Rattle.node_serve.specs.declared.updates.Idling.TheVariants.{Untold}
use Rattle.node_serve.proofs.Updating.{each-still, one-idles}
use Rattle.node_serve.proofs.ImapDoor.{found-suits}
use Rattle.node_serve.proofs.Refreshing.{left-alone, updates-none, updates-given, updates-refused}
use Rattle.node_serve.proofs.updates.update_untold.Goals as goal

pub returns-in-None-clause-updated : goal.returns-in-None-clause-updated
returns-in-None-clause-updated g c = λ s fits suits.
    updates-none (keeper g.K.Shelf g.K.Keep) s c.args.keep.now c.args.sessions.now.entries (at_host g.H.Host c.args.host.now (g.K.Shelf.faults c.args.keep.now)) Untold fits (λ d below. c.in-None.ensures d (omega arith) below)

pub returns-in-None-clause-anyway : goal.returns-in-None-clause-anyway
returns-in-None-clause-anyway g c = λ s disk. each-still _

pub returns-in-Ok-clause-updated : goal.returns-in-Ok-clause-updated
returns-in-Ok-clause-updated g c = λ s fits suits.
    let p = c.args.sessions.now.entries in
    let before = g.K.Shelf.faults c.args.keep.now in
    let now = g.K.Shelf.faults c.fresh.new.self in
    let i = at_host g.H.Host c.args.host.now before in
    let j = at_host g.H.Host c.update_each.new.host now in
    let least = c.in-Some.ensures in
    let found = c.in-Ok.ensures.found s fits in
    let held = found.1.fits.settled c.in-Ok.ensures.ready in
    updates-given (keeper g.K.Shelf g.K.Keep) s c.args.keep.now p i c.fresh.new.self Untold (one-idles (session_of p) c.in-Some.field-0 least.1 least.2) found.0 c.update_each.new.sessions.entries j c.update_law.ensures found.1 found.2 (λ stale. found.3 stale) c.in-Ok.ensures.ready
    (λ at_hand. (c.in-Ok.ensures.nothing at_hand).1) (λ at_hand. (fits.settled at_hand).1) (c.in-Ok.ensures.crash s fits) c.in-Ok.ensures.cause refl
    (c.update_each.ensures.updated found.0.archive now held.0 (found-suits (world_of s (places_of p) i) found.0.archive found.2.found suits.clients))

pub returns-in-Ok-clause-alone : goal.returns-in-Ok-clause-alone
returns-in-Ok-clause-alone g c =
    let least = c.in-Some.ensures in
    left-alone (keeper g.K.Shelf g.K.Keep) (session_of c.args.sessions.now.entries) c.args.keep.now c.fresh.new.self c.in-Some.field-0 least.1 least.2 (λ at_hand. (c.in-Ok.ensures.nothing at_hand).1)

pub returns-in-Err-clause-updated : goal.returns-in-Err-clause-updated
returns-in-Err-clause-updated g c = λ s fits suits.
    let p = c.args.sessions.now.entries in
    let i = at_host g.H.Host c.args.host.now (g.K.Shelf.faults c.args.keep.now) in
    let j = at_host g.H.Host c.args.host.now (g.K.Shelf.faults c.fresh.new.self) in
    let least = c.in-Some.ensures in
    let still = c.in-Err.ensures.found s fits in
    updates-refused (keeper g.K.Shelf g.K.Keep) s c.args.keep.now p i c.fresh.new.self Untold (one-idles (session_of p) c.in-Some.field-0 least.1 least.2) still.0 c.in-Err.field-0 j still.1 still.2 c.in-Err.ensures.cause c.in-Err.ensures.later c.in-Err.ensures.ready
    (λ at_hand. false≢true (c.in-Err.ensures.nothing at_hand).0) (c.in-Err.ensures.crash s fits) refl refl

pub returns-in-Err-clause-anyway : goal.returns-in-Err-clause-anyway
returns-in-Err-clause-anyway g c = λ s disk. each-still _

pub returns-in-Err-clause-alone : goal.returns-in-Err-clause-alone
returns-in-Err-clause-alone g c =
    let least = c.in-Some.ensures in
    left-alone (keeper g.K.Shelf g.K.Keep) (session_of c.args.sessions.now.entries) c.args.keep.now c.fresh.new.self c.in-Some.field-0 least.1 least.2 (λ at_hand. absurd (false≢true (c.in-Err.ensures.nothing at_hand).0))
