use Rattle.std.proofs.Common.{[], true, false, Option, refl, sym, subst}
use Rattle.arch_model.specs.KeeperRecord.{keeper}
use Rattle.edge_io.specs.declared.events.What.TheVariants as what
use Rattle.node_serve.specs.Nodes.{CameKept, ActsAlong, places_of, world_of}
use Rattle.node_serve.specs.Turns.{CameTo}
use Rattle.node_serve.specs.World.{outer}
use Rattle.node_serve.specs.declared.session.Session.{Session}
use Rattle.node_serve.proofs.ImapDoor.{client-suits}
use Rattle.node_serve.proofs.Feeding.{reads-there}
use Rattle.node_serve.proofs.PlaceMaps.{put-written}
use Rattle.node_serve.proofs.Turning.{acts-still, same-world, acts-fed, around-went, around-shut, came-unfed, came-fed}
use Rattle.node_serve.proofs.places.feed.Goals as goal

pub returns-in-None-clause-acted : goal.returns-in-None-clause-acted
returns-in-None-clause-acted g c = λ len before after s fits suit.
    let p = c.args.sessions.now.entries in
    let o = outer (g.H.Host.taken c.args.host.now) (g.H.Host.closings c.args.host.now) (g.K.Shelf.faults c.args.keep.now) (g.H.Host.lost c.args.host.now) (g.H.Host.closed_at c.args.host.now) in
    let came = subst (λ (x : Option Session). CameTo x c.args.moment c.args.conn c.args.piece.now (world_of s (places_of p) o) [] (world_of s (places_of p) o)) c.in-None.ensures.value (same-world (keeper g.K.Shelf g.K.Keep) s (places_of p) o, refl) in
    let still = subst (λ (x : Option Session). CameKept (ActsAlong (keeper g.K.Shelf g.K.Keep)) x c.args.moment c.args.conn c.args.piece.now c.args.keep.now (world_of s (places_of p) o) [] c.args.keep.now (world_of s (places_of p) o)) c.in-None.ensures.value refl in
    rw c.get_mut.follows.holds-at-none (acts-still (keeper g.K.Shelf g.K.Keep) (record { moment = c.args.moment; what = what.Bytes c.args.conn len }, c.args.piece.now) s c.args.keep.now p p before after o o fits came still)

pub returns-in-Go-clause-acted : goal.returns-in-Go-clause-acted
returns-in-Go-clause-acted g c = λ len before after s fits suit.
    let m = c.args.sessions.now in
    let n = c.get_mut.follows.lender c.feed_one.new.session in
    let put = put-written m n c.args.conn c.in-Some.session.now c.feed_one.new.session c.in-Some.ensures.value (c.get_mut.follows.holds c.feed_one.new.session) in
    acts-fed (keeper g.K.Shelf g.K.Keep) c.args.moment c.args.conn len c.args.piece.now c.in-Some.session.now s c.args.keep.now c.feed_one.new.keep m.entries n.entries before after _ _ true c.feed_one.new.session (sym c.in-Some.ensures.value) put.here
    (rw c.in-Go.is at (c.feed_one.ensures.fed s fits (client-suits _ c.args.conn c.in-Some.session.now suit (sym c.in-Some.ensures.value)))) (λ t. around-went c.args.conn c.in-Some.session.now c.feed_one.new.session s t (places_of m.entries) (places_of n.entries) _ _ (sym c.in-Some.ensures.value) put c.feed_one.ensures.host.others c.feed_one.ensures.host.closings_same c.feed_one.ensures.host.closed_at_same)

pub returns-in-Close-clause-acted : goal.returns-in-Close-clause-acted
returns-in-Close-clause-acted g c = λ len before after s fits suit.
    let m = c.args.sessions.now in
    let n = c.get_mut.follows.lender c.feed_one.new.session in
    let put = put-written m n c.args.conn c.in-Some.session.now c.feed_one.new.session c.in-Some.ensures.value (c.get_mut.follows.holds c.feed_one.new.session) in
    let host = c.feed_one.ensures.host in
    let mid = outer (g.H.Host.taken c.feed_one.new.host) (g.H.Host.closings c.feed_one.new.host) (g.K.Shelf.faults c.feed_one.new.keep) (g.H.Host.lost c.feed_one.new.host) (g.H.Host.closed_at c.feed_one.new.host) in
    let last = outer (g.H.Host.taken c.close.new.self) (g.H.Host.closings c.close.new.self) (g.K.Shelf.faults c.feed_one.new.keep) (g.H.Host.lost c.close.new.self) (g.H.Host.closed_at c.close.new.self) in
    acts-fed (keeper g.K.Shelf g.K.Keep) c.args.moment c.args.conn len c.args.piece.now c.in-Some.session.now s c.args.keep.now c.feed_one.new.keep m.entries c.end.new.sessions.entries before after _ last false c.feed_one.new.session (sym c.in-Some.ensures.value) c.end.ensures.gone
    (rw (c.close.ensures.taken c.args.conn, c.close.ensures.lost) (rw c.in-Close.is at (c.feed_one.ensures.fed s fits (client-suits _ c.args.conn c.in-Some.session.now suit (sym c.in-Some.ensures.value)))))
    (λ t. around-shut c.args.conn c.in-Some.session.now c.feed_one.new.session s t (places_of m.entries) (places_of n.entries) (places_of c.end.new.sessions.entries) _ mid last (sym c.in-Some.ensures.value) put c.end.ensures host.others host.closings_same c.close.ensures.taken c.close.ensures.others c.close.ensures.closed host.closed_at_same c.close.ensures.closed_at_others c.close.ensures.closed_at)

pub returns-in-None-clause-anyway : goal.returns-in-None-clause-anyway
returns-in-None-clause-anyway g c = λ len before after.
    let p = c.args.sessions.now.entries in
    let o = outer (g.H.Host.taken c.args.host.now) (g.H.Host.closings c.args.host.now) (g.K.Shelf.faults c.args.keep.now) (g.H.Host.lost c.args.host.now) (g.H.Host.closed_at c.args.host.now) in
    rw c.get_mut.follows.holds-at-none (came-unfed (record { moment = c.args.moment; what = what.Bytes c.args.conn len }, c.args.piece.now) c.args.conn c.args.keep.now c.args.keep.now p p before after o o (sym c.in-None.ensures.value) (record {
      kept = refl;
      acted = λ s. subst (λ (x : Option Session). CameTo x c.args.moment c.args.conn c.args.piece.now (world_of s (places_of p) o) [] (world_of s (places_of p) o)) c.in-None.ensures.value (same-world (keeper g.K.Shelf g.K.Keep) s (places_of p) o, refl);
    }))

pub returns-in-Go-clause-anyway : goal.returns-in-Go-clause-anyway
returns-in-Go-clause-anyway g c = λ len before after.
    let m = c.args.sessions.now in
    let n = c.get_mut.follows.lender c.feed_one.new.session in
    let put = put-written m n c.args.conn c.in-Some.session.now c.feed_one.new.session c.in-Some.ensures.value (c.get_mut.follows.holds c.feed_one.new.session) in
    came-fed (record { moment = c.args.moment; what = what.Bytes c.args.conn len }, c.args.piece.now) c.args.conn c.args.keep.now c.feed_one.new.keep m.entries n.entries before after _ _ c.in-Some.session.now (sym c.in-Some.ensures.value)
    (λ s t. around-went c.args.conn c.in-Some.session.now c.feed_one.new.session s t (places_of m.entries) (places_of n.entries) _ _ (sym c.in-Some.ensures.value) put c.feed_one.ensures.host.others c.feed_one.ensures.host.closings_same c.feed_one.ensures.host.closed_at_same)

pub returns-in-Close-clause-anyway : goal.returns-in-Close-clause-anyway
returns-in-Close-clause-anyway g c = λ len before after.
    let m = c.args.sessions.now in
    let n = c.get_mut.follows.lender c.feed_one.new.session in
    let put = put-written m n c.args.conn c.in-Some.session.now c.feed_one.new.session c.in-Some.ensures.value (c.get_mut.follows.holds c.feed_one.new.session) in
    let host = c.feed_one.ensures.host in
    let mid = outer (g.H.Host.taken c.feed_one.new.host) (g.H.Host.closings c.feed_one.new.host) (g.K.Shelf.faults c.feed_one.new.keep) (g.H.Host.lost c.feed_one.new.host) (g.H.Host.closed_at c.feed_one.new.host) in
    let last = outer (g.H.Host.taken c.close.new.self) (g.H.Host.closings c.close.new.self) (g.K.Shelf.faults c.feed_one.new.keep) (g.H.Host.lost c.close.new.self) (g.H.Host.closed_at c.close.new.self) in
    came-fed (record { moment = c.args.moment; what = what.Bytes c.args.conn len }, c.args.piece.now) c.args.conn c.args.keep.now c.feed_one.new.keep m.entries c.end.new.sessions.entries before after _ last c.in-Some.session.now (sym c.in-Some.ensures.value)
    (λ s t. around-shut c.args.conn c.in-Some.session.now c.feed_one.new.session s t (places_of m.entries) (places_of n.entries) (places_of c.end.new.sessions.entries) _ mid last (sym c.in-Some.ensures.value) put c.end.ensures host.others host.closings_same c.close.ensures.taken c.close.ensures.others c.close.ensures.closed host.closed_at_same c.close.ensures.closed_at_others c.close.ensures.closed_at)

pub returns-in-None-clause-reads : goal.returns-in-None-clause-reads
returns-in-None-clause-reads g c = reads-there (keeper g.K.Shelf g.K.Keep) c.args.moment _ _ c.args.piece.now c.args.keep.now _ c.in-None.ensures.value refl

pub returns-in-Go-clause-reads : goal.returns-in-Go-clause-reads
returns-in-Go-clause-reads g c = reads-there (keeper g.K.Shelf g.K.Keep) c.args.moment _ _ c.args.piece.now c.args.keep.now _ c.in-Some.ensures.value c.feed_one.ensures.reads

pub returns-in-Close-clause-reads : goal.returns-in-Close-clause-reads
returns-in-Close-clause-reads g c = reads-there (keeper g.K.Shelf g.K.Keep) c.args.moment _ _ c.args.piece.now c.args.keep.now _ c.in-Some.ensures.value c.feed_one.ensures.reads
