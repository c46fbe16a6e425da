use Rattle.std.proofs.Common.{true, false, Option, None, refl, sym, subst}
use Rattle.arch_model.specs.Standing.{standing}
use Rattle.node_serve.specs.Nodes.{places_of}
use Rattle.node_serve.specs.Suiting.{SessionSuitsIf}
use Rattle.node_serve.specs.World.{at_host}
use Rattle.node_serve.specs.declared.session.Session.{Session}
use Rattle.node_serve.proofs.PlaceMaps.{put-written}
use Rattle.node_serve.proofs.Turning.{around-went, around-shut}
use Rattle.node_serve.proofs.Updating.{update-acted}
use Rattle.node_serve.proofs.updates.update_at.Goals as goal

pub returns-in-Go-clause-updated : goal.returns-in-Go-clause-updated
returns-in-Go-clause-updated g c = λ a disk held suits.
    let m = c.args.sessions.now in
    let n = c.get_mut.follows.lender c.update_one.new.session in
    let start = c.in-Some.session.now in
    let put = put-written m n c.args.conn start c.update_one.new.session c.in-Some.ensures.value (c.get_mut.follows.holds c.update_one.new.session) in
    let host = c.update_one.ensures.host in
    update-acted c.args.conn start c.update_one.new.session true a (places_of m.entries) (places_of n.entries) (at_host g.H.Host c.args.host.now disk) (at_host g.H.Host c.update_one.new.host disk) c.requires.idles (sym c.in-Some.ensures.value) put.here
    (rw c.in-Go.is at (c.update_one.ensures.told a disk held (subst (λ (x : Option Session). SessionSuitsIf a x) (sym c.in-Some.ensures.value) suits))) refl
    (around-went c.args.conn start c.update_one.new.session (standing a None) (standing a None) (places_of m.entries) (places_of n.entries) _ _ (sym c.in-Some.ensures.value) put host.others host.closings_same host.closed_at_same)

pub returns-in-Close-clause-updated : goal.returns-in-Close-clause-updated
returns-in-Close-clause-updated g c = λ a disk held suits.
    let m = c.args.sessions.now in
    let n = c.get_mut.follows.lender c.update_one.new.session in
    let start = c.in-Some.session.now in
    let put = put-written m n c.args.conn start c.update_one.new.session c.in-Some.ensures.value (c.get_mut.follows.holds c.update_one.new.session) in
    let host = c.update_one.ensures.host in
    let mid = at_host g.H.Host c.update_one.new.host disk in
    let last = at_host g.H.Host c.close.new.self disk in
    update-acted c.args.conn start c.update_one.new.session false a (places_of m.entries) (places_of c.end.new.sessions.entries) (at_host g.H.Host c.args.host.now disk) last c.requires.idles (sym c.in-Some.ensures.value) c.end.ensures.gone
    (rw (c.close.ensures.taken c.args.conn, c.close.ensures.lost) (rw c.in-Close.is at (c.update_one.ensures.told a disk held (subst (λ (x : Option Session). SessionSuitsIf a x) (sym c.in-Some.ensures.value) suits)))) refl
    (around-shut c.args.conn start c.update_one.new.session (standing a None) (standing a None) (places_of m.entries) (places_of n.entries) (places_of c.end.new.sessions.entries) _ mid last (sym c.in-Some.ensures.value) put c.end.ensures host.others host.closings_same c.close.ensures.taken c.close.ensures.others c.close.ensures.closed host.closed_at_same c.close.ensures.closed_at_others c.close.ensures.closed_at)
