use Rattle.std.proofs.Common.{Option, None, sym, subst, ◌∙◌, arith}
use Rattle.arch_model.specs.Standing.{standing}
use Rattle.node_serve.specs.Nodes.{places_of, world_of}
use Rattle.node_serve.specs.Suiting.{SessionSuitsIf}
use Rattle.node_serve.specs.World.{at_host}
use Rattle.node_serve.specs.declared.session.Session.{Session}
use Rattle.node_serve.proofs.Updating.{each-same, updates-next, around-next, updates-end, around-end}
use Rattle.node_serve.proofs.updates.update_each.Goals as goal

pub loop-conn-preserved : goal.loop-conn-preserved
loop-conn-preserved g c =
    let from = c.loop-conn.from in
    let so_far = c.loop-conn.invariant in
    let first = places_of c.args.sessions.now.entries in
    let here = places_of c.loop-conn.sessions.entries in
    let next = places_of c.update_at.new.sessions.entries in
    let least = c.in-Some.ensures in
    let below = least.1 in
    let events = c.update_at.ensures.events in
    record {
      updated = λ a disk held suits.
          let s = standing a None in
          let w = world_of s first (at_host g.H.Host c.args.host.now disk) in
          let m = world_of s here (at_host g.H.Host c.loop-conn.host disk) in
          let v = world_of s next (at_host g.H.Host c.update_at.new.host disk) in
          let same = each-same from w m (so_far.anyway s disk) c.in-Some.conn least.0 in
          updates-next w m v from c.in-Some.conn c.from-from.result c.from-from.ensures least.0 (so_far.updated a disk held suits) least.3
          (c.update_at.ensures.updated a disk held (subst (λ (x : Option Session). SessionSuitsIf a x) (sym same) (suits c.in-Some.conn)));
      anyway = λ s disk. around-next (world_of s first (at_host g.H.Host c.args.host.now disk)) (world_of s here (at_host g.H.Host c.loop-conn.host disk)) (world_of s next (at_host g.H.Host c.update_at.new.host disk)) from c.in-Some.conn c.from-from.result c.from-from.ensures least.0 (so_far.anyway s disk) (c.update_at.ensures.anyway s disk);
      events = record {
        left_same = events.left_same ∙ so_far.events.left_same;
        given_same = events.given_same ∙ so_far.events.given_same;
        recorded_same = λ past noted. events.recorded_same past (so_far.events.recorded_same past noted);
        faults_same = events.faults_same ∙ so_far.events.faults_same;
      };
      low = omega (arith, c.from-from.ensures, below);
    }

pub returns-in-None-clause-updated : goal.returns-in-None-clause-updated
returns-in-None-clause-updated g c = λ a disk held suits.
    updates-end _ _ c.loop-conn.from c.loop-conn.invariant.low (c.loop-conn.invariant.updated a disk held suits) c.in-None.ensures

pub returns-in-None-clause-anyway : goal.returns-in-None-clause-anyway
returns-in-None-clause-anyway g c = λ s disk. around-end _ _ c.loop-conn.from c.loop-conn.invariant.low (c.loop-conn.invariant.anyway s disk)
