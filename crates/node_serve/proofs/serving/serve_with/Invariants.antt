use Rattle.std.proofs.Common.{◌≡◌, ◌≤◌}
use Rattle.arch_model.specs.KeeperRecord.{keeper}
use Rattle.node_serve.specs.World.{outer}
use Rattle.node_serve.proofs.Running.{SoFar}
use Rattle.node_serve.proofs.serving.serve_with.Given as goal

abbrev pub invariant-loop-turn : goal.invariant-loop-turn
invariant-loop-turn g l = record {
  far :
      SoFar (keeper g.K.Shelf g.K.Keep) l._turn l.fn.node
      (outer (g.H.Host.taken l.fn.host) (g.H.Host.closings l.fn.host) (g.K.Shelf.faults l.fn.node.keep) (g.H.Host.lost l.fn.host) (g.H.Host.closed_at l.fn.host)) l.node
      (outer (g.H.Host.taken l.host) (g.H.Host.closings l.host) (g.K.Shelf.faults l.node.keep) (g.H.Host.lost l.host) (g.H.Host.closed_at l.host))
      (g.H.Host.given l.fn.host) (g.H.Host.given l.host) (g.H.Host.left l.fn.host) (g.H.Host.left l.host) (g.H.Host.recorded l.fn.host) (g.H.Host.recorded l.host);
  later : g.H.Host.faults l.fn.host ≤ g.H.Host.faults l.host;
  kept : g.H.Host.faults l.host ≡ g.H.Host.faults l.fn.host;
  disk_later : g.K.Shelf.faults l.fn.node.keep ≤ g.K.Shelf.faults l.node.keep;
}
