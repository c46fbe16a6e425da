use Rattle.std.proofs.Common.{refl}
use Rattle.arch_model.specs.KeeperRecord.{keeper}
use Rattle.node_serve.specs.Nodes.{stage}
use Rattle.node_serve.specs.World.{at_host}
use Rattle.node_serve.proofs.Suits.{turns-by}
use Rattle.node_serve.proofs.node.Node.turn.Goals as goal

pub returns-clause-turned : goal.returns-clause-turned
returns-clause-turned g c = (
  stage c.act.new.self (at_host g.H.Host c.act.new.host (g.K.Shelf.faults c.act.new.self.keep)),
  turns-by (keeper g.K.Shelf g.K.Keep) c.suiting_law.ensures (c.args.event.now, c.args.piece.now) c.args.self.now c.act.new.self c.update.new.self _ _ _ c.requires.moment c.act.ensures.acted c.act.ensures.anyway c.act.ensures.reads c.act.ensures.noted
      c.update.ensures.updated c.update.ensures.anyway c.update.ensures.alone c.update.ensures.shut refl refl,
)
