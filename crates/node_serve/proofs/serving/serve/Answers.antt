use Rattle.arch_model.specs.KeeperRecord.{keeper}
use Rattle.node_serve.proofs.Running.{ends-starved}
use Rattle.node_serve.proofs.serving.serve.Goals as goal

pub returns-in-Err-clause-served : goal.returns-in-Err-clause-served
returns-in-Err-clause-served g c = ends-starved (keeper g.K.Shelf g.K.Keep) c.args.turns c.args.node.now _ _ _ _ _
