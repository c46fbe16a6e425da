use Rattle.node_serve.proofs.node.Node.update.Goals as goal

pub returns-clause-shut : goal.returns-clause-shut
returns-clause-shut g c = rw (← c.self.view_is) c.update_all-self-inside.ensures.shut
