use Rattle.real_edges.proofs.client.Client.read.Goals as goal

pub returns-in-Ok-eq0 : goal.returns-in-Ok-eq0
returns-in-Ok-eq0 c = c.ended.ensures _

pub returns-else-is_none : goal.returns-else-is_none
returns-else-is_none c = c.drained.ensures _

pub returns-in-Err-3 : goal.returns-in-Err-3
returns-in-Err-3 c = c.ended-in-Err-3.ensures _
