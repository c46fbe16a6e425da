use Rattle.peer_replies.proofs.FrontLaws.{keeps_reading, reads_one_way}
use Rattle.peer_replies.proofs.reading.law_of_replies.Goals as goal

pub returns-clause-keeps : goal.returns-clause-keeps
returns-clause-keeps c = keeps_reading

pub returns-clause-one : goal.returns-clause-one
returns-clause-one c = reads_one_way
