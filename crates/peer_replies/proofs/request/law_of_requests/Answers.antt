use Rattle.peer_replies.proofs.RequestHeads.{asks_target}
use Rattle.peer_replies.proofs.request.law_of_requests.Goals as goal

pub returns : goal.returns
returns c = asks_target
