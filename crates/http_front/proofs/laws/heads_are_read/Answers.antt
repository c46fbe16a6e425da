use Rattle.http_front.proofs.HeadReading.{reads-heads}
use Rattle.http_front.proofs.laws.heads_are_read.Goals as goal

pub returns : goal.returns
returns c = reads-heads
