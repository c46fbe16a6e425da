use Rattle.std.proofs.Common.{refl}
use Rattle.shelf_doors.proofs.streamed.StreamStop.end.Goals as goal

pub returns-in-Short-clause-ends : goal.returns-in-Short-clause-ends
returns-in-Short-clause-ends g c = λ disk. rw c.in-Short.is (refl, refl, (c.flush.result, c.flush.ensures.said))
