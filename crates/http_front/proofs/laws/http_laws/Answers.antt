use Rattle.http_front.proofs.Doors.{http_door}
use Rattle.http_front.proofs.Ends.{front_law}
use Rattle.http_front.proofs.laws.http_laws.Goals as goal

pub returns : goal.returns
returns c = record { door = http_door; front = front_law }
