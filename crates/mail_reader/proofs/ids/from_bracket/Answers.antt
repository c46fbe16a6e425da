use Rattle.mail_reader.proofs.Trims.{NoByte-before}
use Rattle.mail_reader.proofs.IdPieces.{ids_of-none, opens_id}
use Rattle.mail_reader.proofs.ids.from_bracket.Goals as goal

pub returns-in-Some : goal.returns-in-Some
returns-in-Some c =
    let found = rw c.in-Some.is at (NoByte-before 60 c.args.value.now c.memchr.result c.memchr.ensures) in
    rw c.split_at.ensures.back (opens_id c.args.value.now c.in-Some.at found.0 found.1 found.2 found.3 found.4)

pub returns-in-None : goal.returns-in-None
returns-in-None c = ids_of-none c.args.value.now (rw c.in-None.is at (NoByte-before 60 c.args.value.now c.memchr.result c.memchr.ensures))
