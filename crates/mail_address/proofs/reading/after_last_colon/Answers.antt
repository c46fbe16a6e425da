use Rattle.std.proofs.Common.{◌+◌}
use Rattle.std.proofs.lemmas.List.{take_rest}
use Rattle.mail_address.proofs.Parting.{split_last-found, split_last-missing}
use Rattle.mail_address.proofs.reading.after_last_colon.Goals as goal

pub returns-in-Some : goal.returns-in-Some
returns-in-Some c =
    rw (take_rest c.args.address.now (c.in-Some.colon + 1), split_last-found 58 c.args.address.now c.in-Some.colon c.in-Some.ensures)

pub returns-in-None : goal.returns-in-None
returns-in-None c = rw (split_last-missing 58 c.args.address.now c.in-None.ensures)
