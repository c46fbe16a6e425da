use Rattle.std.proofs.Common.{◌+◌}
use Rattle.std.proofs.lemmas.List.{take_rest}
use Rattle.mail_address.proofs.Parting.{split_last-found, split_last-missing}
use Rattle.mail_address.proofs.reading.split_host.Goals as goal

pub returns-in-Some-clause-mailbox : goal.returns-in-Some-clause-mailbox
returns-in-Some-clause-mailbox c = rw (split_last-found 64 c.args.address.now c.in-Some.at c.in-Some.ensures)

pub returns-in-Some-clause-host : goal.returns-in-Some-clause-host
returns-in-Some-clause-host c =
    rw (take_rest c.args.address.now (c.in-Some.at + 1), split_last-found 64 c.args.address.now c.in-Some.at c.in-Some.ensures)

pub returns-in-None-clause-mailbox : goal.returns-in-None-clause-mailbox
returns-in-None-clause-mailbox c = rw (split_last-missing 64 c.args.address.now c.in-None.ensures)

pub returns-in-None-clause-host : goal.returns-in-None-clause-host
returns-in-None-clause-host c = rw (split_last-missing 64 c.args.address.now c.in-None.ensures)
