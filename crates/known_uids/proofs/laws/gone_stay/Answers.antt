use Rattle.known_uids.proofs.Staying.{commands_keep, stays_itself, stays_through, suits_later, suits_told}
use Rattle.known_uids.proofs.laws.gone_stay.Goals as goal

pub returns-clause-commands : goal.returns-clause-commands
returns-clause-commands c = commands_keep

pub returns-clause-itself : goal.returns-clause-itself
returns-clause-itself c = stays_itself

pub returns-clause-through : goal.returns-clause-through
returns-clause-through c = stays_through

pub returns-clause-suits : goal.returns-clause-suits
returns-clause-suits c = suits_later

pub returns-clause-told : goal.returns-clause-told
returns-clause-told c = suits_told
