-- The laws that a tactic doesn't find by itself.
use Rattle.number_map.proofs.Apart.{damage_is_one, read_or_damaged}
use Rattle.number_map.proofs.laws.law_of_records.Goals as goal

pub returns-clause-damage : goal.returns-clause-damage
returns-clause-damage c = damage_is_one

pub returns-clause-either : goal.returns-clause-either
returns-clause-either c = read_or_damaged
