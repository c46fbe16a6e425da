-- It has the same entries.
use Rattle.convert_planning.proofs.ValidForms.{conversion_follows, conversion_valid}
use Rattle.convert_planning.proofs.laws.law_of_conversions.Goals as goal

pub returns-clause-follows : goal.returns-clause-follows
returns-clause-follows c = conversion_follows

pub returns-clause-valid : goal.returns-clause-valid
returns-clause-valid c = conversion_valid c.law_of_collisions.ensures
