use Rattle.archive_cli.proofs.Promises.{replies-defined, nothing-lost, numbers-name, crash-leaves, purge-leaves, reindex-changes}
use Rattle.archive_cli.proofs.laws.six_promises.Goals as goal

pub returns-clause-lost : goal.returns-clause-lost
returns-clause-lost g c = nothing-lost g.D.Disk

pub returns-clause-replies : goal.returns-clause-replies
returns-clause-replies g c = replies-defined

pub returns-clause-numbers : goal.returns-clause-numbers
returns-clause-numbers g c = numbers-name g.D.Disk c.law_of_numbers.ensures.itself c.law_of_numbers.ensures.through c.law_of_numbers.ensures.stay

pub returns-clause-purge : goal.returns-clause-purge
returns-clause-purge g c = purge-leaves g.D.Disk

pub returns-clause-crash : goal.returns-clause-crash
returns-clause-crash g c = crash-leaves g.D.Disk

pub returns-clause-reindex : goal.returns-clause-reindex
returns-clause-reindex g c = reindex-changes
