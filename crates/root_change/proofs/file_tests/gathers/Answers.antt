-- The range is of another file than the one that is written.
use Rattle.std.proofs.Common.{arith}
use Rattle.root_change.proofs.Gathers.{three_sources}
use Rattle.root_change.proofs.Grown.{epoch_isnt_map}
use Rattle.root_change.proofs.file_tests.gathers.Goals as goal

pub put_sources-requires-clause-sources : goal.put_sources-requires-clause-sources
put_sources-requires-clause-sources c = three_sources _ _ _ _ tt (epoch_isnt_map 5 1 9, omega arith) tt
