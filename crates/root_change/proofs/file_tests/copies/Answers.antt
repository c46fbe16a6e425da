-- The two files are of different kinds.
use Rattle.root_change.proofs.Grown.{epoch_isnt_map}
use Rattle.root_change.proofs.file_tests.copies.Goals as goal

pub copy_range-requires-clause-apart : goal.copy_range-requires-clause-apart
copy_range-requires-clause-apart c = epoch_isnt_map 5 1 9
