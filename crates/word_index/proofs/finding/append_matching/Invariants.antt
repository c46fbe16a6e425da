use Rattle.std.proofs.Common.{◌≡◌, ◌++◌, take}
use Rattle.std.specs.List.{filter}
use Rattle.word_index.specs.Kept.{keeps_at}
use Rattle.word_index.specs.Asked.{matches_asked}
use Rattle.word_index.proofs.finding.append_matching.Given as goal

abbrev pub invariant-loop-n : goal.invariant-loop-n
invariant-loop-n l = l.into ≡ l.initial.into ++ filter (keeps_at (matches_asked l.asked l.days) l.tables.rows.entries) (take l.n-index l.numbers)
