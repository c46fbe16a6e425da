use Rattle.std.proofs.Common.{◌≡◌, length}
use Rattle.imap_words.specs.Words.{words_at}
use Rattle.imap_syntax.specs.Sets.{ranges_of}
use Rattle.imap_syntax.proofs.SetLemmas.{with_ranges}
use Rattle.imap_syntax.proofs.set_reading.read_set.Given as goal

abbrev pub invariant-loop-ranges : goal.invariant-loop-ranges
invariant-loop-ranges l = with_ranges l.ranges (ranges_of (words_at 44 l.rest)) ≡ ranges_of (words_at 44 l.word)

abbrev pub decreases-loop-ranges : goal.decreases-loop-ranges
decreases-loop-ranges l = length l.rest
