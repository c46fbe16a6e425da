use Rattle.std.proofs.Common.{◌≡◌, ℕ, ◌⊎◌, true, length}
use Rattle.query_lang.specs.Matching.{in_ranges}
use Rattle.word_index.specs.Sources.{IsDaySource}
use Rattle.word_index.proofs.sources.least_days.Given as goal

abbrev pub invariant-loop-rest : goal.invariant-loop-rest
invariant-loop-rest l =
    record {
      chosen : (l.least.source ≡ l.fn.least.source) ⊎ IsDaySource l.days l.least.source;
      within : (day : ℕ) → in_ranges l.days day ≡ true → in_ranges l.rest day ≡ true;
    }

abbrev pub decreases-loop-rest : goal.decreases-loop-rest
decreases-loop-rest l = length l.rest
