use Rattle.std.proofs.Common.{◌≡◌, length}
use Rattle.query_lang.specs.Terms.{terms_of}
use Rattle.query_lang.specs.Queries.{query_of}
use Rattle.query_lang.specs.Asking.{with_terms}
use Rattle.query_lang.proofs.reading.read.Given as goal

abbrev pub invariant-loop-term : goal.invariant-loop-term
invariant-loop-term l = with_terms l.query (terms_of l.rest) ≡ query_of l.text

abbrev pub decreases-loop-term : goal.decreases-loop-term
decreases-loop-term l = length l.rest
