use Rattle.std.proofs.Common.{◌≡◌, ◌++◌, length}
use Rattle.mime_words.specs.Quoted.{unquoted}
use Rattle.mime_words.proofs.quoted.push_unquoted.Given as goal

abbrev pub invariant-loop-rest : goal.invariant-loop-rest
invariant-loop-rest l = l.into ++ unquoted l.rest ≡ l.fn.into ++ unquoted l.text

abbrev pub decreases-loop-rest : goal.decreases-loop-rest
decreases-loop-rest l = length l.rest
