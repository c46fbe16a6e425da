use Rattle.std.proofs.Common.{◌≡◌, length, is_some}
use Rattle.mime_words.specs.Words.{pieces}
use Rattle.mime_words.specs.Decoding.{decoded, without_gaps}
use Rattle.mime_words.proofs.Joining.{all_text}
use Rattle.mime_words.proofs.decoding.decode_text.Given as goal

abbrev pub invariant-loop-found : goal.invariant-loop-found
invariant-loop-found l = all_text l.decoding (without_gaps (is_some l.decoding.charset) (pieces l.rest)) ≡ decoded l.value

abbrev pub decreases-loop-found : goal.decreases-loop-found
decreases-loop-found l = length l.rest
