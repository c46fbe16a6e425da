use Rattle.std.proofs.Common.{◌≡◌, length}
use Rattle.mail_reader.specs.Stored.{content_of}
use Rattle.mail_reader.proofs.lines.without_returns.Given as goal

abbrev pub invariant-loop-content : goal.invariant-loop-content
invariant-loop-content l = content_of l.content ≡ content_of l.line

abbrev pub decreases-loop-content : goal.decreases-loop-content
decreases-loop-content l = length l.content
