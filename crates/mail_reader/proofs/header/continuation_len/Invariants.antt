use Rattle.std.proofs.Common.{◌-◌, length}
use Rattle.mail_reader.proofs.FirstFields.{Continuing}
use Rattle.mail_reader.proofs.header.continuation_len.Given as goal

abbrev pub invariant-loop-len : goal.invariant-loop-len
invariant-loop-len l = Continuing l.bytes l.len

abbrev pub decreases-loop-len : goal.decreases-loop-len
decreases-loop-len l = length l.bytes - l.len
