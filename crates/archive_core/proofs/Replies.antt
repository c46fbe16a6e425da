-- What follows from an answer, whatever it is.
use Rattle.arch_model.specs.declared.answer.Answer.{Answer}
use Rattle.arch_model.specs.declared.answer.Answer.TheVariants as answer
use Rattle.archive_core.specs.Commands.{OnDone, OnRefusal, UnlessFault}

-- What holds in any case holds after `Ok`.
pub when-done : (reply : Answer) (P : Type 0) → P → OnDone reply P
when-done (answer.Ok number id) P is = is
when-done other P is = tt

-- What follows from what holds after `Ok`.
pub done-then : (reply : Answer) (P Q : Type 0) → (P → Q) → OnDone reply P → OnDone reply Q
done-then (answer.Ok n id) P Q then is = then is
done-then other P Q then is = tt

-- What holds in any case holds after a refusal, and unless a call of the disk failed.
pub when-refused : (reply : Answer) (P : Type 0) → P → OnRefusal reply P
when-refused (answer.Ok n id) P is = tt
when-refused other P is = is

pub unless-failed : (reply : Answer) (P : Type 0) → P → UnlessFault reply P
unless-failed answer.DiskFault P is = tt
unless-failed other P is = is

-- What follows from what holds after a refusal, unless a call of the disk failed.
pub refused-then : (reply : Answer) (P Q : Type 0) → (P → Q) → OnRefusal reply (UnlessFault reply P) → OnRefusal reply (UnlessFault reply Q)
refused-then (answer.Ok n id) P Q then is = tt
refused-then answer.DiskFault P Q then is = tt
refused-then other P Q then is = then is
