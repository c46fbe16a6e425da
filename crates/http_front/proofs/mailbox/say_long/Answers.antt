use Rattle.std.proofs.Common.{◌<◌, [], length, Ok, inr, refl, ap, arith}
use Rattle.wire_replies.proofs.Wording.{Waits-filled}
use Rattle.http_front.proofs.mailbox.say_long.Goals as goal

pub returns-in-Ok-clause-part : goal.returns-in-Ok-clause-part
returns-in-Ok-clause-part g c = λ moment disk.
    let some : 0 < length c.args.unsaid.now = omega (arith, ap length c.as_slice.ensures) in
    inr (refl, c.truncate.ensures, some, (refl, Waits-filled c.args.unsaid.now [] c.args.unsaid.now [] _ _ _ _ (Ok tt) refl refl (rw c.as_slice-2.ensures at c.in-Ok.ensures.said)))

pub returns-in-Err-clause-part : goal.returns-in-Err-clause-part
returns-in-Err-clause-part g c = λ moment disk.
    let some : 0 < length c.args.unsaid.now = omega (arith, ap length c.as_slice.ensures) in
    (some, (_, (refl, rw c.as_slice-2.ensures at c.in-Err.ensures.said)))
