use Rattle.std.proofs.Common.{◌≡◌, ◌≤◌}
use Rattle.mail_address.specs.Places.{depth_of, marked}
use Rattle.mail_address.specs.Items.{after_comment_start}
use Rattle.mail_address.proofs.Seeking.{after_from}
use Rattle.mail_address.proofs.items.after_last_start.Given as goal

abbrev pub invariant-loop-at : goal.invariant-loop-at
invariant-loop-at l = record {
  marks : after_from l.inside l.place l.item l.at ≡ after_comment_start (marked l.item);
  shallow : depth_of l.place ≤ l.at;
}
