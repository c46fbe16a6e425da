use Rattle.std.proofs.Common.{◌≡◌, ◌≤◌}
use Rattle.mail_address.specs.Places.{depth_of}
use Rattle.mail_address.specs.Items.{items_of}
use Rattle.mail_address.proofs.Cutting.{cut_from}
use Rattle.mail_address.proofs.items.first_item.Given as goal

abbrev pub invariant-loop-at : goal.invariant-loop-at
invariant-loop-at l = record {
  items : cut_from l.grouped l.bracketed l.place l.value l.at ≡ items_of l.grouped l.value;
  shallow : depth_of l.place ≤ l.at;
}
