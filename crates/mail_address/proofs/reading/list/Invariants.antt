use Rattle.std.proofs.Common.{◌≡◌, ◌++◌, length}
use Rattle.mail_address.specs.Items.{items_of}
use Rattle.mail_address.specs.Addresses.{told, addresses_of}
use Rattle.mail_address.proofs.reading.list.Given as goal

abbrev pub invariant-loop-item : goal.invariant-loop-item
invariant-loop-item l = l.addresses ++ told l.grouped (items_of l.grouped l.rest) ≡ addresses_of l.value

abbrev pub decreases-loop-item : goal.decreases-loop-item
decreases-loop-item l = length l.rest
