use Rattle.std.proofs.Common.{◌≡◌, ◌++◌, take}
use Rattle.std.specs.List.{flat_map}
use Rattle.imap_items.specs.Items.{dotted_number}
use Rattle.imap_items.proofs.labels.push_other_numbers.Given as goal

abbrev pub invariant-loop-number : goal.invariant-loop-number
invariant-loop-number l = l.into ≡ l.fn.into ++ flat_map dotted_number (take l.number-index l.numbers)
