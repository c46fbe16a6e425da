use Rattle.std.proofs.Common.{◌≡◌, ◌++◌, take}
use Rattle.std.specs.List.{flat_map}
use Rattle.imap_messages.specs.Fetching.{spaced_item}
use Rattle.imap_messages.proofs.items.push_others.Given as goal

abbrev pub invariant-loop-item : goal.invariant-loop-item
invariant-loop-item l = l.into ≡ l.fn.into ++ flat_map (spaced_item l.text l.row) (take l.item-index l.items)
