use Rattle.std.proofs.Common.{◌≡◌, ◌++◌, take}
use Rattle.std.specs.List.{flat_map}
use Rattle.imap_items.specs.Items.{spaced_name}
use Rattle.imap_items.proofs.labels.push_other_names.Given as goal

abbrev pub invariant-loop-name : goal.invariant-loop-name
invariant-loop-name l = l.into ≡ l.fn.into ++ flat_map spaced_name (take l.name-index l.names)
