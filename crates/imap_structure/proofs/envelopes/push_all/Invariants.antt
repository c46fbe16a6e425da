use Rattle.std.proofs.Common.{◌≡◌, ◌++◌, take}
use Rattle.std.specs.List.{flat_map}
use Rattle.imap_structure.specs.Envelopes.{address_text}
use Rattle.imap_structure.proofs.envelopes.push_all.Given as goal

abbrev pub invariant-loop-address : goal.invariant-loop-address
invariant-loop-address l = l.into ≡ l.fn.into ++ flat_map address_text (take l.address-index l.addresses)
