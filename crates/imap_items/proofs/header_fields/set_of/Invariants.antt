use Rattle.std.proofs.Common.{take}
use Rattle.imap_items.specs.NameSets.{IsNameSet}
use Rattle.imap_items.proofs.header_fields.set_of.Given as goal

abbrev pub invariant-loop-name : goal.invariant-loop-name
invariant-loop-name l = IsNameSet (take l.name-index l.names) l.set
