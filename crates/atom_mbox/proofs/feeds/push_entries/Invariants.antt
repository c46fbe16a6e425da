use Rattle.std.proofs.Common.{◌≡◌, ◌++◌, take}
use Rattle.std.specs.List.{flat_map}
use Rattle.atom_mbox.specs.Feeds.{entry_of_shown}
use Rattle.atom_mbox.proofs.feeds.push_entries.Given as goal

abbrev pub invariant-loop-mail : goal.invariant-loop-mail
invariant-loop-mail l = l.into ≡ l.fn.into ++ flat_map (entry_of_shown l.name) (take l.mail-index l.mails)
