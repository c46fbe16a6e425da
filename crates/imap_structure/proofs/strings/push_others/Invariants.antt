use Rattle.std.proofs.Common.{◌≡◌, ◌++◌, take}
use Rattle.std.specs.List.{flat_map}
use Rattle.imap_structure.specs.Strings.{spaced_string}
use Rattle.imap_structure.proofs.strings.push_others.Given as goal

abbrev pub invariant-loop-string : goal.invariant-loop-string
invariant-loop-string l = l.into ≡ l.fn.into ++ flat_map spaced_string (take l.string-index l.strings)
