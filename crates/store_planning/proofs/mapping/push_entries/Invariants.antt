-- The records are those of the first entries.
use Rattle.store_planning.specs.Mapping.{AreRecordsTo}
use Rattle.store_planning.proofs.mapping.push_entries.Given as goal

abbrev pub invariant-loop-entry : goal.invariant-loop-entry
invariant-loop-entry l = AreRecordsTo l.form l.entries l.next l.lines l.entry-index l.number
