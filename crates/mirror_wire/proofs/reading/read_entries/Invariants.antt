use Rattle.std.proofs.Common.{◌≡◌, length}
use Rattle.mirror_wire.specs.Parts.{entries_part}
use Rattle.mirror_wire.specs.Checking.{IsChecked}
use Rattle.mirror_wire.proofs.reading.read_entries.Given as goal

abbrev pub invariant-loop-line : goal.invariant-loop-line
invariant-loop-line l = record {
  checked : IsChecked l.checked;
  form : l.checked.form ≡ l.fn.form;
  next : l.checked.next ≡ l.next;
  is : l.text ≡ entries_part l.checked.lines l.rest;
}

abbrev pub decreases-loop-line : goal.decreases-loop-line
decreases-loop-line l = length l.rest
