use Rattle.std.proofs.Common.{◌≡◌, ◌≤◌, length}
use Rattle.imap_items.specs.Finding.{after_deeper}
use Rattle.imap_items.proofs.places.after_deeper.Given as goal

abbrev pub invariant-loop-rest : goal.invariant-loop-rest
invariant-loop-rest l = record {
  parts : after_deeper l.depth l.rest ≡ after_deeper l.depth l.parts;
  len : length l.rest ≤ length l.parts;
}

abbrev pub decreases-loop-rest : goal.decreases-loop-rest
decreases-loop-rest l = length l.rest
