use Rattle.std.proofs.Common.{◌≡◌, ◌++◌, take, drop, length}
use Rattle.mail_forms.specs.WireForms.{wire_of}
use Rattle.imap_items.proofs.octets.push_window.Given as goal

abbrev pub invariant-loop-rest : goal.invariant-loop-rest
invariant-loop-rest l = record {
  told : l.into ++ take l.window.room (drop l.window.skip (wire_of l.rest)) ≡ l.fn.into ++ take l.room (drop l.skip (wire_of l.source));
  kept : take (length l.fn.into) l.into ≡ l.fn.into;
}

abbrev pub decreases-loop-rest : goal.decreases-loop-rest
decreases-loop-rest l = length l.rest
