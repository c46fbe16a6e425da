use Rattle.std.proofs.Common.{◌≡◌, ◌++◌, length, take, drop}
use Rattle.mail_forms.specs.WireForms.{wire_of}
use Rattle.mail_forms.proofs.wire_form.push_all.Given as goal

abbrev pub invariant-loop-byte : goal.invariant-loop-byte
invariant-loop-byte l = record {
  sent : l.into ++ wire_of (drop l.byte-index l.text) ≡ l.fn.into ++ wire_of l.text;
  kept : take (length l.fn.into) l.into ≡ l.fn.into;
}
