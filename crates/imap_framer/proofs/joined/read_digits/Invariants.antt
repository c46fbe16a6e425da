-- The digits so far have the same value with those that follow.
use Rattle.std.proofs.Common.{◌≡◌, ◌≤◌, min, drop}
use Rattle.arch_base.specs.Decimals.{read_on}
use Rattle.imap_framer.proofs.joined.read_digits.Given as goal

abbrev pub invariant-loop-digit : goal.invariant-loop-digit
invariant-loop-digit l = record {
  same : min (read_on l.value (drop l.digit-index l.digits)) 16385 ≡ min (read_on l.start l.digits) 16385;
  small : l.value ≤ 16385;
}
