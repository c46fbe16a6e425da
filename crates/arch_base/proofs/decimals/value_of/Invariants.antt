use Rattle.std.proofs.Common.{◌≡◌, ◌<◌, ◌^◌, drop}
use Rattle.std.specs.Str.{all_ascii_digits}
use Rattle.arch_base.specs.Decimals.{read_on}
use Rattle.arch_base.proofs.decimals.value_of.Given as goal

abbrev pub invariant-loop-byte : goal.invariant-loop-byte
invariant-loop-byte l = record {
  value : read_on l.value (drop l.byte-index l.text) ≡ read_on 0 l.text;
  fits : l.value < 2 ^ 64;
  digits : all_ascii_digits (drop l.byte-index l.text) ≡ all_ascii_digits l.text;
}
