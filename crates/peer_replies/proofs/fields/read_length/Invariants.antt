use Rattle.std.proofs.Common.{◌≡◌, ◌≤◌, min, drop}
use Rattle.std.specs.Str.{all_ascii_digits}
use Rattle.arch_base.specs.Decimals.{read_on}
use Rattle.peer_replies.proofs.fields.read_length.Given as goal

abbrev pub invariant-loop-byte : goal.invariant-loop-byte
invariant-loop-byte l = record {
  small : l.len ≤ 268435457;
  digits : all_ascii_digits (drop l.byte-index l.value) ≡ all_ascii_digits l.value;
  value : min (read_on l.len (drop l.byte-index l.value)) 268435457 ≡ min (read_on 0 l.value) 268435457;
}
