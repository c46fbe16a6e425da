use Rattle.std.proofs.Common.{◌≡◌, ◌++◌, length, take}
use Rattle.percent_encoding.specs.Iter.{encoded_text}
use Rattle.web_text.specs.Addresses.{escaped_bytes}
use Rattle.web_text.proofs.addresses.push_bytes.Given as goal

abbrev pub invariant-loop-piece : goal.invariant-loop-piece
invariant-loop-piece l = record {
  pushed : l.into ++ encoded_text l.piece-iterator ≡ l.fn.into ++ escaped_bytes l.bytes;
  kept : take (length l.fn.into) l.into ≡ l.fn.into;
}
