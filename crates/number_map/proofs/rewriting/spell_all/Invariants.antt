-- The bytes of the first records are made, and so long.
use Rattle.std.proofs.Common.{◌≡◌, length, take}
use Rattle.std.specs.List.{flat_map, sum_by}
use Rattle.number_map.specs.Records.{record_bytes, size_of_line}
use Rattle.number_map.proofs.rewriting.spell_all.Given as goal

abbrev pub invariant-loop-line : goal.invariant-loop-line
invariant-loop-line l = record {
  spelled : l.bytes ≡ flat_map record_bytes (take l.line-index l.lines);
  size : length l.bytes ≡ sum_by size_of_line (take l.line-index l.lines);
}
