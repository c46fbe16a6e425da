use Rattle.std.proofs.Common.{◌≡◌, ◌+◌, ◌*◌, ◌++◌, ℕ, List, length}
use Rattle.disk_model.specs.Sizes.{record_size}
use Rattle.number_map.specs.Records.{AreRecordsFrom}
use Rattle.number_map.specs.Pieces.{RecordsStand}
use Rattle.number_map.proofs.pieces.read_piece.Given as goal

abbrev pub invariant-loop : goal.invariant-loop
invariant-loop l = record {
  count : length l.lines ≡ length l.fn.lines + l.counter;
  left : length l.rest + record_size l.form * l.counter ≡ length l.bytes;
  valid : AreRecordsFrom l.form 1 l.fn.lines → AreRecordsFrom l.form 1 l.lines;
  stands : (map after : List ℕ) → RecordsStand l.form l.fn.lines (l.bytes ++ after) map → RecordsStand l.form l.lines (l.rest ++ after) map;
}
