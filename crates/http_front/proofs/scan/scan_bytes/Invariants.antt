use Rattle.std.proofs.Common.{◌≡◌, drop}
use Rattle.http_front.specs.Fronts.{plus_len}
use Rattle.http_front.specs.Scans.{scan, seen_after}
use Rattle.http_front.proofs.scan.scan_bytes.Given as goal

abbrev pub invariant-loop-byte : goal.invariant-loop-byte
invariant-loop-byte l = record {
  whole : scan l.fn.seen l.bytes ≡ plus_len l.len (scan l.seen (drop l.byte-index l.bytes));
  after : seen_after l.fn.seen l.bytes ≡ seen_after l.seen (drop l.byte-index l.bytes);
  count : l.len ≡ l.byte-index;
}
