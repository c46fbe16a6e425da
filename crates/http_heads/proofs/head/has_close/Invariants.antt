use Rattle.std.proofs.Common.{◌≡◌, drop}
use Rattle.std.specs.Prelude.{map}
use Rattle.std.specs.List.{list_any}
use Rattle.httparse.specs.Spans.{header_bytes}
use Rattle.http_heads.specs.Heads.{asks_close}
use Rattle.http_heads.proofs.head.has_close.Given as goal

abbrev pub invariant-loop-field : goal.invariant-loop-field
invariant-loop-field l = list_any asks_close (map (header_bytes l.bytes) (drop l.field-index l.fields)) ≡ list_any asks_close (map (header_bytes l.bytes) l.fields)
