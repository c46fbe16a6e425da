use Rattle.std.proofs.Common.{◌≡◌, drop}
use Rattle.std.specs.Prelude.{map}
use Rattle.std.specs.List.{list_any}
use Rattle.httparse.specs.Spans.{header_bytes}
use Rattle.peer_replies.specs.Bodies.{may_close}
use Rattle.peer_replies.proofs.fields.stays_open.Given as goal

abbrev pub invariant-loop-field : goal.invariant-loop-field
invariant-loop-field l = list_any may_close (map (header_bytes l.front) (drop l.field-index l.fields)) ≡ list_any may_close (map (header_bytes l.front) l.fields)
