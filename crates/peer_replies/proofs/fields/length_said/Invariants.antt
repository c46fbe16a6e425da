use Rattle.std.proofs.Common.{◌≡◌, drop}
use Rattle.std.specs.Prelude.{map}
use Rattle.httparse.specs.Spans.{header_bytes}
use Rattle.peer_replies.specs.Bodies.{lengths_in}
use Rattle.peer_replies.proofs.Lengths.{said_before}
use Rattle.peer_replies.proofs.fields.length_said.Given as goal

abbrev pub invariant-loop-field : goal.invariant-loop-field
invariant-loop-field l = said_before l.said (lengths_in (map (header_bytes l.front) (drop l.field-index l.fields))) ≡ lengths_in (map (header_bytes l.front) l.fields)
