use Rattle.std.proofs.Common.{◌≡◌}
use Rattle.std.specs.List.{list_any}
use Rattle.http_heads.specs.Pieces.{pieces_of}
use Rattle.http_heads.specs.Heads.{is_close}
use Rattle.http_heads.proofs.fields.has_close.Given as goal

abbrev pub invariant-loop-piece : goal.invariant-loop-piece
invariant-loop-piece l = list_any is_close l.piece-iterator ≡ list_any is_close (pieces_of 44 l.value)
