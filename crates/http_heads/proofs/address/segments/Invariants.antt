use Rattle.std.proofs.Common.{◌≡◌, ◌++◌}
use Rattle.std.specs.Prelude.{map}
use Rattle.percent_encoding.specs.Percent.{percent_decode}
use Rattle.http_heads.specs.Addresses.{segments_of}
use Rattle.http_heads.proofs.address.segments.Given as goal

abbrev pub invariant-loop-piece : goal.invariant-loop-piece
invariant-loop-piece l = l.made ++ map percent_decode l.piece-iterator ≡ segments_of l.path
