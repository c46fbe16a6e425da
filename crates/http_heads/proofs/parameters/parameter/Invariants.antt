use Rattle.std.proofs.Common.{◌≡◌}
use Rattle.form_urlencoded.specs.Form.{raw_pairs}
use Rattle.form_urlencoded.specs.Parse.{raw_pairs_left}
use Rattle.http_heads.specs.Parameters.{first_value}
use Rattle.http_heads.proofs.parameters.parameter.Given as goal

abbrev pub invariant-loop-encoded : goal.invariant-loop-encoded
invariant-loop-encoded l = first_value l.name (raw_pairs_left l.encoded-iterator) ≡ first_value l.name (raw_pairs l.query)
