use Rattle.edge_io.proofs.Framing.{zeros_made}
use Rattle.edge_io.proofs.outlets.zeros.Goals as goal

pub returns : goal.returns
returns c = zeros_made c.args.len c.in_ok-vec.field-0.items (c.in_ok-vec.ensures.items_if_clones_equal (λ y is. is))
