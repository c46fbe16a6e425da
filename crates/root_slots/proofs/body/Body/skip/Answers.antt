-- Some of the zeros after what is written count as written.
use Rattle.std.proofs.Common.{◌∙◌, sym, ap, List, ℕ, ◌++◌, replicate, arith}
use Rattle.root_slots.proofs.Zeros.{zeros_after, zeros_taken, written_length}
use Rattle.root_slots.proofs.body.Body.skip.Goals as goal

pub invariant_of-self : goal.invariant_of-self
invariant_of-self c =
    let written = written_length c.self.inside.bytes c.args.self.now c.self.inside.at (sym c.self.view_is) (omega (arith, c.self.invariant, c.self.ranges)) in
    (omega (arith, written, c.requires), zeros_after c.self.inside.bytes c.self.inside.at c.args.count c.self.invariant.1)

pub returns-clause-bytes : goal.returns-clause-bytes
returns-clause-bytes c =
    let written = written_length c.self.inside.bytes c.args.self.now c.self.inside.at (sym c.self.view_is) (omega (arith, c.self.invariant, c.self.ranges)) in
    zeros_taken c.self.inside.bytes c.self.inside.at c.args.count (omega (arith, written, c.requires)) c.self.invariant.1 ∙ ap (λ (b : List ℕ). b ++ replicate c.args.count 0) c.self.view_is
