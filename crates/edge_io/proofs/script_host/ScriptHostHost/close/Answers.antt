use Rattle.std.proofs.Common.{arith}
use Rattle.edge_io.specs.MemHosts.{outputs_in}
use Rattle.edge_io.proofs.Framing.{touched-more, same-grows}
use Rattle.edge_io.proofs.script_host.ScriptHostHost.close.Goals as goal

-- No connection took more.
pub invariant_of-self : goal.invariant_of-self
invariant_of-self c = (
  touched-more (outputs_in c.self.inside.outlets) (outputs_in c.close.new.self) c.self.inside.marks.items c.self.inside.touched c.add.new.self c.args.conn c.self.invariant.0 c.add.ensures.bounded c.add.ensures.inside c.add.ensures.others
      (λ other. same-grows (outputs_in c.self.inside.outlets) (outputs_in c.close.new.self) other (c.close.ensures.taken other)) (λ other apart. c.close.ensures.taken other) c.close.ensures.others,
  omega (arith, c.self.invariant.1, c.close.ensures.lost),
)
