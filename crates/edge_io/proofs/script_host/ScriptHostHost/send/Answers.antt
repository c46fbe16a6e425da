use Rattle.std.proofs.Common.{refl, arith}
use Rattle.edge_io.specs.MemHosts.{outputs_in}
use Rattle.edge_io.proofs.Framing.{touched-more, took-grows, kept-grows, events-kept}
use Rattle.edge_io.proofs.script_host.ScriptHostHost.send.Goals as goal

-- The bytes were appended.
pub invariant_of-self : goal.invariant_of-self
invariant_of-self c = (
  touched-more (outputs_in c.self.inside.outlets) (outputs_in c.send.new.self) c.self.inside.marks.items c.self.inside.touched c.add.new.self c.args.conn c.self.invariant.0 c.add.ensures.bounded c.add.ensures.inside c.add.ensures.others
      (took-grows (outputs_in c.self.inside.outlets) (outputs_in c.send.new.self) c.args.conn c.args.bytes.now c.in-Ok.ensures.ok c.in-Ok.ensures.others) c.in-Ok.ensures.others (λ other apart. c.in-Ok.ensures.closings other),
  omega (arith, c.self.invariant.1, c.in-Ok.ensures.cause.kept),
)

-- None of them was.
pub invariant_of-self-in-Err : goal.invariant_of-self-in-Err
invariant_of-self-in-Err c = (
  touched-more (outputs_in c.self.inside.outlets) (outputs_in c.send.new.self) c.self.inside.marks.items c.self.inside.touched c.add.new.self c.args.conn c.self.invariant.0 c.add.ensures.bounded c.add.ensures.inside c.add.ensures.others
      (kept-grows (outputs_in c.self.inside.outlets) (outputs_in c.send.new.self) c.args.conn c.in-Err.ensures.err c.in-Err.ensures.others) c.in-Err.ensures.others (λ other apart. c.in-Err.ensures.closings other),
  omega (arith, c.self.invariant.1, c.in-Err.ensures.rose, c.saturating_add-self-inside.ensures),
)

-- The record is kept.
pub returns-in-Ok-clause-events : goal.returns-in-Ok-clause-events
returns-in-Ok-clause-events c = events-kept _ _ _ c.self.inside.touched c.self.view_is c.self.invariant.0 refl refl refl refl
    (took-grows (outputs_in c.self.inside.outlets) (outputs_in c.send.new.self) c.args.conn c.args.bytes.now c.in-Ok.ensures.ok c.in-Ok.ensures.others)
