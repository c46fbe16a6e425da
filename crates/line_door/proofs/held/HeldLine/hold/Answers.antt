use Rattle.std.proofs.Common.{◌++◌, arith, ap, sym, ◌∙◌}
use Rattle.line_door.specs.Skipping.{skipping_front}
use Rattle.line_door.proofs.Clipping.{held-written, held-unended}
use Rattle.line_door.proofs.held.HeldLine.hold.Goals as goal

pub invariant_of-self : goal.invariant_of-self
invariant_of-self c = (
  omega (arith, c.split_at.ensures.front_len),
  ap (skipping_front 512) (held-written 512 c.min.result c.self.inside.len _ c.self.inside.bytes c.args.self.now c.args.bytes.now c.split_at.result.0.now c.copy_from_slice.new.self c.self.invariant.0 (omega arith) (sym c.self.view_is) c.min.ensures c.split_at.ensures.front c.copy_from_slice.ensures.after)
      ∙ held-unended 512 (c.args.self.now ++ c.args.bytes.now) c.requires,
)

pub returns : goal.returns
returns c =
    held-written 512 c.min.result c.self.inside.len _ c.self.inside.bytes c.args.self.now c.args.bytes.now c.split_at.result.0.now c.copy_from_slice.new.self c.self.invariant.0 (omega arith) (sym c.self.view_is) c.min.ensures c.split_at.ensures.front c.copy_from_slice.ensures.after
