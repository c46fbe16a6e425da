use Rattle.std.proofs.Common.{◌++◌, arith, ap, sym, ◌∙◌}
use Rattle.line_door.specs.Skipping.{skipping_front}
use Rattle.line_door.proofs.Clipping.{held-written, held-unended}
use Rattle.line_door.proofs.part.HeldPart.hold.Goals as goal

pub invariant_of-self : goal.invariant_of-self
invariant_of-self g c = (
  omega (arith, c.split_at.ensures.front_len),
  ap (skipping_front g.row.LIMIT) (held-written g.row.LIMIT c.min.result c.self.inside.len _ c.self.inside.bytes c.args.self.now c.args.bytes.now c.split_at.result.0.now c.copy_from_slice.new.self c.self.invariant.0 (omega arith) (sym c.self.view_is) c.min.ensures c.split_at.ensures.front c.copy_from_slice.ensures.after)
      ∙ held-unended g.row.LIMIT (c.args.self.now ++ c.args.bytes.now) c.requires,
)

pub returns : goal.returns
returns g c =
    held-written g.row.LIMIT c.min.result c.self.inside.len _ c.self.inside.bytes c.args.self.now c.args.bytes.now c.split_at.result.0.now c.copy_from_slice.new.self c.self.invariant.0 (omega arith) (sym c.self.view_is) c.min.ensures c.split_at.ensures.front c.copy_from_slice.ensures.after
