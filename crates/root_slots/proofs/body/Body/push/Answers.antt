-- The bytes after what is written stay zeros.
use Rattle.std.proofs.Common.{◌∙◌, sym, ◌+◌, ◌-◌, length, arith}
use Rattle.std.proofs.lemmas.Slice.{drop-put_mid}
use Rattle.root_slots.proofs.Zeros.{zeros_after, written_length}
use Rattle.root_slots.proofs.body.Body.push.Goals as goal

pub invariant_of-self : goal.invariant_of-self
invariant_of-self c =
    let at = c.self.inside.at in
    let bytes = c.self.inside.bytes in
    let field = c.args.field.now in
    let written = written_length bytes c.args.self.now at (sym c.self.view_is) (omega (arith, c.self.invariant, c.self.ranges)) in
    let after = c.copy_from_slice.ensures.after in
    (omega (arith, written, c.requires), drop-put_mid at (at + length field - at) bytes c.copy_from_slice.new.self (at + length field) (omega arith) (omega (arith, c.self.invariant, c.self.ranges)) (omega arith) ∙ zeros_after bytes at (length field) c.self.invariant.1)
