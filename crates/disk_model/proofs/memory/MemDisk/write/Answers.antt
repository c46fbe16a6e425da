-- The files and the record change in the same way.
use Rattle.std.proofs.Common.{◌∙◌, ◌++◌, ◌∷◌, [], List, ap, false, arith}
use Rattle.std.specs.Result.{is_ok}
use Rattle.disk_model.specs.declared.change.Change.{Change}
use Rattle.disk_model.specs.declared.change.Change.TheVariants.{Write}
use Rattle.disk_model.proofs.Steps.{stays_current, put_applies, push_ok}
use Rattle.disk_model.proofs.memory.MemDisk.write.Goals as goal

pub invariant_of-self-2 : goal.invariant_of-self-2
invariant_of-self-2 c =
    let disk = c.args.self.now in
    let piece = c.in_ok-piece.piece in
    let change = Write c.args.name c.args.offset piece in
    let room = c.in_ok-reserve.ensures.ok in
    let pushed = push_ok (is_ok c.push.result) c.reserve.new.self.items c.push.new.self.items change c.push.ensures.items (c.push.ensures.succeeds (omega (arith, room))) in
    let more = pushed ∙ ap (λ (cs : List Change). cs ++ change ∷ []) c.in_ok-reserve.ensures.items in
    let same = c.in_ok-piece.ensures.items_if_clones_equal (λ x y is. is) in
    record { current = stays_current disk.files c.put.new.files disk.base disk.changes.items c.push.new.self.items change disk.current (put_applies disk.files c.put.new.files c.args.name c.args.offset false c.args.bytes.now piece same c.in_ok-put.ensures.ok) more }

pub returns-clause-ok : goal.returns-clause-ok
returns-clause-ok c =
    let piece = c.in_ok-piece.piece in
    let change = Write c.args.name c.args.offset piece in
    (piece, c.in_ok-piece.ensures.items_if_clones_equal (λ x y is. is), c.in_ok-push.ensures.items ∙ ap (λ (cs : List Change). cs ++ change ∷ []) c.in_ok-reserve.ensures.items)
