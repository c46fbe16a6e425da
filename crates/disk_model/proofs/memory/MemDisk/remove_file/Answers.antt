-- The files and the record change in the same way.
use Rattle.std.proofs.Common.{◌∙◌, ◌++◌, ◌∷◌, [], List, ap, arith}
use Rattle.std.specs.Result.{is_ok}
use Rattle.disk_model.specs.declared.change.Change.{Change}
use Rattle.disk_model.specs.declared.change.Change.TheVariants.{Remove}
use Rattle.disk_model.proofs.Steps.{stays_current, push_ok}
use Rattle.disk_model.proofs.memory.MemDisk.remove_file.Goals as goal

pub invariant_of-self-2 : goal.invariant_of-self-2
invariant_of-self-2 c =
    let disk = c.args.self.now in
    let change = Remove c.args.name in
    let room = c.in_ok-reserve.ensures.ok in
    let pushed = push_ok (is_ok c.push.result) c.reserve.new.self.items c.push.new.self.items change c.push.ensures.items (c.push.ensures.succeeds (omega (arith, room))) in
    let more = pushed ∙ ap (λ (cs : List Change). cs ++ change ∷ []) c.in_ok-reserve.ensures.items in
    record { current = stays_current disk.files c.drop_file.new.files disk.base disk.changes.items c.push.new.self.items change disk.current c.drop_file.ensures more }
