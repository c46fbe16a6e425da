-- The files and the record change in the same way.
use Rattle.std.proofs.Common.{◌∙◌, ◌++◌, ◌∷◌, [], List, ap, false, arith}
use Rattle.std.specs.Result.{is_ok}
use Rattle.disk_model.specs.declared.change.Change.{Change}
use Rattle.disk_model.specs.declared.change.Change.TheVariants.{Cut}
use Rattle.disk_model.proofs.Steps.{stays_current, trim_applies, push_ok}
use Rattle.disk_model.proofs.memory.MemDisk.cut_file.Goals as goal

pub invariant_of-self-2 : goal.invariant_of-self-2
invariant_of-self-2 c =
    let disk = c.args.self.now in
    let change = Cut c.args.name c.args.length in
    let room = c.in_ok-reserve.ensures.ok in
    let pushed = push_ok (is_ok c.push.result) c.reserve.new.self.items c.push.new.self.items change c.push.ensures.items (c.push.ensures.succeeds (omega (arith, room))) in
    let more = pushed ∙ ap (λ (cs : List Change). cs ++ change ∷ []) c.in_ok-reserve.ensures.items in
    record { current = stays_current disk.files c.trim.new.files disk.base disk.changes.items c.push.new.self.items change disk.current (trim_applies disk.files c.trim.new.files c.args.name c.args.length false c.trim.ensures) more }
