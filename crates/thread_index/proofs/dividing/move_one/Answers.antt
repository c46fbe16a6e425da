use Rattle.std.proofs.Common.{sym}
use Rattle.thread_model.proofs.Entries.{at-among}
use Rattle.thread_index.proofs.Moved.{moves-missing, moves-one}
use Rattle.thread_index.proofs.dividing.move_one.Goals as goal

-- src/dividing.rt:29:9
pub returns-then-not-remove : goal.returns-then-not-remove
returns-then-not-remove c = moves-missing c.args.pending.now.keys c.remove.new.self.keys c.args.part.now.items c.args.n c.requires (sym c.if-not-remove.ensures.test) c.if-not-remove.ensures.unchanged

-- src/dividing.rt:23:1
pub returns : goal.returns
returns c =
    moves-one c.args.pending.now.keys c.remove.new.self.keys c.args.part.now.items c.push.new.self.items c.args.n c.requires
    (at-among c.args.pending.now.keys c.args.n (sym c.if-not-remove.ensures.test))
    c.remove.ensures.keys c.if-not-remove.ensures.len c.remove.ensures.ordered c.in_ok-push.ensures.items
