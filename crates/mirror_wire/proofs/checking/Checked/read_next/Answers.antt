use Rattle.std.proofs.Common.{◌≡◌, true, false, sym, ◌∙◌}
use Rattle.mirror_wire.specs.Lists.{entry_part}
use Rattle.mirror_wire.specs.Rules.{MayFollow}
use Rattle.mirror_wire.specs.Parts.{IsEntryLine}
use Rattle.mirror_wire.proofs.Fewer.{lacks-fewer, lacks-other, begins-fewer}
use Rattle.mirror_wire.proofs.Following.{checked-spelled}
use Rattle.mirror_wire.proofs.checking.Checked.read_next.Goals as goal

pub returns-in_err-line : goal.returns-in_err-line
returns-in_err-line c = rw c.from_residual.ensures
    (lacks-fewer (MayFollow c.args.self.now.form c.args.self.now.next c.args.self.now.lines) (IsEntryLine c.args.self.now.form) entry_part c.args.bytes.now
    (checked-spelled c.args.self.now c.requires) c.in_err-line.ensures)

pub returns-then-not-may_follow : goal.returns-then-not-may_follow
returns-then-not-may_follow c =
    lacks-other (MayFollow c.args.self.now.form c.args.self.now.next c.args.self.now.lines) (IsEntryLine c.args.self.now.form) entry_part c.args.bytes.now c.in_ok-line.line c.in_ok-line.rest.now
    (checked-spelled c.args.self.now c.requires) c.in_ok-line.ensures
    (λ follows. (let wrong : true ≡ false = sym (c.may_follow.ensures.1 follows) ∙ c.if-not-may_follow.true in cc))

pub returns : goal.returns
returns c =
    begins-fewer (MayFollow c.args.self.now.form c.args.self.now.next c.args.self.now.lines) (IsEntryLine c.args.self.now.form) entry_part c.args.bytes.now c.in_ok-line.line c.in_ok-line.rest.now
    (checked-spelled c.args.self.now c.requires) c.in_ok-line.ensures (c.may_follow.ensures.0 c.if-not-may_follow.false)
