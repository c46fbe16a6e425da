use Rattle.std.proofs.Common.{◌≡◌, true, false, sym, ◌∙◌}
use Rattle.mirror_wire.proofs.Following.{follower-range, line-follows}
use Rattle.mirror_wire.proofs.checking.Checked.may_follow.Goals as goal

pub returns-then-not-is_in_range : goal.returns-then-not-is_in_range
returns-then-not-is_in_range c = (
  λ test. absurd (let wrong : false ≡ true = test in cc),
  λ follows. absurd (let ranged = follower-range c.args.self.now.form c.args.self.now.next c.args.self.now.epoch c.args.self.now.lines c.args.line.now c.requires.checked.epochs follows in
      let wrong : true ≡ false = sym ranged ∙ sym c.is_in_range.ensures ∙ c.if-not-is_in_range.true in
      cc),
)

pub returns : goal.returns
returns c = (
  λ test. line-follows c.args.self.now.form c.args.self.now.next c.args.self.now.epoch c.args.self.now.lines c.args.line.now c.requires.checked.epochs c.requires.blob c.requires.commit
      (sym c.is_in_range.ensures ∙ c.if-not-is_in_range.false) (c.size_may_follow.ensures.0 c.if-not-size_may_follow.false) (c.number_may_follow.ensures.0 test),
  λ follows. c.number_may_follow.ensures.1 follows.number,
)
