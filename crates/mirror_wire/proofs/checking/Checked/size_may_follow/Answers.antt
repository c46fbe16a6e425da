use Rattle.std.proofs.Common.{◌≡◌, refl, sym, ap, ◌∙◌, Some, arith}
use Rattle.std.proofs.lemmas.Bool.Decides.{nat_tests}
use Rattle.mirror_wire.proofs.Following.{size-free, size-known, size-other}
use Rattle.mirror_wire.proofs.checking.Checked.size_may_follow.Goals as goal

pub returns-in-Some : goal.returns-in-Some
returns-in-Some c = (
  λ yes. (let same : c.in-Some.size ≡ c.args.line.now.size = grind (arith, nat_tests, yes) in
      size-known c.args.self.now.sizes c.args.self.now.lines c.args.line.now.blob c.args.line.now.size c.requires.sizes (sym c.in-Some.ensures ∙ ap Some same)),
  λ all. (let same : c.in-Some.size ≡ c.args.line.now.size = size-other c.args.self.now.sizes c.args.self.now.lines c.args.line.now.blob c.in-Some.size c.args.line.now.size c.requires.sizes (sym c.in-Some.ensures) all in
      grind (arith, nat_tests, same)),
)

pub returns-in-None : goal.returns-in-None
returns-in-None c = (
  λ yes. size-free c.args.self.now.sizes c.args.self.now.lines c.args.line.now.blob c.args.line.now.size c.requires.sizes (sym c.in-None.ensures),
  λ all. refl,
)
