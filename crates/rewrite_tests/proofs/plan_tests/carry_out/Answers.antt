-- The root names no byte.
use Rattle.std.proofs.Common.{◌≡◌, ℕ, subst, arith}
use Rattle.disk_model.specs.Disk.{WhereTold, IsLength}
use Rattle.disk_model.specs.Laws.{IsLength-unchanged}
use Rattle.root_slots.specs.RootName.{root_name}
use Rattle.rewrite_tests.proofs.Bare.{bare_sizes}
use Rattle.rewrite_tests.proofs.plan_tests.carry_out.Goals as goal

pub rewrite-requires-clause-sizes : goal.rewrite-requires-clause-sizes
rewrite-requires-clause-sizes g c =
    let k = g.D.Disk.content c.args.disk.now in
    let m = g.D.Disk.content c.length.new.self in
    let whole : c.in_ok-length.field-0 ≡ 4096 = omega arith in
    bare_sizes c.args.root.now m c.requires.root (IsLength-unchanged root_name 4096 k m (subst (λ (n : ℕ). WhereTold (IsLength root_name n) k) whole c.in_ok-length.ensures.length) c.in_ok-length.ensures.same)
