use Rattle.std.proofs.Common.{◌≡◌, ◌-◌, ◌+◌, ◌++◌, ℕ, List, Some, length, take, drop, ap, subst, arith}
use Rattle.std.proofs.lemmas.Grind.{common_steps}
use Rattle.edge_io.specs.Left.{GaveBytes}
use Rattle.edge_io.specs.MemSources.{SourceState}
use Rattle.edge_io.proofs.Fronts.{gave-front}
use Rattle.edge_io.proofs.mem_source.MemSourceSource.read.Goals as goal

pub returns-clause-gave : goal.returns-clause-gave
returns-clause-gave c =
    let left : take (length c.as_slice.result.now - c.self.inside.at) (drop c.self.inside.at c.as_slice.result.now) ≡ drop c.self.inside.at c.self.inside.bytes = grind (arith, common_steps) in
    let P : List ℕ → Type 0 = λ left. GaveBytes c.min-count.result (c.copy_from_slice.new.self ++ drop c.min-count.result c.args.into.now) (Some left) (Some (drop (c.self.inside.at + c.min-count.result) c.self.inside.bytes)) in
    subst P (ap (λ (s : SourceState). s.left) c.self.view_is) (gave-front c.self.inside.bytes c.args.into.now c.copy_from_slice.new.self c.self.inside.at c.min-count.result c.requires
    (rw left at c.min-count.ensures) (rw left at c.copy_from_slice.ensures.after))
