use Rattle.std.proofs.Common.{◌≡◌, ◌<◌, ◌^◌, ℕ, false, rules, arith, get_or, sym, ap, ◌∙◌}
use Rattle.edge_io.specs.Listed.{is_listed}
use Rattle.edge_io.proofs.Ordinals.{is_listed-past}
use Rattle.edge_io.proofs.mem_source.is_listed.Goals as goal

pub returns-in-None : goal.returns-in-None
returns-in-None c =
    let fit : (k : ℕ) → get_or c.as_slice-ordinals.result.now k 0 < 2 ^ 64 = search rules in
    let none : is_listed c.as_slice-ordinals.result.now c.args.calls ≡ false = is_listed-past c.as_slice-ordinals.result.now c.args.calls (λ k. omega (arith, fit k)) in
    sym none ∙ ap (λ listed. is_listed listed c.args.calls) c.as_slice-ordinals.ensures
