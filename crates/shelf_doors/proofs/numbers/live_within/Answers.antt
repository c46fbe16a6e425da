use Rattle.std.proofs.Common.{sym, ◌∙◌, arith}
use Rattle.arch_model.specs.Archives.{live}
use Rattle.shelf_doors.proofs.Walking.{least-within, least-beyond, least-none}
use Rattle.shelf_doors.proofs.numbers.live_within.Goals as goal
use Rattle.shelf_doors.proofs.numbers.live_within.Goals.{then-found-first-via-then-found-first, then-found-first-via-else-found-first+then-found-last}

pub returns-in_err-found-clause-number : goal.returns-in_err-found-clause-number
returns-in_err-found-clause-number g c = λ a holds. c.from_residual.ensures ∙ sym (least-none (live a.entries) c.args.first c.args.last (c.in_err-found.ensures a holds))

pub returns-then-found-first-clause-number : goal.returns-then-found-first-clause-number
returns-then-found-first-clause-number g c = λ a holds.
    let least = c.in_ok-found.ensures a holds in
    elim c.then-found-first.branch [
      | then-found-first-via-then-found-first w ↦ absurd (let low = least.0 in omega arith)
      | then-found-first-via-else-found-first+then-found-last w ↦ sym (least-beyond (live a.entries) c.args.first c.args.last c.in_ok-found.found least (omega arith))
    ]

pub returns-clause-number : goal.returns-clause-number
returns-clause-number g c = λ a holds. sym (least-within (live a.entries) c.args.first c.args.last c.in_ok-found.found (c.in_ok-found.ensures a holds) (omega arith))
