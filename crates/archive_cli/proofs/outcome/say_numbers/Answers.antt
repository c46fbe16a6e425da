use Rattle.std.proofs.Common.{◌≡◌, ◌++◌, ◌∷◌, [], ◌∙◌, codes, decimal, append_assoc, ap, List, ℕ}
use Rattle.edge_io.proofs.Wording.{Says-then, Says-lost}
use Rattle.answer_lines.specs.Lines.{whole_line}
use Rattle.archive_cli.proofs.outcome.say_numbers.Goals as goal

-- The parts of the line.
pieces : (live : ℕ) (rest : List ℕ) → whole_line (codes " live " ++ (decimal live ++ rest)) ≡ codes " live " ++ (decimal live ++ whole_line rest)
pieces live rest = ap (λ (t : List ℕ). codes " live " ++ t) (append_assoc (decimal live) rest (10 ∷ []))

pub returns-in_err-say-clause-said : goal.returns-in_err-say-clause-said
returns-in_err-say-clause-said g c =
    let rest : List ℕ = codes " next " ++ decimal c.args.next in
    rw (pieces c.args.live rest) (Says-lost (codes " live ") (decimal c.args.live ++ whole_line rest) _ _ _ _ _ c.from_residual.result c.from_residual.ensures.0 c.in_err-say.ensures.said)

pub returns-in_err-say-2-clause-said : goal.returns-in_err-say-2-clause-said
returns-in_err-say-2-clause-said g c =
    let rest : List ℕ = codes " next " ++ decimal c.args.next in
    let digits : c.as_bytes.result.now ≡ decimal c.args.live = c.as_bytes.ensures.value ∙ c.format.ensures.text in
    rw (pieces c.args.live rest)
    (Says-then (codes " live ") (decimal c.args.live ++ whole_line rest) _ _ _ _ _ _ _ c.from_residual-in_err-say-2.result c.in_ok-say.ensures.said (Says-lost (decimal c.args.live) (whole_line rest) _ _ _ _ _ c.from_residual-in_err-say-2.result c.from_residual-in_err-say-2.ensures.0 (rw digits at c.in_err-say-2.ensures.said)))

pub returns-clause-said : goal.returns-clause-said
returns-clause-said g c =
    let rest : List ℕ = codes " next " ++ decimal c.args.next in
    let digits : c.as_bytes.result.now ≡ decimal c.args.live = c.as_bytes.ensures.value ∙ c.format.ensures.text in
    rw (pieces c.args.live rest)
    (Says-then (codes " live ") (decimal c.args.live ++ whole_line rest) _ _ _ _ _ _ _ _ c.in_ok-say.ensures.said
    (Says-then (decimal c.args.live) (whole_line rest) _ _ _ _ _ _ _ _ (rw digits at c.in_ok-say-2.ensures.said) (rw c.from.ensures at c.say_number.ensures.said)))
