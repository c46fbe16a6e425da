use Rattle.std.proofs.Common.{◌≡◌, ◌++◌, ◌∷◌, ◌∙◌, List, ℕ, codes, decimal}
use Rattle.hex.specs.Hex.{encode_lower}
use Rattle.arch_base.specs.Ids.{id_bytes}
use Rattle.edge_io.proofs.Wording.{Says-then, Says-lost}
use Rattle.answer_lines.specs.Lines.{whole_line}
use Rattle.answer_lines.proofs.Parts.{line-parts}
use Rattle.answer_lines.proofs.answers.say_accepted.Goals as goal

pub returns-in_err-say-clause-said : goal.returns-in_err-say-clause-said
returns-in_err-say-clause-said g c =
    let id : List ℕ = 32 ∷ encode_lower (id_bytes c.args.id.now) in
    rw (line-parts (codes "1 ok ") (decimal c.args.number) id) (Says-lost (codes "1 ok ") (decimal c.args.number ++ whole_line id) _ _ _ _ _ c.from_residual.result c.from_residual.ensures.0 c.in_err-say.ensures.said)

pub returns-in_err-say-2-clause-said : goal.returns-in_err-say-2-clause-said
returns-in_err-say-2-clause-said g c =
    let id : List ℕ = 32 ∷ encode_lower (id_bytes c.args.id.now) in
    let digits : c.as_bytes.result.now ≡ decimal c.args.number = c.as_bytes.ensures.value ∙ c.format.ensures.text in
    rw (line-parts (codes "1 ok ") (decimal c.args.number) id)
    (Says-then (codes "1 ok ") (decimal c.args.number ++ whole_line id) _ _ _ _ _ _ _ c.from_residual-in_err-say-2.result c.in_ok-say.ensures.said
    (Says-lost (decimal c.args.number) (whole_line id) _ _ _ _ _ c.from_residual-in_err-say-2.result c.from_residual-in_err-say-2.ensures.0 (rw digits at c.in_err-say-2.ensures.said)))

pub returns-clause-said : goal.returns-clause-said
returns-clause-said g c =
    let id : List ℕ = 32 ∷ encode_lower (id_bytes c.args.id.now) in
    let digits : c.as_bytes.result.now ≡ decimal c.args.number = c.as_bytes.ensures.value ∙ c.format.ensures.text in
    rw (line-parts (codes "1 ok ") (decimal c.args.number) id)
    (Says-then (codes "1 ok ") (decimal c.args.number ++ whole_line id) _ _ _ _ _ _ _ _ c.in_ok-say.ensures.said (Says-then (decimal c.args.number) (whole_line id) _ _ _ _ _ _ _ _ (rw digits at c.in_ok-say-2.ensures.said) c.say_id.ensures.said))
