use Rattle.std.proofs.Common.{◌∙◌, ◌++◌, ◌∷◌, List, ℕ, codes}
use Rattle.hex.specs.Hex.{encode_lower}
use Rattle.arch_base.specs.Ids.{id_bytes}
use Rattle.edge_io.proofs.Wording.{Says-then, Says-lost}
use Rattle.answer_lines.specs.Lines.{whole_line}
use Rattle.answer_lines.proofs.Parts.{line-parts}
use Rattle.answer_lines.proofs.refusals.say_other_text.Goals as goal

pub returns-in_err-say-clause-said : goal.returns-in_err-say-clause-said
returns-in_err-say-clause-said g c =
    let named : List ℕ = encode_lower (id_bytes c.args.named.now) in
    let found : List ℕ = 32 ∷ encode_lower (id_bytes c.args.found.now) in
    rw (line-parts (codes "11 damaged ") named found) (Says-lost (codes "11 damaged ") (named ++ whole_line found) _ _ _ _ _ c.from_residual.result c.from_residual.ensures.0 c.in_err-say.ensures.said)

pub returns-in_err-say-2-clause-said : goal.returns-in_err-say-2-clause-said
returns-in_err-say-2-clause-said g c =
    let named : List ℕ = encode_lower (id_bytes c.args.named.now) in
    let found : List ℕ = 32 ∷ encode_lower (id_bytes c.args.found.now) in
    rw (line-parts (codes "11 damaged ") named found)
    (Says-then (codes "11 damaged ") (named ++ whole_line found) _ _ _ _ _ _ _ c.from_residual-in_err-say-2.result c.in_ok-say.ensures.said
    (Says-lost named (whole_line found) _ _ _ _ _ c.from_residual-in_err-say-2.result c.from_residual-in_err-say-2.ensures.0 (rw (c.as_slice.ensures ∙ c.hex_of.ensures) at c.in_err-say-2.ensures.said)))

pub returns-clause-said : goal.returns-clause-said
returns-clause-said g c =
    let named : List ℕ = encode_lower (id_bytes c.args.named.now) in
    let found : List ℕ = 32 ∷ encode_lower (id_bytes c.args.found.now) in
    rw (line-parts (codes "11 damaged ") named found)
    (Says-then (codes "11 damaged ") (named ++ whole_line found) _ _ _ _ _ _ _ _ c.in_ok-say.ensures.said (Says-then named (whole_line found) _ _ _ _ _ _ _ _ (rw (c.as_slice.ensures ∙ c.hex_of.ensures) at c.in_ok-say-2.ensures.said) c.say_id.ensures.said))
