use Rattle.std.proofs.Common.{◌++◌, ◌∷◌, List, ℕ, codes, decimal}
use Rattle.edge_io.proofs.Wording.{Says-then, Says-lost}
use Rattle.arch_model.specs.Delivery.{file_words}
use Rattle.answer_lines.specs.Lines.{whole_line}
use Rattle.answer_lines.proofs.Parts.{line-parts}
use Rattle.answer_lines.proofs.damage.say_damage.Goals as goal

pub returns-in_err-say-clause-said : goal.returns-in_err-say-clause-said
returns-in_err-say-clause-said g c =
    let file : List ℕ = file_words c.args.file in
    let offset : List ℕ = 32 ∷ decimal c.args.at in
    rw (line-parts (codes "damaged ") file offset) (Says-lost (codes "damaged ") (file ++ whole_line offset) _ _ _ _ _ c.from_residual.result c.from_residual.ensures.0 c.in_err-say.ensures.said)

pub returns-in_err-say_file-clause-said : goal.returns-in_err-say_file-clause-said
returns-in_err-say_file-clause-said g c =
    let file : List ℕ = file_words c.args.file in
    let offset : List ℕ = 32 ∷ decimal c.args.at in
    rw (line-parts (codes "damaged ") file offset)
    (Says-then (codes "damaged ") (file ++ whole_line offset) _ _ _ _ _ _ _ c.from_residual-in_err-say_file.result c.in_ok-say.ensures.said
    (Says-lost file (whole_line offset) _ _ _ _ _ c.from_residual-in_err-say_file.result c.from_residual-in_err-say_file.ensures.0 c.in_err-say_file.ensures.said))

pub returns-clause-said : goal.returns-clause-said
returns-clause-said g c =
    let file : List ℕ = file_words c.args.file in
    let offset : List ℕ = 32 ∷ decimal c.args.at in
    rw (line-parts (codes "damaged ") file offset)
    (Says-then (codes "damaged ") (file ++ whole_line offset) _ _ _ _ _ _ _ _ c.in_ok-say.ensures.said (Says-then file (whole_line offset) _ _ _ _ _ _ _ _ c.in_ok-say_file.ensures.said c.say_number.ensures.said))
