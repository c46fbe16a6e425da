use Rattle.std.proofs.Common.{◌++◌, ◌∷◌, codes, decimal}
use Rattle.edge_io.proofs.Wording.{Says-then, Says-lost}
use Rattle.arch_model.specs.Delivery.{file_words}
use Rattle.answer_lines.specs.Lines.{whole_line}
use Rattle.answer_lines.proofs.damage.say_damaged.Goals as goal

pub returns-in_err-say-clause-said : goal.returns-in_err-say-clause-said
returns-in_err-say-clause-said g c =
    Says-lost (codes "11 ") (whole_line (codes "damaged " ++ (file_words c.args.file ++ 32 ∷ decimal c.args.at))) _ _ _ _ _ c.from_residual.result c.from_residual.ensures.0 c.in_err-say.ensures.said

pub returns-clause-said : goal.returns-clause-said
returns-clause-said g c =
    Says-then (codes "11 ") (whole_line (codes "damaged " ++ (file_words c.args.file ++ 32 ∷ decimal c.args.at))) _ _ _ _ _ _ _ _ c.in_ok-say.ensures.said c.say_damage.ensures.said
