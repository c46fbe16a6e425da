use Rattle.std.proofs.Common.{◌++◌, ◌∷◌, [], decimal, append_assoc, ◌∙◌, ◌≡◌}
use Rattle.edge_io.proofs.Wording.{Says-then, Says-lost}
use Rattle.answer_lines.proofs.numbers.say_number.Goals as goal

pub returns-in_err-say-clause-said : goal.returns-in_err-say-clause-said
returns-in_err-say-clause-said g c = rw append_assoc (Says-lost c.args.words.now (decimal c.args.number ++ 10 ∷ []) _ _ _ _ _ c.from_residual.result c.from_residual.ensures.0 c.in_err-say.ensures.said)

pub returns-clause-said : goal.returns-clause-said
returns-clause-said g c =
    let digits : c.as_bytes.result.now ≡ decimal c.args.number = c.as_bytes.ensures.value ∙ c.format.ensures.text in
    rw append_assoc (Says-then c.args.words.now (decimal c.args.number ++ 10 ∷ []) _ _ _ _ _ _ _ _ c.in_ok-say.ensures.said (rw digits at c.say_line.ensures.said))
