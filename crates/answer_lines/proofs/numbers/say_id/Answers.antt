use Rattle.std.proofs.Common.{◌∙◌, ◌++◌, ◌∷◌, []}
use Rattle.hex.specs.Hex.{encode_lower}
use Rattle.arch_base.specs.Ids.{id_bytes}
use Rattle.edge_io.proofs.Wording.{Says-then}
use Rattle.answer_lines.proofs.numbers.say_id.Goals as goal

pub returns-clause-said : goal.returns-clause-said
returns-clause-said g c =
    Says-then (32 ∷ []) (encode_lower (id_bytes c.args.id.now) ++ 10 ∷ []) _ _ _ _ _ _ _ _ c.in_ok-say.ensures.said (rw (c.as_slice.ensures ∙ c.hex_of.ensures) at c.say_line.ensures.said)
