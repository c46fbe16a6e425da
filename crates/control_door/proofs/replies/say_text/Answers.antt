use Rattle.std.proofs.Common.{◌++◌, decimal, codes, length}
use Rattle.edge_io.proofs.Wording.{Says-then, Says-lost}
use Rattle.answer_lines.specs.Lines.{whole_line}
use Rattle.control_door.proofs.replies.say_text.Goals as goal

pub returns-in_err-say_number-clause-said : goal.returns-in_err-say_number-clause-said
returns-in_err-say_number-clause-said g c =
    Says-lost (whole_line (codes "text " ++ decimal (length c.args.text.now))) c.args.text.now _ _ _ _ _ c.from_residual.result c.from_residual.ensures.0 c.in_err-say_number.ensures.said

pub returns-clause-said : goal.returns-clause-said
returns-clause-said g c = Says-then (whole_line (codes "text " ++ decimal (length c.args.text.now))) c.args.text.now _ _ _ _ _ _ _ _ c.in_ok-say_number.ensures.said c.say.ensures.said
