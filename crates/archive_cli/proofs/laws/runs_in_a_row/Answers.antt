use Rattle.archive_cli.proofs.Rows.{in-a-row}
use Rattle.archive_cli.proofs.laws.runs_in_a_row.Goals as goal

pub returns : goal.returns
returns c = in-a-row c.numbers_keep_their_texts.ensures.delivered c.numbers_keep_their_texts.ensures.removed c.law_of_numbers.ensures.itself c.law_of_commands.ensures.follows c.law_of_conversions.ensures.follows
