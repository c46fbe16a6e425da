use Rattle.std.proofs.Common.{arith}
use Rattle.nntp_reader.proofs.Digits.{year-printed}
use Rattle.nntp_reader.proofs.moments.year_of.Goals as goal

pub returns-clause-value : goal.returns-clause-value
returns-clause-value c =
    let read = year-printed c.args.moment c.print_rfc3339-text.result c.printed_date_is_one.ensures c.requires c.print_rfc3339-text.ensures in
    omega (arith, read)
