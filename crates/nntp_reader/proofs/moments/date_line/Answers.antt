use Rattle.nntp_reader.proofs.Digits.{words-printed}
use Rattle.nntp_reader.proofs.moments.date_line.Goals as goal

pub returns : goal.returns
returns c = words-printed c.args.moment c.print_rfc3339-text.result c.printed_date_is_one.ensures c.requires c.print_rfc3339-text.ensures
