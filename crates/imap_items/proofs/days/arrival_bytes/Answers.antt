use Rattle.std.proofs.Common.{arith}
use Rattle.arch_base.specs.Moments.{last_moment}
use Rattle.imap_items.proofs.Arrivals.{arrival-printed}
use Rattle.imap_items.proofs.days.arrival_bytes.Goals as goal

pub returns : goal.returns
returns c = arrival-printed c.args.secs last_moment c.min.result c.print_imap.result c.printed_date_is_one.ensures (omega arith) c.min.ensures c.print_imap.ensures
