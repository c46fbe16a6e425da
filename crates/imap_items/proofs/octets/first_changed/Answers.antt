use Rattle.memchr.specs.Find.{is_byte3}
use Rattle.imap_items.proofs.Windows.{first-taken}
use Rattle.imap_items.proofs.octets.first_changed.Goals as goal

pub returns : goal.returns
returns c = first-taken (is_byte3 10 13 0) c.args.bytes.now c.memchr3_iter.result c.next.new.self c.next.result c.memchr3_iter.ensures.value c.next.ensures.steps
