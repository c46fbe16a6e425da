use Rattle.archive_cli.specs.Words.{spelled}
use Rattle.archive_cli.proofs.Grammar.{Purging, numbered_read, numbered_unread}
use Rattle.archive_cli.proofs.words.read_purge.Goals as goal

pub returns-in_err-number : goal.returns-in_err-number
returns-in_err-number c = rw c.from_residual.ensures (numbered_unread Purging c.args.word.now (spelled c.args.more.now) c.in_err-number.ensures)

pub returns : goal.returns
returns c = numbered_read Purging c.args.word.now (spelled c.args.more.now) c.in_ok-number.number c.in_ok-number.ensures
