use Rattle.archive_cli.proofs.LoadWords.{count-unread, seed-unread, load-read}
use Rattle.std.proofs.Common.{rules}
use Rattle.archive_cli.proofs.words.read_count_and_seed.Goals as goal

pub returns-in_err-count : goal.returns-in_err-count
returns-in_err-count c = rw c.from_residual.ensures (count-unread c.args.count.now c.args.seed.now (rw c.as_bytes.ensures.value at c.in_err-count.ensures))

pub returns-in_err-seed : goal.returns-in_err-seed
returns-in_err-seed c = rw c.from_residual-in_err-seed.ensures (seed-unread c.args.count.now c.args.seed.now (rw c.as_bytes-2.ensures.value at c.in_err-seed.ensures.none))

pub returns : goal.returns
returns c =
    load-read c.args.count.now c.args.seed.now c.in_ok-count.count c.in_ok-seed.seed c.in_ok-count.ensures.0 (rw c.as_bytes.ensures.value at c.in_ok-count.ensures.1) (search rules) (rw c.as_bytes-2.ensures.value at c.in_ok-seed.ensures.found)
