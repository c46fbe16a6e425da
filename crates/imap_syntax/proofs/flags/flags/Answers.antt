use Rattle.std.proofs.Common.{◌+◌, ◌-◌, length, arith}
use Rattle.imap_syntax.specs.Flags.{flag_at}
use Rattle.imap_words.proofs.Lists.{many_more}
use Rattle.imap_syntax.proofs.flags.flags.Goals as goal

pub loop-index-preserved : goal.loop-index-preserved
loop-index-preserved c =
    rw c.in_ok-push-in-Ok.ensures (many_more flag_at (length c.rest-index-end.result.now - c.loop-index._index)
    (length c.rest-index-end.result.now - (c.loop-index._index + 1)) c.loop-index.cursor c.flag.new.cursor c.has.new.self
    c.in-Ok.flag c.loop-index.flags _ (omega arith) c.in-Ok.ensures c.if-not-has.ensures c.loop-index.invariant)
