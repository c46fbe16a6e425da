use Rattle.std.proofs.Common.{◌+◌, ◌-◌, length, arith}
use Rattle.imap_words.specs.Strings.{astring_at}
use Rattle.imap_words.proofs.Lists.{many_more}
use Rattle.imap_words.proofs.cursor.Cursor.astrings.Goals as goal

pub loop-index-preserved : goal.loop-index-preserved
loop-index-preserved c =
    rw c.in_ok-push-in-Ok.ensures (many_more astring_at (length c.self.inside.rest.now - c.loop-index._index)
    (length c.self.inside.rest.now - (c.loop-index._index + 1)) c.loop-index.self c.astring.new.self c.has.new.self
    c.in-Ok.text c.loop-index.texts _ (omega arith) c.in-Ok.ensures c.if-not-has.ensures c.loop-index.invariant)
