use Rattle.mime_words.proofs.Sextets.{read-more}
use Rattle.mime_words.proofs.symbols.symbols_of.Goals as goal

pub loop-byte-preserved : goal.loop-byte-preserved
loop-byte-preserved c =
    read-more c.loop-byte.symbols c.push_symbol.new.symbols c.args.text.now c.loop-byte.byte-index c.loop-byte.invariant c.loop-byte-test.true c.if-byte-eq61.false
    c.in_ok-push_symbol.ensures
