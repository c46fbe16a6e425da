use Rattle.mime_words.proofs.Sextets.{HasRead}
use Rattle.mime_words.proofs.symbols.symbols_of.Given as goal

abbrev pub invariant-loop-byte : goal.invariant-loop-byte
invariant-loop-byte l = HasRead l.symbols l.text l.byte-index
