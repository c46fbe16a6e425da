use Rattle.std.proofs.Common.{sym, arith}
use Rattle.mime_words.specs.Writing.{shown}
use Rattle.mime_words.proofs.Cutting.{pieces-text_word, pieces-read_word}
use Rattle.mime_words.proofs.words.read_front.Goals as goal

pub returns-in-None : goal.returns-in-None
returns-in-None c =
    (omega arith, c.in-Some.ensures.1, pieces-text_word c.args.bytes.now (shown c.in-Some.word) c.requires c.in-Some.ensures.0 (sym c.in-None.ensures))

pub returns-in-Some-charset_of : goal.returns-in-Some-charset_of
returns-in-Some-charset_of c =
    (omega arith, c.in-Some.ensures.1, pieces-read_word c.args.bytes.now (shown c.in-Some.word) c.in-Some-charset_of.charset c.requires c.in-Some.ensures.0 (sym c.in-Some-charset_of.ensures))
