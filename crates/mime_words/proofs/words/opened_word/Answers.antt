use Rattle.std.proofs.Common.{sym}
use Rattle.std.proofs.lemmas.List.{take_rest}
use Rattle.mime_words.proofs.Opening.{opened}
use Rattle.mime_words.proofs.words.opened_word.Goals as goal

pub returns : goal.returns
returns c =
    opened c.args.inside.now c.split_at.result.0.now c.split_at.result.1.now _ c.charset_len-len.result c.in_ok-encoding.encoding c.closed_word.result
    c.charset_len-len.ensures.value c.charset_len-len.ensures.within c.if-len-eq0.false c.split_at.ensures.front c.split_at.ensures.back
    (sym c.in_ok-encoding.ensures.value) c.in_ok-encoding.ensures.long (take_rest c.split_at.result.1.now 3) c.closed_word.ensures
