use Rattle.std.proofs.lemmas.Str.{IsUtf8-string_bytes}
use Rattle.mime_words.proofs.decoding.decode.Goals as goal

pub returns-clause-utf8 : goal.returns-clause-utf8
returns-clause-utf8 c = rw (c.from_vec.ensures, c.into_bytes.ensures.value) (IsUtf8-string_bytes c.in_ok-text.text)
