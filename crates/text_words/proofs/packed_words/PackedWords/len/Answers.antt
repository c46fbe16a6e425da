use Rattle.std.proofs.Common.{length, ap, arith}
use Rattle.text_words.proofs.PackedLemmas.{length-cut}
use Rattle.text_words.proofs.packed_words.PackedWords.len.Goals as goal

pub returns : goal.returns
returns c = omega (arith, c.len.ensures, c.self.inside.ends.ok, length-cut c.self.inside.bytes.items 0 c.self.inside.ends.items, ap length c.self.view_is)
