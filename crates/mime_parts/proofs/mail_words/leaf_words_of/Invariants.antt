use Rattle.std.proofs.Common.{◌≡◌, take}
use Rattle.std.specs.List.{flat_map}
use Rattle.mime_parts.specs.Words.{part_words}
use Rattle.mime_parts.proofs.mail_words.leaf_words_of.Given as goal

abbrev pub invariant-loop-part : goal.invariant-loop-part
invariant-loop-part l = l.words ≡ flat_map (part_words l.text) (take l.part-index l.part-items)
