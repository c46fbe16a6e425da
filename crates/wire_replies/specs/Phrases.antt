-- The phrases of a reply.
use Rattle.std.specs.Prelude.{ℕ, List, decimal}
use Rattle.std.specs.List.{flat_map}
use Rattle.wire_replies.specs.Blocks.{block_lines}
use Rattle.wire_replies.specs.declared.phrase.Phrase.{Phrase}
use Rattle.wire_replies.specs.declared.phrase.Phrase.TheVariants as phrase

-- What is sent for a phrase: its words, a number in decimal, or the lines of a text as a block has
-- them.
abbrev pub words_in : Phrase → List ℕ
words_in (phrase.Words words) = words.now
words_in (phrase.Number n) = decimal n
words_in (phrase.Block text) = block_lines text.now

-- What is sent for phrases, one after another.
abbrev pub words_of : List Phrase → List ℕ
words_of phrases = flat_map words_in phrases
