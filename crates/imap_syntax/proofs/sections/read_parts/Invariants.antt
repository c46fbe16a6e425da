use Rattle.std.proofs.Common.{◌≡◌, length, false}
use Rattle.imap_words.specs.Words.{words_at}
use Rattle.imap_syntax.specs.Items.{parts_of}
use Rattle.imap_syntax.proofs.SetLemmas.{with_parts}
use Rattle.imap_syntax.proofs.sections.read_parts.Given as goal

abbrev pub invariant-loop-name : goal.invariant-loop-name
invariant-loop-name l =
    with_parts l.part (parts_of l.numbered (words_at 46 l.rest)) ≡ parts_of false (words_at 46 l.word)

abbrev pub decreases-loop-name : goal.decreases-loop-name
decreases-loop-name l = length l.rest
