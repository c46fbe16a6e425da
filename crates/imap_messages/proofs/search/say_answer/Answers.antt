use Rattle.std.proofs.Common.{◌∙◌, ℕ, List, map, sym, ap, subst}
use Rattle.edge_io.specs.Phrases.{Says}
use Rattle.line_door.specs.Acts.{at_sink}
use Rattle.imap_syntax.specs.Trees.{tree_of, trees}
use Rattle.imap_messages.specs.Wanted.{trees_are_told}
use Rattle.imap_messages.specs.Seeking.{asked_search, numbers_words}
use Rattle.imap_messages.proofs.Seekings.{search-found, search-spared}
use Rattle.imap_messages.proofs.search.say_answer.Goals as goal

pub returns-in-Ok-clause-acts : goal.returns-in-Ok-clause-acts
returns-in-Ok-clause-acts g c = λ a held.
    search-found a c.args.told.now (asked_search c.args.command.now) (at_sink g.O.Sink c.args.out.now (g.S.Shelf.faults c.args.shelf.now)) (at_sink g.O.Sink c.say_numbers.new.out (g.S.Shelf.faults c.numbers_of.new.shelf)) c.say_numbers.result
    (ap (λ (n : ℕ). trees_are_told n (trees (map tree_of c.args.command.now.keys.now))) (sym c.count.ensures.all) ∙ sym c.keys_are_told.ensures ∙ c.if-not-keys_are_told.false) (sym c.has_known_charset.ensures ∙ c.if-not-has_known_charset.false) c.in-Ok.ensures.cause c.in-Ok.numbers (c.in-Ok.ensures.found a held)
    (subst (λ (x : List ℕ). Says (numbers_words c.args.command.now.tag.now c.args.command.now.numbering x) (g.O.Sink.taken c.args.out.now) (g.O.Sink.faults c.args.out.now) (g.O.Sink.taken c.say_numbers.new.out) (g.O.Sink.faults c.say_numbers.new.out) c.say_numbers.result) c.as_slice.ensures c.say_numbers.ensures.said)

pub returns-in-Err-clause-spared : goal.returns-in-Err-clause-spared
returns-in-Err-clause-spared g c = λ a held.
    search-spared a c.args.told.now (asked_search c.args.command.now)
    (ap (λ (n : ℕ). trees_are_told n (trees (map tree_of c.args.command.now.keys.now))) (sym c.count.ensures.all) ∙ sym c.keys_are_told.ensures ∙ c.if-not-keys_are_told.false) (sym c.has_known_charset.ensures ∙ c.if-not-has_known_charset.false)
    (g.S.Shelf.faults c.args.shelf.now) (g.S.Shelf.faults c.numbers_of.new.shelf) c.in-Err.refusal (c.in-Err.ensures.found a held) c.in-Err.ensures.cause
