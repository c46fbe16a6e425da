use Rattle.std.proofs.Common.{◌∙◌, ℕ, [], ◌∷◌, nat_lt, sym, subst}
use Rattle.arch_model.specs.Shelves.{ReadCause, ReadsUpTo}
use Rattle.imap_messages.specs.Seeking.{asked_search, looks_of}
use Rattle.imap_messages.specs.SearchActs.{message_at}
use Rattle.imap_messages.proofs.Seekings.{pushed, look-is}
use Rattle.imap_messages.proofs.found.push_found.Goals as goal

pub returns-in-Ok-true-clause-found : goal.returns-in-Ok-true-clause-found
returns-in-Ok-true-clause-found g c = λ a told held is.
    pushed a (asked_search c.args.command.now) told (message_at c.args.place) c.args.numbers.now c.push.new.numbers c.number_of.result c.push.result (sym (c.in-Ok-true.ensures.found a told held is) ∙ c.in-Ok-true.field-0-test) c.number_of.ensures c.push.ensures.ok
    (c.push.ensures.why (nat_lt 0 (looks_of a told (asked_search c.args.command.now) (message_at c.args.place ∷ []))))

pub returns-in-Ok-true-clause-reads : goal.returns-in-Ok-true-clause-reads
returns-in-Ok-true-clause-reads g c = λ a told held is.
    subst (λ (n : ℕ). ReadsUpTo n (g.S.Shelf.reads c.args.shelf.now) (g.S.Shelf.reads c.is_found.new.shelf)) (look-is a told (asked_search c.args.command.now) (message_at c.args.place)) (c.is_found.ensures.reads a told held is)

pub returns-in-Ok-true-clause-cause : goal.returns-in-Ok-true-clause-cause
returns-in-Ok-true-clause-cause g c =
    subst (λ (n : ℕ). ReadCause (g.S.Shelf.faults c.args.shelf.now) n c.push.result) (sym c.in-Ok-true.ensures.cause) (c.push.ensures.cause (g.S.Shelf.faults c.args.shelf.now))

pub returns-in-Ok-false-clause-reads : goal.returns-in-Ok-false-clause-reads
returns-in-Ok-false-clause-reads g c = λ a told held is.
    subst (λ (n : ℕ). ReadsUpTo n (g.S.Shelf.reads c.args.shelf.now) (g.S.Shelf.reads c.is_found.new.shelf)) (look-is a told (asked_search c.args.command.now) (message_at c.args.place)) (c.is_found.ensures.reads a told held is)
