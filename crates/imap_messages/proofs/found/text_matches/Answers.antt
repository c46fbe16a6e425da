use Rattle.std.proofs.Common.{ℕ, sym, subst}
use Rattle.arch_model.specs.Shelves.{ReadCause}
use Rattle.imap_messages.proofs.found.text_matches.Goals as goal

pub returns-in-Ok-clause-cause : goal.returns-in-Ok-clause-cause
returns-in-Ok-clause-cause g c =
    subst (λ (n : ℕ). ReadCause (g.S.Shelf.faults c.args.shelf.now) n c.match_in.result) (sym c.in-Ok.ensures.cause) (c.match_in.ensures.cause (g.S.Shelf.faults c.args.shelf.now))
