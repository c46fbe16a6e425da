use Rattle.std.proofs.Common.{ℕ, sym, subst}
use Rattle.arch_model.specs.Shelves.{ReadCause}
use Rattle.imap_messages.proofs.lines.made_items.Goals as goal

pub returns-in-Ok-clause-cause : goal.returns-in-Ok-clause-cause
returns-in-Ok-clause-cause g c =
    subst (λ (n : ℕ). ReadCause (g.S.Shelf.faults c.args.shelf.now) n c.row_items.result) (sym c.in-Ok.ensures.cause) (c.row_items.ensures.cause (g.S.Shelf.faults c.args.shelf.now))
