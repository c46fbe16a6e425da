use Rattle.thread_tree.specs.Facts.{is_lesser}
use Rattle.std.proofs.Common.{ap, sym, ◌∙◌}
use Rattle.thread_tree.proofs.Stepped.{notes-naming}
use Rattle.thread_tree.proofs.facts.note_naming.Goals as goal

-- src/facts.rt:114:1
pub returns : goal.returns
returns c =
    notes-naming c.args.namings.now c.insert.new.self c.in_ok-key.key c.args.id.now c.args.naming (c.in_ok-key.ensures.items_if_clones_equal (λ x y is. is))
    (ap (is_lesser c.args.naming.number) (sym c.naming_number.ensures) ∙ sym c.if-not-is_lesser.ensures) c.in_ok-insert.ensures.entries
