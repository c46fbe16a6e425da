use Rattle.thread_tree.specs.Facts.{is_lesser}
use Rattle.std.proofs.Common.{ap, sym, ◌∙◌}
use Rattle.thread_tree.specs.declared.facts.Placing.{Placing}
use Rattle.thread_tree.proofs.Stepped.{notes-placing}
use Rattle.thread_tree.proofs.facts.note_placing.Goals as goal

-- src/facts.rt:131:1
pub returns : goal.returns
returns c =
    let placing : Placing = record { number = c.args.number; before = c.in_ok-before.before } in
    notes-placing c.args.placings.now c.insert.new.self c.in_ok-key.key c.args.id.now placing c.args.before.now
    (c.in_ok-key.ensures.items_if_clones_equal (λ x y is. is)) (c.in_ok-before.ensures.items_if_clones_equal (λ x y is. is))
    (ap (is_lesser c.args.number) (sym c.placing_number.ensures) ∙ sym c.if-not-is_lesser.ensures) c.in_ok-insert.ensures.entries
