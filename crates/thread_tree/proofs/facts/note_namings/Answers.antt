use Rattle.std.proofs.Common.{◌≡◌, ℕ, List}
use Rattle.thread_tree.specs.Facts.{NotesNaming, naming_of}
use Rattle.std.proofs.Common.{get_or, subst, ◌∙◌}
use Rattle.thread_tree.specs.Facts.{NotesNaming}
use Rattle.thread_tree.proofs.Kept.{names-take}
use Rattle.thread_tree.proofs.facts.note_namings.Goals as goal

-- src/facts.rt:146:5
pub loop-id-preserved : goal.loop-id-preserved
loop-id-preserved c =
    let ids = c.as_slice-id-items.result.now in
    let at : c.as_slice.result.now ≡ get_or ids c.loop-id.id-index c.id-item.result = c.as_slice.ensures ∙ c.id-item.is in
    names-take c.args.namings.now c.loop-id.namings c.note_naming.new.namings ids c.loop-id.id-index c.id-item.result (naming_of c.args.twig.now) c.loop-id-test.true c.loop-id.invariant
    (subst (λ (id : List ℕ). NotesNaming c.loop-id.namings c.note_naming.new.namings id (naming_of c.args.twig.now)) at c.in_ok-note_naming.ensures)
