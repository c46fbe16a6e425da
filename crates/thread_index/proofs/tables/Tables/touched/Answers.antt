use Rattle.std.proofs.Common.{◌≡◌, ℕ, List}
use Rattle.thread_index.specs.Adding.{NotesLabel}
use Rattle.std.proofs.Common.{subst, get_or, ◌∙◌}
use Rattle.thread_index.proofs.Gathered.{touched-take}
use Rattle.thread_index.proofs.tables.Tables.touched.Goals as goal

-- src/tables.rt:125:9
pub loop-key-preserved : goal.loop-key-preserved
loop-key-preserved c =
    let rows = c.args.self.now.rows.entries in
    let labels = c.args.self.now.labels in
    let at : c.as_slice.result.now ≡ get_or c.args.keys.now c.loop-key.key-index c.key-item.result = c.as_slice.ensures ∙ c.key-item.is in
    touched-take rows labels c.args.keys.now c.loop-key.key-index c.key-item.result c.loop-key.found.items c.note_label.new.found.items c.loop-key-test.true c.loop-key.invariant
    (subst (λ (k : List ℕ). NotesLabel rows labels k c.loop-key.found.items c.note_label.new.found.items) at c.in_ok-note_label.ensures)
