use Rattle.std.proofs.Common.{◌≡◌, ℕ, ◌-◌, ◌<◌, ◌≤◌, length, List}
use Rattle.thread_tree.specs.Facts.{NotesPlacing}
use Rattle.std.proofs.Common.{get_or, subst, ◌∙◌, arith}
use Rattle.thread_tree.specs.Facts.{NotesPlacing}
use Rattle.thread_tree.proofs.Kept.{places-take}
use Rattle.thread_tree.proofs.Stepped.{get-any}
use Rattle.thread_tree.proofs.facts.note_placings.Goals as goal

-- src/facts.rt:161:5
pub loop-i-preserved : goal.loop-i-preserved
loop-i-preserved c =
    let refs = c.args.refs.now in
    let i = c.loop-i.i in
    let d = c.index-refs-i.result in
    let old = c.loop-i.placings in
    let new = c.note_placing.new.placings in
    let some : 1 ≤ i = c.loop-i.invariant.some in
    let low : i < length refs = c.loop-i-test.true in
    let below : i - 1 < length refs = omega arith in
    let at : c.as_slice.result.now ≡ get_or refs i d = c.as_slice.ensures ∙ c.index-refs-i.is in
    let before : c.as_slice-in-loop-i.result.now ≡ get_or refs (i - 1) d = c.as_slice-in-loop-i.ensures ∙ c.index-refs-i-in-loop-i.is ∙ get-any refs (i - 1) c.index-refs-i-in-loop-i.result d below in
    record {
      some = omega arith;
      placed = places-take c.args.placings.now old new c.args.number refs i d some low c.loop-i.invariant.placed
          (subst (λ (b : List ℕ). NotesPlacing old new (get_or refs i d) (c.args.number, b)) before
          (subst (λ (id : List ℕ). NotesPlacing old new id (c.args.number, c.as_slice-in-loop-i.result.now)) at c.in_ok-note_placing.ensures));
    }
