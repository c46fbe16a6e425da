use Rattle.std.proofs.Common.{ℕ, List}
use Rattle.thread_tree.specs.Trees.{last_other}
use Rattle.std.proofs.Common.{ap, ◌∙◌}
use Rattle.thread_tree.proofs.Stepped.{notes-above}
use Rattle.thread_tree.proofs.facts.note_above.Goals as goal

-- src/facts.rt:73:1
pub returns : goal.returns
returns c =
    let t = c.args.twig.now in
    notes-above c.args.live.now c.insert.new.self c.in_ok-id.id c.in_ok-above.above t
    (c.in_ok-id.ensures.items_if_clones_equal (λ x y is. is) ∙ c.as_slice-3.ensures)
    (c.in_ok-above.ensures ∙ c.last_other.ensures ∙ ap (λ (rs : List (List ℕ)). last_other rs c.as_slice-2.result.now) c.as_slice.ensures ∙ ap (last_other t.refs) c.as_slice-2.ensures)
    c.in_ok-insert.ensures.entries
