use Rattle.std.proofs.Common.{◌∙◌, ◌++◌, ◌∷◌, [], ℕ, List, sym, ap}
use Rattle.thread_tree.specs.declared.twigs.Twig.{Twig}
use Rattle.thread_tree.specs.Trees.{names_id}
use Rattle.shelf_trees.specs.Twigs.{twig_of}
use Rattle.shelf_trees.proofs.Twigging.{named, with-kept, with-added, fresh, on-weaker}
use Rattle.shelf_trees.proofs.add_twig.Goals as goal

pub returns-then-contains : goal.returns-then-contains
returns-then-contains c = with-kept c.args.twigs.now (twig_of c.args.row.now)
    (ap (names_id c.args.twigs.now) (sym c.as_slice.ensures) ∙ named c.args.twigs.now c.as_slice.result.now c.contains.result c.contains.ensures ∙ c.if-contains.true)

pub add-requires : goal.add-requires
add-requires c = fresh c.args.twigs.now c.as_slice.result.now c.as_slice-2.result.now c.contains.result (c.as_slice-2.ensures ∙ sym c.as_slice.ensures) c.if-contains.false c.contains.ensures

pub returns : goal.returns
returns c = on-weaker c.add.result _ _
    (λ is. is ∙ ap (λ (id : List ℕ). let t : Twig = record { number = c.args.row.now.number; id = id; refs = c.args.row.now.refs; secs = c.args.row.now.date.secs } in c.args.twigs.now ++ t ∷ []) c.as_slice-2.ensures
    ∙ sym (with-added c.args.twigs.now (twig_of c.args.row.now) (ap (names_id c.args.twigs.now) (sym c.as_slice.ensures) ∙ named c.args.twigs.now c.as_slice.result.now c.contains.result c.contains.ensures ∙ c.if-contains.false))) c.add.ensures.ok
