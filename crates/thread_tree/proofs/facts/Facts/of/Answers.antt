use Rattle.std.proofs.Common.{List, [], ◌∷◌, ◌++◌}
use Rattle.thread_tree.specs.Facts.{PlacesAll, AreFacts}
use Rattle.std.proofs.Common.{subst, sym, ap, ◌∙◌, take}
use Rattle.std.proofs.lemmas.List.{take_more}
use Rattle.thread_tree.specs.declared.twigs.Twig.{Twig}
use Rattle.thread_tree.specs.declared.facts.Facts.{Facts}
use Rattle.thread_tree.proofs.Kept.{facts-more, own-before}
use Rattle.thread_tree.proofs.facts.Facts.of.Goals as goal

-- src/facts.rt:186:9
pub loop-twig-preserved : goal.loop-twig-preserved
loop-twig-preserved c =
    let twigs = c.args.twigs.now in
    let i = c.loop-twig.twig-index in
    let t = c.twig-item.result in
    let old : Facts = record { live = c.loop-twig.live; naming = c.loop-twig.naming; placing = c.loop-twig.placing } in
    let new : Facts = record { live = c.note_above.new.live; naming = c.note_namings.new.namings; placing = c.note_placings.new.placings } in
    subst (λ (ts : List Twig). AreFacts ts new) (sym (take_more twigs i t c.loop-twig-test.true ∙ ap (λ (u : Twig). take i twigs ++ u ∷ []) (sym c.twig-item.is)))
    (facts-more (take i twigs) t old new
    (λ u h e. own-before twigs c.requires i t u c.loop-twig-test.true h (e ∙ ap (λ (v : Twig). v.id) c.twig-item.is))
    c.loop-twig.invariant c.in_ok-note_above.ensures c.in_ok-note_namings.ensures
    (subst (PlacesAll c.loop-twig.placing c.note_placings.new.placings t.number) c.as_slice.ensures c.in_ok-note_placings.ensures))
