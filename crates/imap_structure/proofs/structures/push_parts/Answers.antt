use Rattle.std.proofs.Common.{◌≡◌, ◌+◌, ◌++◌, drop, sym, ap, ◌∙◌}
use Rattle.imap_structure.specs.Forests.{Forest, Bare, forest_of, planted, split_at}
use Rattle.imap_structure.specs.Structures.{structure}
use Rattle.imap_structure.specs.Opened.{open_parts}
use Rattle.imap_structure.proofs.Going.{going, part-told, end-told, trees-from, trees-end}
use Rattle.web_text.proofs.Pushing.{last_ok}
use Rattle.imap_structure.proofs.structures.push_parts.Goals as goal

pub loop-part-preserved : goal.loop-part-preserved
loop-part-preserved c =
    let text = c.args.text.now in
    let parts = c.args.parts.now in
    let part = c.part-item.result in
    let rest = forest_of (drop (c.loop-part.part-index + 1) parts) in
    let opened = open_parts c.loop-part.opened.items in
    let done = c.in_ok-open_part.ensures in
    let trees = trees-from parts c.loop-part.part-index part _ c.loop-part-test.true c.part-item.is in
    let before : c.loop-part.into ++ going text opened (planted part (split_at part.depth rest)) ≡ c.args.into.now ++ structure text (forest_of parts) =
    ap (λ (f : Forest). c.loop-part.into ++ going text opened f) (sym trees) ∙ c.loop-part.invariant.told in record {
      told = part-told text c.loop-part.into c.open_part.new.into (c.args.into.now ++ structure text (forest_of parts)) opened (open_parts c.open_part.new.opened.items) part rest done.ok.told_is done.ok.open_is before;
      within = done.others;
    }

pub returns : goal.returns
returns c =
    let text = c.args.text.now in
    let parts = c.args.parts.now in
    let opened = open_parts c.loop-part.opened.items in
    let before : c.loop-part.into ++ going text opened Bare ≡ c.args.into.now ++ structure text (forest_of parts) =
    ap (λ (f : Forest). c.loop-part.into ++ going text opened f) (sym (trees-end parts c.loop-part.part-index c.loop-part-test.false)) ∙ c.loop-part.invariant.told in
    last_ok c.close_parts.result (λ closed. end-told text c.loop-part.into c.close_parts.new.into (c.args.into.now ++ structure text (forest_of parts)) opened closed.told_is before) c.close_parts.ensures.ok
