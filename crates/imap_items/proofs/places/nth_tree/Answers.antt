use Rattle.std.proofs.Common.{◌≡◌, ◌∷◌, ◌∙◌}
use Rattle.mime_parts.specs.Trees.{IsPartOf}
use Rattle.imap_items.proofs.Placing.{first-split, tree-next, within-next}
use Rattle.imap_items.proofs.places.nth_tree.Goals as goal

pub loop-rest-preserved : goal.loop-rest-preserved
loop-rest-preserved c =
    let text = c.args.text.now in
    let rest = c.loop-rest.rest.now in
    let first = c.first-item.result in
    let later = c.split_at.result.1.now in
    let after = c.after_deeper-rest.result.now in
    let whole : rest ≡ first ∷ later = first-split rest later first _ c.in-len1-up.len_at_least c.first-item.is c.split_at.ensures.back in record {
      tree = tree-next text c.loop-rest.left c.saturating_sub-left.result c.args.depth first rest later after whole c.if-first-depth.false c.if-left-eq1.false
          c.saturating_sub-left.ensures c.after_deeper-rest.ensures.parts ∙ c.loop-rest.invariant.tree;
      within = within-next (IsPartOf text) first rest later after whole c.after_deeper-rest.ensures.parts c.loop-rest.invariant.within;
    }
