use Rattle.std.proofs.Common.{◌≡◌, length}
use Rattle.std.specs.List.{All}
use Rattle.mime_parts.specs.Trees.{IsPartOf}
use Rattle.imap_structure.specs.Forests.{forest_of, split_at}
use Rattle.imap_items.specs.Sections.{nth_tree}
use Rattle.imap_items.proofs.places.nth_tree.Given as goal

abbrev pub invariant-loop-rest : goal.invariant-loop-rest
invariant-loop-rest l = record {
  tree : nth_tree l.text l.left (split_at l.depth (forest_of l.rest)).deeper ≡ nth_tree l.text l.number (split_at l.depth (forest_of l.parts)).deeper;
  within : All (IsPartOf l.text) l.rest;
}

abbrev pub decreases-loop-rest : goal.decreases-loop-rest
decreases-loop-rest l = length l.rest
