-- The trees of parts, and that these are in the text.
use Rattle.std.proofs.Common.{◌≡◌, ℕ, ◌≤◌, Bool, true, false, cond, nat_lt, List, [], ◌∷◌, ◌++◌, refl, sym, ap, ◌∙◌, arith, append_assoc}
use Rattle.std.specs.List.{All}
use Rattle.mime_parts.specs.declared.part.Part.{Part}
use Rattle.mime_parts.specs.Trees.{IsPartOf, tree_of}
use Rattle.mime_parts.specs.Laws.{PartStands, IsTree, TreesAreTrees}
use Rattle.imap_structure.specs.Forests.{Forest, Bare, Tree, ForestSplit, split, split_after, split_at, forest_of, flattened}

-- Each part of a mail is in its text.
pub part-of : (text : List ℕ) (p : Part) → PartStands text p → IsPartOf text p
part-of text p s = record {
  header = record { ordered = s.header; within = (let a = s.crash_between in let b = s.body in let c = s.within in omega arith) };
  body = record { ordered = s.body; within = s.within };
}

pub parts-within : (text : List ℕ) → TreesAreTrees → All (IsPartOf text) (tree_of text)
parts-within text law = λ k d h. part-of text _ ((law text).stand k d h)

-- A forest that is split has the same parts.
split_step : (deeper : Bool) (p : Part) (below beside : Forest) (s : ForestSplit) → flattened s.deeper ++ flattened s.others ≡ flattened beside
    → flattened (cond deeper (split_after p below s) (split Bare (Tree p below beside))).deeper ++ flattened (cond deeper (split_after p below s) (split Bare (Tree p below beside))).others
    ≡ p ∷ (flattened below ++ flattened beside)
split_step true p below beside s h = ap (λ t. p ∷ t) (append_assoc (flattened below) (flattened s.deeper) (flattened s.others) ∙ ap (λ t. flattened below ++ t) h)
split_step false p below beside s h = refl

split-flat : (d : ℕ) (f : Forest) → flattened (split_at d f).deeper ++ flattened (split_at d f).others ≡ flattened f
split-flat d Bare = refl
split-flat d (Tree p below beside) = split_step (nat_lt d p.depth) p below beside (split_at d beside) (split-flat d beside)

-- The parts of trees are those of which they were made.
pub forest-flat : (parts : List Part) → flattened (forest_of parts) ≡ parts
forest-flat [] = refl
forest-flat (p ∷ ps) = ap (λ t. p ∷ t) (split-flat p.depth (forest_of ps) ∙ forest-flat ps)
