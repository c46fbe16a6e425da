-- The parts of a mail as trees (RFC 2045, section 2.4), from the list of them in the order of a visit.
use Rattle.std.specs.Prelude.{ℕ, nat_lt, List, [], ◌∷◌, ◌++◌, if◌then◌else◌}
use Rattle.mime_parts.specs.declared.part.Part.{Part}

-- Trees beside each other: of the first its part and the trees below it, and the trees after it.
pub data Forest : Type 0 where
  Bare : Forest
  Tree : Part → Forest → Forest → Forest

-- A forest in two: the trees at its front whose parts are deeper than a depth, and the others.
pub record ForestSplit : Type 0 where
  pub deeper : Forest
  pub others : Forest

-- A forest in these two.
abbrev pub split : Forest → Forest → ForestSplit
split deeper others = record { deeper = deeper; others = others }

-- A deeper tree before trees that are split.
abbrev pub split_after : Part → Forest → ForestSplit → ForestSplit
split_after p below later = split (Tree p below later.deeper) later.others

-- The forest, split at a depth: before its first tree whose part isn't deeper.
abbrev pub split_at : ℕ → Forest → ForestSplit
split_at depth Bare = split Bare Bare
split_at depth (Tree p below beside) =
    if nat_lt depth p.depth then split_after p below (split_at depth beside)
    else split Bare (Tree p below beside)

-- A part before trees: the deeper ones at their front are below it.
abbrev pub planted : Part → ForestSplit → Forest
planted p s = Tree p s.deeper s.others

-- The trees of parts, each of which is before those below it.
abbrev pub forest_of : List Part → Forest
forest_of [] = Bare
forest_of (p ∷ ps) = planted p (split_at p.depth (forest_of ps))

-- The parts of trees, each before those below it.
abbrev pub flattened : Forest → List Part
flattened Bare = []
flattened (Tree p below beside) = p ∷ (flattened below ++ flattened beside)
