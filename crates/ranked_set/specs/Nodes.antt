-- Private: the items of a node of a tree.
use Rattle.std.specs.Prelude.{◌≡◌, ◌+◌, List, [], ◌∷◌, ◌++◌, length}
use Rattle.ranked_set.specs.declared.tree.Node.{Node}
use Rattle.ranked_set.specs.declared.tree.Node.TheVariants.{Leaf, Fork}

-- The items in order.
abbrev pub items : {T : Type 0} → Node T → List T
items Leaf = []
items (Fork left item len right) = left.value ++ item ∷ right.value

-- The items but the one in the middle.
abbrev pub without_top : {T : Type 0} → Node T → List T
without_top Leaf = []
without_top (Fork left item len right) = left.value ++ right.value

-- The items on the left.
abbrev pub left_items : {T : Type 0} → Node T → List T
left_items Leaf = []
left_items (Fork left item len right) = left.value

-- The count of the items is right.
abbrev pub CountsItems : {T : Type 0} → Node T → Type 0
CountsItems Leaf = Unit {0}
CountsItems (Fork left item len right) = len ≡ length left.value + length right.value + 1
