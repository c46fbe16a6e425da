-- Private: nodes as the code has them, and their indices.
use Rattle.std.specs.Prelude.{◌≡◌, ◌⊎◌, ◌<◌, ◌&&◌, ◌==◌, ℕ, zero, suc, Bool, true, false, not, List, [], ◌∷◌, ◌++◌, map, length, get_or, slice_get, Option, Some, None, if◌then◌else◌}
use Rattle.std.specs.Option.{option_map, unwrap_or}
use Rattle.std.specs.BTreeMap.{BTreeMap}
use Rattle.std.specs.List.{filter}
use Rattle.std.specs.Global.{Vec}
use Rattle.thread_model.specs.Members.{Among, Once}
use Rattle.thread_tree.specs.Trees.{Node}
use Rattle.thread_tree.specs.Facts.{at_id, kept_is_ghost, kept_up}
use Rattle.thread_tree.specs.declared.lines.Line.{Line}
use Rattle.thread_tree.specs.declared.lines.Who.TheVariants.{Live, Ghost}
use Rattle.thread_tree.specs.declared.facts.Facts.{Facts}

-- A node as the code has it.
abbrev pub node_in : ℕ × ℕ × Vec ℕ → Node
node_in n = (n.0, n.1, n.2.items)

-- Nodes as the code has them.
abbrev pub nodes_in : List (ℕ × ℕ × Vec ℕ) → List Node
nodes_in ns = map node_in ns

-- The id of the node at an index.
abbrev pub id_at : List Node → ℕ → List ℕ
id_at ns i = (get_or ns i (0, 0, [])).2

-- The index in an item of a list, if the item is there and has one.
abbrev pub jump_of : Option (Option ℕ) → Option ℕ
jump_of None = None
jump_of (Some jump) = jump

-- The index at an index, if one is there.
abbrev pub jump_at : List (Option ℕ) → ℕ → Option ℕ
jump_at jumps i = jump_of (slice_get jumps i)

-- The flag at an index; false past the end.
abbrev pub flag_at : List Bool → ℕ → Bool
flag_at flags i = unwrap_or (slice_get flags i) false

-- One step by jumps.
abbrev pub step_by : List (Option ℕ) → Option ℕ → Option ℕ
step_by jumps None = None
step_by jumps (Some i) = jump_at jumps i

-- So many steps by jumps.
abbrev pub far_by : List (Option ℕ) → ℕ → ℕ → Option ℕ
far_by jumps zero i = Some i
far_by jumps (suc k) i = step_by jumps (far_by jumps k i)

-- Jumps lead to indices of their own list.
abbrev pub StaysIn : List (Option ℕ) → Type 0
StaysIn jumps = (i j : ℕ) → i < length jumps → jump_at jumps i ≡ Some j → j < length jumps

-- An index is on a loop.
abbrev pub OnLoop : List (Option ℕ) → ℕ → Type 0
OnLoop jumps i = (k : ℕ) × (far_by jumps (suc k) i ≡ Some i)

-- No two nodes have one id.
abbrev pub HaveNodeIds : List Node → Type 0
HaveNodeIds ns = (i j : ℕ) → i < length ns → j < length ns → id_at ns i ≡ id_at ns j → i ≡ j

-- An index of nodes by their ids.
pub record IsNodeIndex (ns : List Node) (index : BTreeMap (Vec ℕ) ℕ) : Type 0 where
  pub found : (q : List ℕ) (j : ℕ) → at_id index q ≡ Some j → (j < length ns) × (id_at ns j ≡ q)
  pub here : (j : ℕ) → j < length ns → at_id index (id_at ns j) ≡ Some j

-- What an id stands under is a node.
abbrev pub AreClosed : Facts → List Node → Type 0
AreClosed facts ns = (id q : List ℕ) → kept_up facts id ≡ Some q
    → (j : ℕ) × (j < length ns) × (id_at ns j ≡ q)

-- Of each node the index of the one that it stands under.
pub record AreUps (above : List ℕ → Option (List ℕ)) (ns : List Node)
    (ups : List (Option ℕ)) : Type 0 where
  pub size : length ups ≡ length ns
  pub inside : StaysIn ups
  pub each : (i : ℕ) → i < length ns
      → option_map (id_at ns) (jump_at ups i) ≡ above (id_at ns i)

-- The index of an id that may be there.
abbrev pub index_bound : BTreeMap (Vec ℕ) ℕ → Option (List ℕ) → Option ℕ
index_bound index None = None
index_bound index (Some id) = at_id index id

-- The node at an index.
abbrev pub node_at : List Node → ℕ → Node
node_at ns i = get_or ns i (0, 0, [])

-- The line of a node at a depth, by what is kept.
abbrev pub kept_line : Facts → ℕ → Node → Line
kept_line facts depth n =
    record { depth = depth; who = if kept_is_ghost facts n.2 then Ghost n.2 else Live n.1 }

-- Each jump is two jumps of a list.
pub record AreTwice (jumps twice : List (Option ℕ)) : Type 0 where
  pub size : length twice ≡ length jumps
  pub each : (i : ℕ) → i < length jumps → jump_at twice i ≡ step_by jumps (jump_at jumps i)

-- Where many steps lead: to loops alone, and to all of each loop.
pub record AreFar (ups far : List (Option ℕ)) : Type 0 where
  pub size : length far ≡ length ups
  pub loops : (i j : ℕ) → i < length ups → jump_at far i ≡ Some j → OnLoop ups j
  pub all : (j : ℕ) → j < length ups → OnLoop ups j
      → (i : ℕ) × (i < length ups) × (jump_at far i ≡ Some j)

-- Whether an index that may be there is a certain one.
abbrev pub leads_to : Option ℕ → ℕ → Bool
leads_to None i = false
leads_to (Some j) i = j == i

-- One index was marked, or none.
pub record IsMarked (old new : List Bool) (to : Option ℕ) : Type 0 where
  pub size : length new ≡ length old
  pub here : (i : ℕ) → i < length old → to ≡ Some i → flag_at new i ≡ true
  pub kept : (i : ℕ) → (to ≡ Some i → ⊥) → flag_at new i ≡ flag_at old i

-- Flags of the roots: what has nothing above it, or is on a loop.
pub record AreRoots (ups : List (Option ℕ)) (flags : List Bool) : Type 0 where
  pub size : length flags ≡ length ups
  pub top : (i : ℕ) → i < length ups → jump_at ups i ≡ None → flag_at flags i ≡ true
  pub loop : (i : ℕ) → i < length ups → OnLoop ups i → flag_at flags i ≡ true
  pub only : (i : ℕ) → i < length ups → flag_at flags i ≡ true
      → (jump_at ups i ≡ None) ⊎ OnLoop ups i

-- The numbers below a number, rising.
abbrev pub count_up : ℕ → List ℕ
count_up zero = []
count_up (suc n) = count_up n ++ n ∷ []

-- Whether an index that is no root stands under another.
abbrev pub is_under : List (Option ℕ) → List Bool → ℕ → ℕ → Bool
is_under ups flags p i = not (flag_at flags i) && leads_to (jump_at ups i) p

-- The items of a list, none without one.
abbrev pub items_of : Option (Vec ℕ) → List ℕ
items_of None = []
items_of (Some list) = list.items

-- The list at an index; an empty one past the end.
abbrev pub under_at : List (Vec ℕ) → ℕ → List ℕ
under_at lists p = items_of (slice_get lists p)

-- So many lists, all empty.
pub record AreEmpty (lists : List (Vec ℕ)) (count : ℕ) : Type 0 where
  pub size : length lists ≡ count
  pub each : (p : ℕ) → under_at lists p ≡ []

-- An index was put into the list of the one above it, unless it is a root.
pub record IsListedUnder (old new : List (Vec ℕ)) (up : Option ℕ) (root : Bool) (i : ℕ) : Type 0 where
  pub size : length new ≡ length old
  pub lists : (p : ℕ) → p < length old → under_at new p
      ≡ under_at old p ++ (if not root && leads_to up p then i ∷ [] else [])

-- The lists of the first so many indices under each.
pub record AreUnder (ups : List (Option ℕ)) (flags : List Bool) (lists : List (Vec ℕ))
    (n : ℕ) : Type 0 where
  pub size : length lists ≡ length ups
  pub each : (p : ℕ) → p < length ups → under_at lists p ≡ filter (is_under ups flags p) (count_up n)

-- Indices below a bound: none is a root and under another, none is under two.
pub record IsForest (under : ℕ → List ℕ) (roots : List ℕ) (bound : ℕ) : Type 0 where
  pub roots_once : Once roots
  pub roots_below : (i : ℕ) → Among roots i → i < bound
  pub once : (p : ℕ) → Once (under p)
  pub below : (p i : ℕ) → Among (under p) i → i < bound
  pub one : (p q i : ℕ) → Among (under p) i → Among (under q) i → p ≡ q
  pub no_root : (p i : ℕ) → Among (under p) i → Among roots i → ⊥

-- Lines of depths and indices: each index before those under it.
pub data WalksNodes (under : ℕ → List ℕ) : ℕ → List ℕ → List (ℕ × ℕ) → Type 0 where
  ends : {depth : ℕ} → WalksNodes under depth [] []
  visits : {depth n : ℕ} {ns : List ℕ} {all : List (ℕ × ℕ)} (own rest : List (ℕ × ℕ))
      → all ≡ (depth, n) ∷ (own ++ rest)
      → WalksNodes under (suc depth) (under n) own
      → WalksNodes under depth ns rest → WalksNodes under depth (n ∷ ns) all

-- Indices of one depth as they wait on a stack, the first on top.
abbrev pub stacked : ℕ → List ℕ → List (ℕ × ℕ)
stacked depth [] = []
stacked depth (i ∷ is) = stacked depth is ++ (depth, i) ∷ []
