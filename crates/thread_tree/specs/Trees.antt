-- Trees of messages by their references, with ghosts for references that no message answers.
use Rattle.std.specs.Prelude.{◌≡◌, ℕ, zero, suc, Bool, false, not, ◌&&◌, ◌||◌, nat_lt, List, [], ◌∷◌, ◌++◌, map, length, Option, Some, None, is_some, is_none, if◌then◌else◌}
use Rattle.std.specs.List.{filter, find, flat_map, list_any}
use Rattle.std.specs.Str.{bytes_eq}
use Rattle.std.specs.declared.cmp.Ordering.{Ordering}
use Rattle.std.specs.Ordering.{nat_cmp, ordering_then}
use Rattle.std.specs.Cmp.Lexicographic.{slice_cmp}
use Rattle.std.specs.BTreeSet.{insert_key}
use Rattle.thread_model.specs.Members.{Among, has}
use Rattle.thread_tree.specs.declared.twigs.Twig.{Twig}
use Rattle.thread_tree.specs.declared.lines.Line.{Line}
use Rattle.thread_tree.specs.declared.lines.Who.{Who}
use Rattle.thread_tree.specs.declared.lines.Who.TheVariants.{Live, Ghost}

-- A node: its date's seconds, its number, and its id.
abbrev pub Node : Type 0
Node = ℕ × ℕ × List ℕ

-- The first of two ids that is there.
abbrev pub or_else : Option (List ℕ) → Option (List ℕ) → Option (List ℕ)
or_else None second = second
or_else (Some first) second = Some first

-- The last reference other than an id.
abbrev pub last_other : List (List ℕ) → List ℕ → Option (List ℕ)
last_other [] id = None
last_other (r ∷ rs) id = or_else (last_other rs id) (if bytes_eq r id then None else Some r)

-- The reference before an id, at the first place where one stands before it.
abbrev pub before : Option (List ℕ) → List (List ℕ) → List ℕ → Option (List ℕ)
before prev [] id = None
before prev (r ∷ rs) id = or_else (if bytes_eq r id then prev else None) (before (Some r) rs id)

-- Of two things that may be there, the one with the lesser number; the first of two alike.
abbrev pub lesser_by : {X : Type 0} → (X → ℕ) → Option X → Option X → Option X
lesser_by number None second = second
lesser_by number (Some a) None = Some a
lesser_by number (Some a) (Some b) = if nat_lt (number b) (number a) then Some b else Some a

-- The least-numbered message that passes a test.
abbrev pub least : (Twig → Bool) → List Twig → Option Twig
least test [] = None
least test (t ∷ ts) = lesser_by (λ (u : Twig). u.number) (if test t then Some t else None) (least test ts)

-- The message with an id.
abbrev pub message_of : List Twig → List ℕ → Option Twig
message_of twigs id = find (λ (t : Twig). bytes_eq t.id id) twigs

-- Whether a message has an id.
abbrev pub names_id : List Twig → List ℕ → Bool
names_id twigs id = list_any (λ (t : Twig). bytes_eq t.id id) twigs

-- The least-numbered message that names an id.
abbrev pub named_by : List Twig → List ℕ → Option Twig
named_by twigs id = least (λ (t : Twig). has t.refs id) twigs

-- The least-numbered message in which something stands before an id.
abbrev pub placed_by : List Twig → List ℕ → Option Twig
placed_by twigs id = least (λ (t : Twig). is_some (before None t.refs id)) twigs

-- What a ghost stands under, by the message that places it: the id before it.
abbrev pub up_of_ghost : Option Twig → List ℕ → Option (List ℕ)
up_of_ghost None id = None
up_of_ghost (Some t) id = before None t.refs id

-- What an id stands under, by its message or by the one that places it: a message under its last
-- reference other than its own id.
abbrev pub up_by : Option Twig → Option Twig → List ℕ → Option (List ℕ)
up_by None placing id = up_of_ghost placing id
up_by (Some t) placing id = last_other t.refs t.id

-- What an id stands under.
abbrev pub up : List Twig → List ℕ → Option (List ℕ)
up twigs id = up_by (message_of twigs id) (placed_by twigs id) id

-- One step up.
abbrev pub step_up : (List ℕ → Option (List ℕ)) → Option (List ℕ) → Option (List ℕ)
step_up above None = None
step_up above (Some id) = above id

-- So many steps up.
abbrev pub far_up : List Twig → ℕ → List ℕ → Option (List ℕ)
far_up twigs zero id = Some id
far_up twigs (suc k) id = step_up (up twigs) (far_up twigs k id)

-- The node of a message.
abbrev pub live_node : Twig → Node
live_node t = (t.secs, t.number, t.id)

-- The node of a ghost, by the message that names it.
abbrev pub node_by : Option Twig → List ℕ → Node
node_by None id = (0, 0, id)
node_by (Some t) id = (t.secs, t.number, id)

-- The node of a ghost: with date and number of the least-numbered message that names it.
abbrev pub ghost_node : List Twig → List ℕ → Node
ghost_node twigs id = node_by (named_by twigs id) id

-- No message has the id.
abbrev pub is_ghost : List Twig → List ℕ → Bool
is_ghost twigs id = is_none (message_of twigs id)

-- The nodes of the ghosts that a message names.
abbrev pub ghosts_of : List Twig → Twig → List Node
ghosts_of twigs t = map (ghost_node twigs) (filter (is_ghost twigs) t.refs)

-- The order of nodes: by seconds, then by number, then by id.
abbrev pub node_cmp : Node → Node → Ordering
node_cmp a b =
    ordering_then (ordering_then (nat_cmp a.0 b.0) (nat_cmp a.1 b.1)) (slice_cmp nat_cmp a.2 b.2)

-- Nodes put one after the other at their places in the order, each once.
abbrev pub put_nodes : List Node → List Node → List Node
put_nodes done [] = done
put_nodes done (n ∷ ns) = put_nodes (insert_key node_cmp done n) ns

-- All nodes, in order.
abbrev pub nodes : List Twig → List Node
nodes twigs = put_nodes [] (map live_node twigs ++ flat_map (ghosts_of twigs) twigs)

-- Whether an id that may be there is a certain one.
abbrev pub is_id : Option (List ℕ) → List ℕ → Bool
is_id None id = false
is_id (Some found) id = bytes_eq found id

-- The numbers below a number, falling.
abbrev pub below : ℕ → List ℕ
below zero = []
below (suc n) = n ∷ below n

-- Whether an id stands on a loop: steps up from it, as many as there are nodes or fewer, lead to it
-- again.
abbrev pub is_on_loop : List Twig → List ℕ → Bool
is_on_loop twigs id =
    list_any (λ (k : ℕ). is_id (far_up twigs (suc k) id) id) (below (length (nodes twigs)))

-- Whether a node is a root: it stands under nothing, or on a loop.
abbrev pub is_root : List Twig → Node → Bool
is_root twigs n = is_none (up twigs n.2) || is_on_loop twigs n.2

-- The roots, in order.
abbrev pub roots : List Twig → List Node
roots twigs = filter (is_root twigs) (nodes twigs)

-- The nodes under an id, in order.
abbrev pub under : List Twig → Node → List Node
under twigs p = filter (λ (n : Node). not (is_root twigs n) && is_id (up twigs n.2) p.2) (nodes twigs)

-- Who a node is: a message by its number, or a ghost by its id.
abbrev pub who_of : List Twig → Node → Who
who_of twigs n = if is_ghost twigs n.2 then Ghost n.2 else Live n.1

-- The line of a node at a depth.
abbrev pub line_of : List Twig → ℕ → Node → Line
line_of twigs depth n = record { depth = depth; who = who_of twigs n }

-- Lines print nodes of one depth: each node before those under it, brothers in order.
pub data PrintsNodes (twigs : List Twig) : ℕ → List Node → List Line → Type 0 where
  nothing : {depth : ℕ} → PrintsNodes twigs depth [] []
  node : {depth : ℕ} {n : Node} {ns : List Node} {all : List Line} (own rest : List Line)
      → all ≡ line_of twigs depth n ∷ (own ++ rest)
      → PrintsNodes twigs (suc depth) (under twigs n) own
      → PrintsNodes twigs depth ns rest → PrintsNodes twigs depth (n ∷ ns) all

-- No two messages have one id.
abbrev pub HaveOwnIds : List Twig → Type 0
HaveOwnIds [] = Unit {0}
HaveOwnIds (t ∷ ts) = ((u : Twig) → Among ts u → u.id ≡ t.id → ⊥) × HaveOwnIds ts
