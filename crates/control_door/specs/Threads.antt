-- The words of the tree of a thread.
use Rattle.std.specs.Prelude.{ℕ, List, [], ◌∷◌, ◌++◌, length, codes, decimal, Option, Some, None}
use Rattle.std.specs.List.{flat_map}
use Rattle.answer_lines.specs.Lines.{whole_line}
use Rattle.arch_model.specs.Archives.{Entry, text_of}
use Rattle.arch_model.specs.Overviews.{id_fact}
use Rattle.mail_forms.specs.declared.row.Row.{Row}
use Rattle.thread_tree.specs.declared.lines.Line.{Line}
use Rattle.thread_tree.specs.declared.lines.Who.{Who}
use Rattle.thread_tree.specs.declared.lines.Who.TheVariants.{Live, Ghost}

-- The id in the row of a message, which each message of a tree has.
abbrev pub id_of : Option Row → List ℕ
id_of None = []
id_of (Some row) = row.id

-- The own id of a text, which each message of a tree has.
abbrev pub own_id_of : Option (List ℕ) → List ℕ
own_id_of None = []
own_id_of (Some text) = id_fact text

-- Who a node is: the number and the id of a message, or a dash and the id of a ghost.
abbrev pub who_words : List Entry → Who → List ℕ
who_words es (Live n) = decimal n ++ 32 ∷ own_id_of (text_of es n)
who_words es (Ghost id) = codes "- " ++ id

-- The line of a node: its depth, and who it is.
abbrev pub node_words : List Entry → Line → List ℕ
node_words es line = whole_line (decimal line.depth ++ 32 ∷ who_words es line.who)

-- A line for each node.
abbrev pub nodes_words : List Entry → List Line → List ℕ
nodes_words es lines = flat_map (node_words es) lines

-- The words of a tree: a line with the number of its nodes, and a line for each of them.
abbrev pub tree_words : List Entry → List Line → List ℕ
tree_words es lines = whole_line (codes "thread " ++ decimal (length lines)) ++ nodes_words es lines
