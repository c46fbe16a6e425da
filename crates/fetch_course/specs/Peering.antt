-- The paths that a fetch asks its peer for, and what a run of calls of a peer asked and was given.
use Rattle.std.specs.Prelude.{◌≡◌, ℕ, List, ◌++◌, codes, Option, Some, None}
use Rattle.hex.specs.Hex.{encode_lower}
use Rattle.arch_base.specs.Ids.{id_bytes}
use Rattle.arch_base.specs.declared.ids.ObjectId.{ObjectId}
use Rattle.edge_io.specs.declared.peer.Peer.{Ghosts as Peer}
use Rattle.edge_io.specs.declared.peer.Reply.{Reply}

-- The path of the list of an archive with a name.
abbrev pub list_path : List ℕ → List ℕ
list_path name = codes "/" ++ (name ++ codes "/_/list")

-- The path of a blob of an archive with a name.
abbrev pub blob_path : List ℕ → ObjectId → List ℕ
blob_path name blob = codes "/" ++ (name ++ (codes "/_/blob/" ++ encode_lower (id_bytes blob)))

-- Replies, followed by those to come. None stays None.
abbrev pub replies_before : List Reply → Option (List Reply) → Option (List Reply)
replies_before given None = None
replies_before given (Some left) = Some (given ++ left)

-- The paths that were asked for, followed by these. None stays None.
abbrev pub with_paths : Option (List (List ℕ)) → List (List ℕ) → Option (List (List ℕ))
with_paths None paths = None
with_paths (Some asked) paths = Some (asked ++ paths)

-- What a run of calls of a peer asked for and was given: these replies were the first ones to come, and
-- these paths were asked for, where it tells them.
pub record PeerGave {P : Type 0} (g : Peer P) (old new : P) (given : List Reply) (put : List (List ℕ))
    : Type 0 where
  pub left : g.left old ≡ replies_before given (g.left new)
  pub asked : g.asked new ≡ with_paths (g.asked old) put
