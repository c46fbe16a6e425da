-- What contracts see of a host over sockets.
use Rattle.std.specs.Prelude.{◌≤◌, ℕ, List, length}
use Rattle.edge_io.specs.Events.{IsPieceLen, IsWhat, piece_len}
use Rattle.edge_io.specs.declared.events.What.{What}
use Rattle.real_edges.specs.declared.client.Heard.{Heard}
use Rattle.real_edges.specs.declared.client.Heard.TheVariants.{Nothing, Bytes, Ended, Gone}

-- The numbers of failed calls of `next` and of `send`.
pub record HostCounts : Type 0 where
  pub faults : ℕ
  pub lost : ℕ

-- What may happen, with its piece at the front of a buffer.
abbrev pub MayHappen : List ℕ → What → Type 0
MayHappen into what = IsWhat what × (piece_len what ≤ length into)

-- What a read of a client may find, with its bytes at the front of a buffer.
abbrev pub IsHeard : List ℕ → Heard → Type 0
IsHeard into Nothing = Unit {0}
IsHeard into (Bytes len) = IsPieceLen len × (len ≤ length into)
IsHeard into Ended = Unit {0}
IsHeard into Gone = Unit {0}
