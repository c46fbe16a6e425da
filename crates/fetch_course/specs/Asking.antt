-- The results of asking a peer once.
use Rattle.std.specs.Prelude.{◌≡◌, ◌⊎◌, ℕ, List, [], ◌∷◌, Some, None, Result, Ok, Err}
use Rattle.arch_base.specs.declared.ids.Form.{Form}
use Rattle.arch_base.specs.declared.ids.ObjectId.{ObjectId}
use Rattle.edge_io.specs.declared.peer.Peer.{Ghosts as Peer}
use Rattle.edge_io.specs.declared.peer.Reply.{Reply}
use Rattle.fetch_course.specs.declared.answer.FetchAnswer.{FetchAnswer}
use Rattle.fetch_course.specs.declared.answer.FetchAnswer.TheVariants as answer
use Rattle.fetch_course.specs.Peering.{PeerGave}
use Rattle.fetch_course.specs.Courses.{wrong_reply}

-- A peer was asked for a path, or, as it may be without a reply, for nothing.
abbrev pub MayHaveAsked : {P : Type 0} → Peer P → P → P → List ℕ → Type 0
MayHaveAsked p old new path = PeerGave p old new [] (path ∷ []) ⊎ PeerGave p old new [] []

-- A peer failed, or memory ran out: there is no reply.
abbrev pub IsNoReply : FetchAnswer → Type 0
IsNoReply answer.PeerFault = Unit {0}
IsNoReply answer.NoMemory = Unit {0}
IsNoReply other = ⊥

-- The result of asking for a path: the next reply, or none.
abbrev pub AsksReply : {P : Type 0} → Peer P → P → P → List ℕ → Result Reply FetchAnswer → Type 0
AsksReply p old new path (Ok reply) = PeerGave p old new (reply ∷ []) (path ∷ [])
AsksReply p old new path (Err why) = IsNoReply why × MayHaveAsked p old new path

-- The result of asking for the text with a blob id of a form: the body of the next reply, which is right,
-- or what is wrong with it; or there is no reply.
abbrev pub AsksText : {P : Type 0} → Peer P → Form → ObjectId → P → P → List ℕ
    → Result (List ℕ) FetchAnswer → Type 0
AsksText p form blob old new path (Ok text) = (reply : Reply)
    × PeerGave p old new (reply ∷ []) (path ∷ []) × (reply.body ≡ text)
    × (wrong_reply form blob reply ≡ None)
AsksText p form blob old new path (Err why) =
    ((reply : Reply) × PeerGave p old new (reply ∷ []) (path ∷ [])
    × (wrong_reply form blob reply ≡ Some why))
    ⊎ (IsNoReply why × MayHaveAsked p old new path)
