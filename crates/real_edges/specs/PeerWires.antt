-- Private: where a reply lies in the bytes that came.
use Rattle.std.specs.Prelude.{◌≤◌, ℕ}
use Rattle.peer_replies.specs.declared.reading.WholeReply.{WholeReply}

-- The body lies in the first `len` bytes.
abbrev pub LiesIn : ℕ → WholeReply → Type 0
LiesIn len reply = (reply.start ≤ reply.end) × (reply.end ≤ len)
