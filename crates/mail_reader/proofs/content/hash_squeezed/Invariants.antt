use Rattle.std.proofs.Common.{◌≡◌, ℕ, List, ◌++◌, drop, false}
use Rattle.mail_reader.specs.Hashing.{HasHashed}
use Rattle.mail_reader.proofs.Squeezes.{given_from}
use Rattle.mail_reader.proofs.content.hash_squeezed.Given as goal

abbrev pub invariant-loop-byte : goal.invariant-loop-byte
invariant-loop-byte l =
    (done : List ℕ) × (HasHashed l.fn.hasher l.hasher done × (done ++ given_from l.spaced (drop l.byte-index l.byte-items) ≡ given_from false l.byte-items))
