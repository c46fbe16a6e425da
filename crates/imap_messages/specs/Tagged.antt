-- Lines with a command's tag (RFC 3501, section 7.1).
use Rattle.std.specs.Prelude.{ℕ, List, ◌∷◌, ◌++◌, codes}
use Rattle.wire_replies.specs.Blocks.{crlf_line}

-- The tag, a space and words.
abbrev pub tagged : List ℕ → List ℕ → List ℕ
tagged tag words = tag ++ 32 ∷ crlf_line words

-- The line for a command that isn't of the grammar, or that names what isn't there.
abbrev pub bad_line : List ℕ → List ℕ
bad_line tag = tagged tag (codes "BAD syntax")

-- What stands before the reason of each refusal.
abbrev pub no_code : List ℕ → List ℕ
no_code tag = tag ++ codes " NO "
