use Rattle.std.proofs.Common.{◌≡◌, ◌<◌, ◌++◌, ℕ, true, List, [], ◌∷◌, length, refl, arith}
use Rattle.imap_session.specs.Tags as tags
use Rattle.imap_session.proofs.starved.has_octet.Goals as goal

-- Octets of which the first list has one.
filled : (xs ys : List ℕ) → 0 < length xs → true ≡ tags.has_octet (xs ++ ys)
filled [] ys some = absurd (omega arith)
filled (x ∷ xs) ys some = refl

pub returns-in-len1-up : goal.returns-in-len1-up
returns-in-len1-up c = filled c.args.tag.now c.args.more.now (omega arith)
