-- What the line of progress says.
use Rattle.std.specs.Prelude.{◌++◌, ◌/◌, ℕ, Bool, List, codes, decimal, min, if◌then◌else◌}

-- The words for so many bytes of a folder that has `total`, in whole millions: `read 120 of 345 MB`.
-- More bytes than the folder has count as all of them. `again`: they were read before.
abbrev pub read_words : ℕ → ℕ → Bool → List ℕ
read_words read total again = if again
    then codes "read " ++ decimal (min read total / 1000000) ++ codes " of " ++ decimal (total / 1000000)
    ++ codes " MB, again"
    else codes "read " ++ decimal (min read total / 1000000) ++ codes " of " ++ decimal (total / 1000000)
    ++ codes " MB"
