-- The laws of what clients are told.
use Rattle.std.specs.Prelude.{◌≡◌, ◌+◌, ℕ, Bool, List, [], ◌++◌, None}
use Rattle.std.specs.List.{fold}
use Rattle.known_uids.specs.Told.{passing, RisesBelow, NoneBack, new_of, changes_of, expunged}

-- A client that was told of all that is there is told nothing.
abbrev pub ToldTwice : Type 0
ToldTwice = (now : List ℕ) → ((changes_of now now).gone ≡ []) × ((changes_of now now).exists ≡ None)

-- Where no number came back, a client that follows each EXPUNGE in order, and then takes the new UIDs
-- in, has those that are there.
abbrev pub ToldIsFollowed : Type 0
ToldIsFollowed = (test : ℕ → Bool) (first last : ℕ) (told : List ℕ) → RisesBelow first told (last + 1)
    → NoneBack test first told →
    fold expunged told (changes_of told (passing test first last)).gone
    ++ new_of told (passing test first last) ≡ passing test first last
