-- Which archives follow another one, by the numbers of their messages.
use Rattle.std.specs.Prelude.{◌≡◌, ◌<◌, ◌≤◌, true, Some}
use Rattle.std.specs.List.{AllByRecursion}
use Rattle.arch_model.specs.Archives.{Entry, Archive, is_message, messages, text_of}
use Rattle.arch_model.specs.Following.{Follows}

-- If an entry is a message with a number that an archive has given, the archive has the same text under
-- that number, live or not.
abbrev pub KeepsNumber : Archive → Entry → Type 0
KeepsNumber a e = is_message e.kind ≡ true → e.number < a.next
    → text_of (messages a.entries) e.number ≡ Some e.text

-- An archive follows another one if its next number isn't less and its entries keep the numbers of the
-- other: none names another text, and none is that of a message that the other has no more.
abbrev pub FollowsByNumbers : Type 0
FollowsByNumbers = (a b : Archive) → a.next ≤ b.next → AllByRecursion (KeepsNumber a) b.entries
    → Follows a b
