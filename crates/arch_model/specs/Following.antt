-- Archives that follow one another: no number of an archive ever names a second message.
use Rattle.std.specs.Prelude.{◌≡◌, ◌⊎◌, ◌<◌, ◌≤◌, ℕ, true, List, [], ◌∷◌, Some}
use Rattle.arch_model.specs.Archives.{Entry, Archive, is_message, with_entry, with_deletion, without_entries, live, messages, text_of}
use Rattle.arch_model.specs.Validity.{IsArchive}

-- One of these entries is the message with a number and a text.
abbrev pub HasMessage : List Entry → ℕ → List ℕ → Type 0
HasMessage [] n text = ⊥
HasMessage (e ∷ es) n text = ((is_message e.kind ≡ true) × (e.number ≡ n) × (e.text ≡ text))
    ⊎ HasMessage es n text

-- `b` follows `a`: its next number isn't less, and each of its messages with a number below the next
-- of `a`, live or not, is a message of `a` with the same text.
pub record Follows (a b : Archive) : Type 0 where
  pub next : a.next ≤ b.next
  pub texts : (n : ℕ) (text : List ℕ) → n < a.next → HasMessage b.entries n text
      → HasMessage a.entries n text

-- An archive follows itself.
abbrev pub FollowsItself : Type 0
FollowsItself = (a : Archive) → Follows a a

-- What follows a follower follows.
abbrev pub FollowsThrough : Type 0
FollowsThrough = (a b c : Archive) → Follows a b → Follows b c → Follows a c

-- An archive with one more message follows the one without it.
abbrev pub FollowsWithEntry : Type 0
FollowsWithEntry = (a : Archive) (epoch : ℕ) (text : List ℕ) (moment : ℕ)
    → Follows a (with_entry a epoch text moment)

-- An archive with one more deletion follows the one without it.
abbrev pub FollowsWithDeletion : Type 0
FollowsWithDeletion = (a : Archive) (number epoch : ℕ) (text : List ℕ) (moment : ℕ)
    → Follows a (with_deletion a number epoch text moment)

-- An archive without the entries of a text follows the one with them. Numbers that are no longer those
-- of a message are not given again.
abbrev pub FollowsWithoutText : Type 0
FollowsWithoutText = (a : Archive) (text : List ℕ) → Follows a (without_entries a text)

-- A number names the same text in an archive and in one that follows it, if both have a message with
-- it.
abbrev pub NumbersStay : Type 0
NumbersStay = (a b : Archive) → IsArchive a → Follows a b → (n : ℕ) (old new : List ℕ)
    → text_of (messages a.entries) n ≡ Some old → text_of (messages b.entries) n ≡ Some new
    → new ≡ old

-- A number that is shown in a valid archive and in one that follows it shows the same text.
abbrev pub ShownStay : Type 0
ShownStay = (a b : Archive) → IsArchive a → IsArchive b → Follows a b → (n : ℕ) (old new : List ℕ)
    → text_of (live a.entries) n ≡ Some old → text_of (live b.entries) n ≡ Some new → new ≡ old
