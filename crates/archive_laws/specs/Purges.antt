-- What a purge leaves of an archive, in terms of single entries and of numbers.
use Rattle.std.specs.Prelude.{◌≡◌, ◌≢◌, ◌⊎◌, ℕ, List, [], ◌∷◌, Some}
use Rattle.arch_base.specs.declared.ids.ObjectId.{ObjectId}
use Rattle.arch_model.specs.Archives.{Entry, Archive, live, messages, text_of}
use Rattle.arch_model.specs.Delivery.{purged}
use Rattle.arch_model.specs.Validity.{IsArchive}
use Rattle.arch_model.specs.declared.answer.Answer.TheVariants as answer

-- An entry is one of these.
abbrev pub IsAmong : List Entry → Entry → Type 0
IsAmong [] e = ⊥
IsAmong (f ∷ fs) e = (f ≡ e) ⊎ IsAmong fs e

-- The first entries are some of the second ones, in the same order.
abbrev pub AreSome : List Entry → List Entry → Type 0
AreSome [] es = Unit {0}
AreSome (f ∷ fs) [] = ⊥
AreSome (f ∷ fs) (e ∷ es) = ((f ≡ e) × AreSome fs es) ⊎ AreSome (f ∷ fs) es

-- One archive is what another one is without a text.
pub record IsWithoutText (a : Archive) (text : List ℕ) (b : Archive) : Type 0 where
  pub gone : (e : Entry) → IsAmong b.entries e → e.text ≢ text
  pub kept : (e : Entry) → IsAmong a.entries e → e.text ≢ text → IsAmong b.entries e
  pub order : AreSome b.entries a.entries
  pub hidden : (n : ℕ) → text_of (live b.entries) n ≢ Some text
  pub shown : (n : ℕ) (other : List ℕ) → other ≢ text → text_of (live a.entries) n ≡ Some other
      → text_of (live b.entries) n ≡ Some other
  pub old : (n : ℕ) (other : List ℕ) → text_of (live b.entries) n ≡ Some other
      → text_of (live a.entries) n ≡ Some other
  pub next : b.next ≡ a.next
  pub config : b.config ≡ a.config

-- An accepted purge on a valid archive leaves it without the text that its number was delivered with.
abbrev pub DropsOneText : Type 0
DropsOneText = (a : Archive) (number n : ℕ) (id : ObjectId) → IsArchive a
    → (purged a number).answer ≡ answer.Ok n id
    → (text : List ℕ) × (text_of (messages a.entries) number ≡ Some text)
    × IsWithoutText a text (purged a number).archive
