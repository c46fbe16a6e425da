-- What an edit gives, in terms of numbers and of the messages that are shown.
use Rattle.std.specs.Prelude.{◌≡◌, ◌≢◌, ◌+◌, ℕ, List, Some, Ok}
use Rattle.arch_base.specs.declared.ids.ObjectId.{ObjectId}
use Rattle.mail_reader.specs.Stored.{stored}
use Rattle.arch_model.specs.Archives.{Archive, without_entries, live, text_of}
use Rattle.arch_model.specs.Candidates.{choice_of}
use Rattle.arch_model.specs.Delivery.{edited}
use Rattle.arch_model.specs.Validity.{IsArchive}
use Rattle.arch_model.specs.declared.answer.Answer.TheVariants as answer
use Rattle.arch_model.specs.declared.choice.Choice.TheVariants.{Take}

-- One archive is another one in which a message takes the place of those with a text, under a new
-- number.
pub record Exchanges (a : Archive) (text kept : List ℕ) (n : ℕ) (b : Archive) : Type 0 where
  pub number : n ≡ a.next
  pub next : b.next ≡ a.next + 1
  pub new : text_of (live b.entries) n ≡ Some kept
  pub shown : (m : ℕ) (other : List ℕ) → other ≢ text → text_of (live a.entries) m ≡ Some other
      → text_of (live b.entries) m ≡ Some other
  pub hidden : (m : ℕ) → m ≢ n → text_of (live b.entries) m ≢ Some text

-- An accepted edit of a number in a valid archive exchanges the text that the number shows for the
-- message, as it is kept in the archive without the text.
abbrev pub ExchangesOneText : Type 0
ExchangesOneText = (a : Archive) (number n moment : ℕ) (bytes : List ℕ) (id : ObjectId) → IsArchive a
    → (edited a number bytes moment).answer ≡ answer.Ok n id
    → (text form kept : List ℕ) × (text_of (live a.entries) number ≡ Some text)
    × (stored bytes ≡ Ok form) × (choice_of (without_entries a text) form ≡ Take kept)
    × Exchanges a text kept n (edited a number bytes moment).archive
