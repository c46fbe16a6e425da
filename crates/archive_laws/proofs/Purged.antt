-- What an archive is without a text.
use Rattle.std.proofs.Common.{◌≡◌, ◌≢◌, ℕ, List, Some, refl, ap, ◌∙◌, sym}
use Rattle.arch_model.specs.Archives.{Archive, live, text_of, without_text, without_entries}
use Rattle.arch_model.specs.Following.{Follows, ShownStay}
use Rattle.arch_model.specs.Validity.{IsArchive}
use Rattle.arch_model.proofs.Purging.{live_without, valid_without}
use Rattle.archive_laws.specs.Purges.{IsWithoutText}
use Rattle.archive_laws.proofs.Filtered.{none_left, others_left, left_in_order, has_entry_of, stays_shown, had_text}

-- No text that is left under a number is the one that was dropped.
pub none_shown : (text : List ℕ) (n : ℕ) (a : Archive) → IsArchive a → text_of (live (without_entries a text).entries) n ≢ Some text
none_shown text n a valid shows =
    let found = has_entry_of n text (without_text (live a.entries) text) (sym (ap (λ es. text_of es n) (live_without a text valid)) ∙ shows) in
    none_left text (live a.entries) found.0 found.1 found.2

-- A number that is shown was shown, with the same text.
was_shown : ShownStay → (text other : List ℕ) (n : ℕ) (a : Archive) → IsArchive a → Follows a (without_entries a text) → text_of (live (without_entries a text).entries) n ≡ Some other
    → text_of (live a.entries) n ≡ Some other
was_shown stay text other n a valid follows shows =
    let had = had_text text other n (live a.entries) (sym (ap (λ es. text_of es n) (live_without a text valid)) ∙ shows) in
    let same = stay a (without_entries a text) valid (valid_without a text valid) follows n had.0 other had.1 shows in
    had.1 ∙ ap Some (sym same)

-- A valid archive without the entries of a text is what it is without the text.
pub lacks : ShownStay → (a : Archive) (text : List ℕ) → IsArchive a → Follows a (without_entries a text) → IsWithoutText a text (without_entries a text)
lacks stay a text valid follows = record {
  gone = λ e among. none_left text a.entries e among;
  kept = λ e among other. others_left text a.entries e among other;
  order = left_in_order text a.entries;
  hidden = λ n. none_shown text n a valid;
  shown = λ n other apart shows. ap (λ es. text_of es n) (live_without a text valid) ∙ stays_shown text other n (live a.entries) apart shows;
  old = λ n other shows. was_shown stay text other n a valid follows shows;
  next = refl;
  config = refl;
}
