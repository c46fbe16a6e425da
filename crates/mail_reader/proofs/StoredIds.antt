-- The own id of a storage text.
use Rattle.std.proofs.Common.{◌≡◌, ◌≤◌, ℕ, Bool, List, length, Option, Some, None, refl, sym, subst, ◌∙◌}
use Rattle.std.specs.Prelude.{◌↔◌, IsTrue, IsSome, MatchOption, is_some, option_copied}
use Rattle.std.specs.Borrow.{Bor}
use Rattle.std.proofs.lemmas.Bool.{false≢true}
use Rattle.mail_reader.specs.Ids.{own_id}
use Rattle.mail_reader.specs.Stored.{storage_form}
use Rattle.mail_reader.specs.StorageTexts.{IsStorageText, max_text_len}

-- The own id is found, or the text is no storage text.
abbrev pub FindsId : List ℕ → Option (Bor (List ℕ)) → Type 0
FindsId text found = MatchOption found (IsStorageText text → ⊥) (λ id. IsStorageText text × (own_id text ≡ Some id.now))

-- A text of a storage text's length and form is one if it has an own id.
pub id_of_form : (text : List ℕ) (found : Option (Bor (List ℕ))) → length text ≤ max_text_len → storage_form text ≡ Some text → option_copied found ≡ own_id text → FindsId text found
id_of_form text None short form is = λ storage.
    let P : Option (List ℕ) → Type 0 = λ id. IsSome id in
    absurd (false≢true (subst P (sym is) storage.id))
id_of_form text (Some id) short form is =
    let P : Option (List ℕ) → Type 0 = λ here. IsSome here in
    (record { short = short; form = form; id = subst P is refl }, sym is)

-- A text is a storage text exactly if its own id is found so.
pub stored_by_id : (text : List ℕ) (found : Option (Bor (List ℕ))) (answer : Bool) → answer ≡ is_some found → FindsId text found → IsTrue answer ↔ IsStorageText text
stored_by_id text None answer is none = (λ yes_. absurd (false≢true (sym is ∙ yes_)), λ storage. absurd (none storage))
stored_by_id text (Some id) answer is found = (λ yes_. found.0, λ storage. is)
