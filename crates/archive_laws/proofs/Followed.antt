-- An archive whose entries keep the numbers of another one follows it.
use Rattle.std.specs.Prelude.{◌≡◌, ◌<◌, ◌==◌, ℕ, Bool, true, false, List, [], ◌∷◌, Some, None, if◌then◌else◌, refl}
use Rattle.std.specs.List.{AllByRecursion}
use Rattle.std.proofs.Common.{◌∙◌, ap, subst, inl, inr, arith}
use Rattle.std.proofs.lemmas.Bool.Decides.{nat_tests}
use Rattle.std.proofs.lemmas.Option.{same_Some}
use Rattle.arch_model.specs.Archives.{Entry, Archive, is_message, messages, text_of}
use Rattle.arch_model.specs.Following.{HasMessage}
use Rattle.archive_laws.specs.Followers.{FollowsByNumbers, KeepsNumber}

-- A text that is found under a number is that of a message.
hit_step : (t : Bool) (e : Entry) (es : List Entry) (n : ℕ) (text : List ℕ) → (e.number == n) ≡ t → is_message e.kind ≡ true → (text_of (messages es) n ≡ Some text → HasMessage es n text) → (if t then Some e.text else text_of (messages es) n) ≡ Some text → HasMessage (e ∷ es) n text
hit_step true e es n text test is rest found = inl (is, (let same : e.number ≡ n = grind (arith, nat_tests, test) in same), same_Some e.text text found)
hit_step false e es n text test is rest found = inr (rest found)

kind_step : (m : Bool) (e : Entry) (es : List Entry) (n : ℕ) (text : List ℕ) → is_message e.kind ≡ m → (text_of (messages es) n ≡ Some text → HasMessage es n text) → text_of (if m then e ∷ messages es else messages es) n ≡ Some text → HasMessage (e ∷ es) n text
kind_step true e es n text is rest found = hit_step (e.number == n) e es n text refl is rest found
kind_step false e es n text is rest found = inr (rest found)

has_found : (es : List Entry) (n : ℕ) (text : List ℕ) → text_of (messages es) n ≡ Some text → HasMessage es n text
has_found [] n text found = absurd (let wrong : None ≡ Some text = found in cc)
has_found (e ∷ es) n text found = kind_step (is_message e.kind) e es n text refl (has_found es n text) found

-- A message that keeps its number.
kept_number : (a : Archive) (es : List Entry) (n : ℕ) (text : List ℕ) → n < a.next → AllByRecursion (KeepsNumber a) es → HasMessage es n text → text_of (messages a.entries) n ≡ Some text
kept_number a [] n text less all has = absurd has
kept_number a (e ∷ es) n text less all (inl is) =
    let number = is.1 in
    subst (λ (m : ℕ). text_of (messages a.entries) m ≡ Some text) number (all.0 is.0 (omega (arith, less, number)) ∙ ap (λ (t : List ℕ). Some t) is.2)
kept_number a (e ∷ es) n text less all (inr more) = kept_number a es n text less all.1 more

pub follows_by_numbers : FollowsByNumbers
follows_by_numbers a b more all = record { next = more; texts = λ n text less has. has_found a.entries n text (kept_number a b.entries n text less all has) }
