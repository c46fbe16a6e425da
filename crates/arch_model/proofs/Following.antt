-- No number of an archive ever names a second message.
use Rattle.std.specs.Prelude.{◌≡◌, ◌<◌, ◌==◌, ℕ, Bool, true, false, not, List, [], ◌∷◌, ◌++◌, Option, Some, None, if◌then◌else◌, unwrap_or, refl}
use Rattle.std.specs.List.{AllByRecursion}
use Rattle.std.proofs.Common.{◌⊎◌, inl, inr, ◌∙◌, sym, ap, arith}
use Rattle.std.proofs.lemmas.Bool.Decides.{nat_tests}
use Rattle.std.specs.Str.{bytes_eq}
use Rattle.arch_model.specs.Archives.{Entry, message, deletion, is_message, messages, text_of, without_text}
use Rattle.arch_model.specs.Following.{HasMessage, FollowsItself, FollowsThrough, FollowsWithEntry, FollowsWithDeletion, FollowsWithoutText, NumbersStay, ShownStay}
use Rattle.arch_model.specs.Validity.{Rise, number_after}
use Rattle.arch_model.proofs.Purging.{Climbs, messages_climb, later_found}
use Rattle.arch_model.proofs.LiveEntries.{messages-all, live-one}

-- An archive follows itself.
pub follows_itself : FollowsItself
follows_itself a = record { next = omega arith; texts = λ n text less is. is }

-- What follows a follower follows.
pub follows_through : FollowsThrough
follows_through a b c p q =
    let more = p.next in
    let most = q.next in
    record { next = omega (arith, more, most); texts = λ n text less is. p.texts n text less (q.texts n text (omega (arith, less, more)) is) }

-- A message of two lists is one of the first or of the second.
has_either : (es fs : List Entry) (n : ℕ) (text : List ℕ) → HasMessage (es ++ fs) n text → HasMessage es n text ⊎ HasMessage fs n text
has_either [] fs n text has = inr has
has_either (e ∷ es) fs n text (inl is) = inl (inl is)
has_either (e ∷ es) fs n text (inr more) = elim (has_either es fs n text more) [ inl one ↦ inl (inr one) | inr two ↦ inr two ]

-- An archive with one more entry follows the one without it.
pub follows_with_entry : FollowsWithEntry
follows_with_entry a epoch text moment = record {
  next = omega arith;
  texts = λ n old less has. elim (has_either a.entries (message a.next epoch text moment ∷ []) n old has) [ inl before ↦ before | inr last ↦ elim last [ inl is ↦ absurd (let same : a.next ≡ n = is.1 in omega (arith, less, same)) | inr none ↦ absurd none ] ];
}

-- An archive with one more deletion follows the one without it.
pub follows_with_deletion : FollowsWithDeletion
follows_with_deletion a number epoch text moment = record {
  next = omega arith;
  texts = λ n old less has. elim (has_either a.entries (deletion number epoch text moment ∷ []) n old has) [ inl before ↦ before | inr last ↦ elim last [ inl is ↦ absurd (let wrong : false ≡ true = is.0 in cc) | inr none ↦ absurd none ] ];
}

kept_step : (t : Bool) (e : Entry) (es ks : List Entry) (n : ℕ) (text : List ℕ) → (HasMessage ks n text → HasMessage es n text) → HasMessage (if t then e ∷ ks else ks) n text → HasMessage (e ∷ es) n text
kept_step true e es ks n text rest (inl is) = inl is
kept_step true e es ks n text rest (inr more) = inr (rest more)
kept_step false e es ks n text rest has = inr (rest has)

-- A message that is kept was there.
has_kept : (es : List Entry) (gone : List ℕ) (n : ℕ) (text : List ℕ) → HasMessage (without_text es gone) n text → HasMessage es n text
has_kept [] gone n text has = has
has_kept (e ∷ es) gone n text has = kept_step (not (bytes_eq gone e.text)) e es (without_text es gone) n text (has_kept es gone n text) has

-- An archive without the entries of a text follows the one with them.
pub follows_without_text : FollowsWithoutText
follows_without_text a text = record { next = omega arith; texts = λ n old less has. has_kept a.entries text n old has }

found_hit : (t : Bool) (e : Entry) (es : List Entry) (n : ℕ) (text : List ℕ) → (e.number == n) ≡ t → is_message e.kind ≡ true → (text_of (messages es) n ≡ Some text → HasMessage es n text) → (if t then Some e.text else text_of (messages es) n) ≡ Some text → HasMessage (e ∷ es) n text
found_hit true e es n text test is rest found = inl (is, grind (arith, nat_tests, test), cc)
found_hit false e es n text test is rest found = inr (rest found)

found_step : (m : Bool) (e : Entry) (es : List Entry) (n : ℕ) (text : List ℕ) → is_message e.kind ≡ m → (text_of (messages es) n ≡ Some text → HasMessage es n text) → text_of (if m then e ∷ messages es else messages es) n ≡ Some text → HasMessage (e ∷ es) n text
found_step true e es n text is rest found = found_hit (e.number == n) e es n text refl is rest found
found_step false e es n text is rest found = inr (rest found)

-- A message that is found is there.
pub found_message : (es : List Entry) (n : ℕ) (text : List ℕ) → text_of (messages es) n ≡ Some text → HasMessage es n text
found_message [] n text found = absurd (cc)
found_message (e ∷ es) n text found = found_step (is_message e.kind) e es n text refl (found_message es n text) found

-- Where numbers rise, a message that is there is found.
later_step : (m : Bool) (low : ℕ) (e : Entry) (es : List Entry) (n : ℕ) (text : List ℕ) → Climbs low (if m then e ∷ messages es else messages es) → text_of (messages es) n ≡ Some text → text_of (if m then e ∷ messages es else messages es) n ≡ Some text
later_step true low e es n text climbs found = later_found (e.number == n) n text e (messages es) refl climbs.1 found
later_step false low e es n text climbs found = found

here_step : (m : Bool) (e : Entry) (es : List Entry) (n : ℕ) (text : List ℕ) → is_message e.kind ≡ m → (is_message e.kind ≡ true) × (e.number ≡ n) × (e.text ≡ text) → text_of (if m then e ∷ messages es else messages es) n ≡ Some text
here_step true e es n text is both = (let same : (e.number == n) ≡ true = (let number = both.1 in grind (arith, nat_tests, number)) in ap (λ (b : Bool). if b then Some e.text else text_of (messages es) n) same ∙ ap Some both.2)
here_step false e es n text is both = absurd (let wrong : false ≡ true = sym is ∙ both.0 in cc)

pub message_found : (low epoch : ℕ) (es : List Entry) (n : ℕ) (text : List ℕ) → Rise low epoch es → HasMessage es n text → text_of (messages es) n ≡ Some text
message_found low epoch [] n text rise has = absurd has
message_found low epoch (e ∷ es) n text rise (inl is) = here_step (is_message e.kind) e es n text refl is
message_found low epoch (e ∷ es) n text rise (inr more) = later_step (is_message e.kind) low e es n text (messages_climb low epoch (e ∷ es) rise) (message_found (number_after e.kind low e.number) e.epoch es n text rise.2 more)

-- A number with a text is below each bound of all numbers.
pub number_below : (es : List Entry) (high n : ℕ) (text : List ℕ) → AllByRecursion (λ (e : Entry). e.number < high) es → text_of es n ≡ Some text → n < high
number_below [] high n text below is = let wrong : None ≡ Some text = is in cc
number_below (e ∷ es) high n text below is = by (e.number == n) refl (number_below es high n text below.1) is where
  by : (b : Bool) → (e.number == n) ≡ b → (text_of es n ≡ Some text → n < high) → (if b then Some e.text else text_of es n) ≡ Some text → n < high
  by true test rest found = let less : e.number < high = below.0 in let same : e.number ≡ n = grind (arith, nat_tests) in omega (arith, less, same)
  by false test rest found = rest found

-- A number names the same text in an archive and in one that follows it.
pub numbers_stay : NumbersStay
numbers_stay a b valid follows n old new was is =
    let found : text_of (messages a.entries) n ≡ Some new = message_found 1 0 a.entries n new valid.order (follows.texts n new (number_below (messages a.entries) a.next n old (messages-all (λ (e : Entry). e.number < a.next) a.entries valid.below) was) (found_message b.entries n new is)) in
    ap (λ (o : Option (List ℕ)). unwrap_or o new) (sym found ∙ was)

-- So does what is shown.
pub shown_stay : ShownStay
shown_stay a b valid later follows n old new was is = numbers_stay a b valid follows n old new (live-one 1 0 a.entries n old valid.order was).is (live-one 1 0 b.entries n new later.order is).is
