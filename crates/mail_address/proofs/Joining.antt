-- The words of a text are joined.
use Rattle.std.proofs.Common.{◌≡◌, ℕ, zero, suc, ◌<◌, true, false, List, [], ◌∷◌, ◌++◌, length, replicate, refl, ◌∙◌, ap, append_assoc, arith}
use Rattle.std.specs.List.{All, flat_map}
use Rattle.mail_address.specs.Words.{begins_word, spaced, without_space, joined_words}
use Rattle.mail_address.specs.Texts.{IsSpacelessWord, spread, WordsAreJoined, SpacesAreNoWords}
use Rattle.mail_address.proofs.Spacing.{without_space-space}
use Rattle.mail_address.proofs.Plain.{HasNo as Lacks}
use Rattle.mail_address.proofs.Mailboxes.{lacks}

-- Spaces alone.
no_word : (n : ℕ) → begins_word (replicate n 32) ≡ false
no_word zero = refl
no_word (suc n) = refl

spaced_none : (n : ℕ) → spaced (replicate n 32) ≡ []
spaced_none zero = refl
spaced_none (suc n) = rw (no_word n) (spaced_none n)

-- The bytes of a word stay.
spaced_word : (word ys : List ℕ) → Lacks 32 word → spaced (word ++ ys) ≡ word ++ spaced ys
spaced_word [] ys q = refl
spaced_word (b ∷ bs) ys q = rw q.0 (ap (λ (xs : List ℕ). b ∷ xs) (spaced_word bs ys q.1))

-- Of the spaces before a word one stays.
spaced_run : (n : ℕ) (ys : List ℕ) → begins_word ys ≡ true → spaced (32 ∷ (replicate n 32 ++ ys)) ≡ 32 ∷ spaced ys
spaced_run zero ys begins = rw begins refl
spaced_run (suc n) ys begins = spaced_run n ys begins

word_begins : (word ys : List ℕ) → 0 < length word → Lacks 32 word → begins_word (word ++ ys) ≡ true
word_begins [] ys some q = absurd (omega arith)
word_begins (b ∷ bs) ys some q = rw q.0 refl

-- Each word is a word.
abbrev AllWords : List (ℕ × List ℕ) → Type 0
AllWords [] = Unit {0}
AllWords (part ∷ parts) = (0 < length part.1) × Lacks 32 part.1 × AllWords parts

all_words : (parts : List (ℕ × List ℕ)) → All (λ (part : ℕ × List ℕ). IsSpacelessWord part.1) parts → AllWords parts
all_words [] all = tt
all_words (part ∷ parts) all =
    let here : 0 < length (part ∷ parts) = omega arith in
    let tail : All (λ (p : ℕ × List ℕ). IsSpacelessWord p.1) parts = λ k d h. let later : suc k < length (part ∷ parts) = omega arith in all (suc k) d later in
    let word : IsSpacelessWord part.1 = all 0 part here in
    (word.0, lacks 32 part.1 word.1, all_words parts tail)

spaced_words : (parts : List (ℕ × List ℕ)) (end : ℕ) → AllWords parts
    → spaced (flat_map spread parts ++ replicate end 32) ≡ flat_map (λ (part : ℕ × List ℕ). 32 ∷ part.1) parts
spaced_words [] end q = spaced_none end
spaced_words (part ∷ parts) end q =
    let rest = flat_map spread parts ++ replicate end 32 in
    let is : flat_map spread (part ∷ parts) ++ replicate end 32 ≡ 32 ∷ (replicate part.0 32 ++ (part.1 ++ rest)) =
    ap (λ (xs : List ℕ). 32 ∷ (xs ++ replicate end 32)) (append_assoc (replicate part.0 32) part.1 (flat_map spread parts))
    ∙ ap (λ (xs : List ℕ). 32 ∷ xs) (append_assoc (replicate part.0 32) (part.1 ++ flat_map spread parts) (replicate end 32))
    ∙ ap (λ (xs : List ℕ). 32 ∷ (replicate part.0 32 ++ xs)) (append_assoc part.1 (flat_map spread parts) (replicate end 32)) in
    ap spaced is ∙ spaced_run part.0 (part.1 ++ rest) (word_begins part.1 rest q.0 q.1)
    ∙ ap (λ (xs : List ℕ). 32 ∷ xs) (spaced_word part.1 rest q.1 ∙ ap (λ (xs : List ℕ). part.1 ++ xs) (spaced_words parts end q.2))

-- Spaces at the front are removed.
front_goes : (n : ℕ) (ys : List ℕ) → joined_words (replicate n 32 ++ ys) ≡ joined_words ys
front_goes zero ys = refl
front_goes (suc n) ys = without_space-space (replicate n 32 ++ ys) ∙ front_goes n ys

word_stays : (word ys : List ℕ) → 0 < length word → Lacks 32 word → without_space (word ++ ys) ≡ word ++ ys
word_stays [] ys some q = absurd (omega arith)
word_stays (b ∷ bs) ys some q = rw q.0 refl

pub words_are_joined : WordsAreJoined
words_are_joined first more front end word words =
    let free : Lacks 32 first = lacks 32 first word.1 in
    let rest = flat_map spread more ++ replicate end 32 in
    front_goes front (first ++ rest)
    ∙ ap without_space (spaced_word first rest free ∙ ap (λ (xs : List ℕ). first ++ xs) (spaced_words more end (all_words more words)))
    ∙ word_stays first (flat_map (λ (part : ℕ × List ℕ). 32 ∷ part.1) more) word.0 free

pub spaces_are_no_words : SpacesAreNoWords
spaces_are_no_words n = ap without_space (spaced_none n)
