-- Words by their numbers, as words are added.
use Rattle.std.proofs.Common.{◌≡◌, ℕ, ◌+◌, ◌<◌, List, [], ◌∷◌, ◌++◌, length, get_or, take, Some, refl, sym, ap, subst, ◌∙◌, arith}
use Rattle.std.proofs.lemmas.List.{get_or_append_left, length-append, map-append, take_more}
use Rattle.std.proofs.Math.Seq.{get_or-append_seam}
use Rattle.word_index.specs.Vocabulary.{word_at, spelled, IsNumberOf, KeepsWords, AreHeld, AreNumbersOf, IsNumberFor}

pub one_more : (words : List (List ℕ)) (word : List ℕ) → length (words ++ word ∷ []) ≡ length words + 1
one_more words word = length-append words (word ∷ [])

pub before : (words : List (List ℕ)) (word : List ℕ) (i : ℕ) → i < length words → word_at (words ++ word ∷ []) i ≡ word_at words i
before words word i h = get_or_append_left words (word ∷ []) [] i h

pub there : (words : List (List ℕ)) (word : List ℕ) (i : ℕ) → i ≡ length words → word_at (words ++ word ∷ []) i ≡ word
there words word i h = ap (word_at (words ++ word ∷ [])) h ∙ get_or-append_seam words word [] []

-- The words keep their numbers.
pub keeps-same : (words : List (List ℕ)) → KeepsWords words words
keeps-same words = record { longer = omega arith; same = λ i h. refl }

pub keeps-more : (words : List (List ℕ)) (word : List ℕ) → KeepsWords words (words ++ word ∷ [])
keeps-more words word = record { longer = omega (arith, one_more words word); same = λ i h. before words word i h }

pub keeps-then : (a b c : List (List ℕ)) → KeepsWords a b → KeepsWords b c → KeepsWords a c
keeps-then a b c one two = record { longer = omega (arith, one.longer, two.longer); same = λ i h. two.same i (omega (arith, one.longer)) ∙ one.same i h }

-- A new word's number.
pub number-of-last : (words : List (List ℕ)) (word : List ℕ) (n : ℕ) → n ≡ length words → IsNumberFor (words ++ word ∷ []) word n
number-of-last words word n is = record { held = omega (arith, one_more words word); is = there words word n is }

-- Numbers of words, when words are added.
pub held-then : (old new : List (List ℕ)) (numbers : List ℕ) → KeepsWords old new → AreHeld old numbers → AreHeld new numbers
held-then old new [] keeps held = tt
held-then old new (n ∷ ns) keeps held = (omega (arith, held.0, keeps.longer), held-then old new ns keeps held.1)

pub spelled-then : (old new : List (List ℕ)) (numbers : List ℕ) → KeepsWords old new → AreHeld old numbers → spelled new numbers ≡ spelled old numbers
spelled-then old new [] keeps held = refl
spelled-then old new (n ∷ ns) keeps held = ap (λ (w : List ℕ). w ∷ spelled new ns) (keeps.same n held.0) ∙ ap (λ (ws : List (List ℕ)). word_at old n ∷ ws) (spelled-then old new ns keeps held.1)

pub numbers-then : (old new : List (List ℕ)) (texts : List (List ℕ)) (numbers : List ℕ) → KeepsWords old new → AreNumbersOf old texts numbers → AreNumbersOf new texts numbers
numbers-then old new texts numbers keeps are = record { held = held-then old new numbers keeps are.held; are = spelled-then old new numbers keeps are.held ∙ are.are }

-- One number more.
held-more : (words : List (List ℕ)) (numbers : List ℕ) (n : ℕ) → AreHeld words numbers → n < length words → AreHeld words (numbers ++ n ∷ [])
held-more words [] n held one = (one, tt)
held-more words (m ∷ ms) n held one = (held.0, held-more words ms n held.1 one)

pub numbers-more : (words : List (List ℕ)) (texts : List (List ℕ)) (text : List ℕ) (numbers : List ℕ) (n : ℕ) → AreNumbersOf words texts numbers → IsNumberFor words text n → AreNumbersOf words (texts ++ text ∷ []) (numbers ++ n ∷ [])
numbers-more words texts text numbers n are one =
    record {
      held = held-more words numbers n are.held one.held;
      are = map-append (word_at words) numbers (n ∷ []) ∙ ap (λ (ws : List (List ℕ)). ws ++ word_at words n ∷ []) are.are ∙ ap (λ (w : List ℕ). texts ++ w ∷ []) one.is;
    }

pub numbers-none : (words : List (List ℕ)) → AreNumbersOf words [] []
numbers-none words = record { held = tt; are = refl }

pub number-known : (words : List (List ℕ)) (word text : List ℕ) (n : ℕ) → IsNumberOf words word (Some n) → word ≡ text → IsNumberFor words text n
number-known words word text n is same = let held = is.held n refl in record { held = held.0; is = held.1 ∙ same }

-- The next of some words, and its number.
pub numbers-step : (mid new : List (List ℕ)) (texts : List (List ℕ)) (i : ℕ) (given : List ℕ) (numbers later : List ℕ) (n : ℕ) → i < length texts → given ≡ get_or texts i [] → KeepsWords mid new
    → AreNumbersOf mid (take i texts) numbers → IsNumberFor new given n → later ≡ numbers ++ n ∷ [] → AreNumbersOf new (take (i + 1) texts) later
numbers-step mid new texts i given numbers later n h same keeps are one is =
    let more : take (i + 1) texts ≡ take i texts ++ given ∷ [] = take_more texts i [] h ∙ ap (λ (t : List ℕ). take i texts ++ t ∷ []) (sym same) in
    subst (AreNumbersOf new (take (i + 1) texts)) (sym is)
    (subst (λ (ts : List (List ℕ)). AreNumbersOf new ts (numbers ++ n ∷ [])) (sym more) (numbers-more new (take i texts) given numbers n (numbers-then mid new (take i texts) numbers keeps are) one))
