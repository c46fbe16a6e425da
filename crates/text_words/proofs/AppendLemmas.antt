-- Words that are appended one after the other.
use Rattle.std.proofs.Common.{◌≡◌, ℕ, zero, suc, List, [], ◌∷◌, ◌++◌, take, drop, Result, Ok, Err, refl, sym, ap, ◌∙◌, append_assoc}
use Rattle.std.specs.Prelude.{OnErr}
use Rattle.text_words.specs.Words.{AppendsSome}

-- The words that were taken, and the next one.
take-next : (words : List (List ℕ)) (count : ℕ) (word : List ℕ) (others : List (List ℕ)) → drop count words ≡ word ∷ others → (take (suc count) words ≡ take count words ++ word ∷ []) × (drop (suc count) words ≡ others)
take-next [] zero word others is = absurd (cc)
take-next [] (suc count) word others is = absurd (cc)
take-next (w ∷ ws) zero word others is = let head : w ≡ word = cc in let tail : ws ≡ others = cc in (ap (λ (l : List ℕ). l ∷ []) head, tail)
take-next (w ∷ ws) (suc count) word others is = let more = take-next ws count word others is in (ap (λ (l : List (List ℕ)). w ∷ l) more.0, more.1)

take-rest : (words : List (List ℕ)) (count : ℕ) → drop count words ≡ [] → take count words ≡ words
take-rest [] zero is = refl
take-rest [] (suc count) is = refl
take-rest (w ∷ ws) zero is = cc
take-rest (w ∷ ws) (suc count) is = ap (λ (l : List (List ℕ)). w ∷ l) (take-rest ws count is)

-- Where the first of some words were appended, and the others are left.
abbrev pub Stands : List (List ℕ) → List (List ℕ) → List (List ℕ) → List (List ℕ) → Type 0
Stands old words new left = (count : ℕ) × (new ≡ old ++ take count words) × (drop count words ≡ left)

-- The next word was appended.
pub stands-more : (old words new now left others : List (List ℕ)) (word : List ℕ) → Stands old words new left → left ≡ word ∷ others → now ≡ new ++ word ∷ [] → Stands old words now others
stands-more old words new now left others word (count, is, rest) next more =
    let step = take-next words count word others (rest ∙ next) in
    (suc count, more ∙ ap (λ (l : List (List ℕ)). l ++ word ∷ []) is ∙ append_assoc old (take count words) (word ∷ []) ∙ ap (λ (l : List (List ℕ)). old ++ l) (sym step.0), step.1)

-- No word is left.
pub stands-all : (old words new left : List (List ℕ)) → Stands old words new left → left ≡ [] → new ≡ old ++ words
stands-all old words new left (count, is, rest) none = is ∙ ap (λ (l : List (List ℕ)). old ++ l) (take-rest words count (rest ∙ none))

-- The next word couldn't be appended.
pub stands-some : {T E : Type 0} (r : Result T E) (old words new now left : List (List ℕ)) → Stands old words new left → now ≡ new → OnErr r (AppendsSome old words now)
stands-some (Ok x) old words new now left stands same = tt
stands-some (Err e) old words new now left (count, is, rest) same = (count, same ∙ is)
