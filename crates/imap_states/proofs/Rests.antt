-- Patterns at the rests of names.
use Rattle.std.proofs.Common.{◌≡◌, ℕ, zero, suc, ◌+◌, ◌-◌, ◌<◌, ◌≤◌, inl, inr, Bool, true, false, ◌||◌, ◌&&◌, ◌==◌, List, [], ◌∷◌, ◌++◌, length, take, drop, set, replicate, get_or, refl, sym, ap, ◌∙◌, arith, length-drop}
use Rattle.std.proofs.lemmas.Bool.{cases_lt, cases_order, eq-eqb, ne_eqb}
use Rattle.std.proofs.lemmas.List.{drop_more, drop_all, get_or-set_same, get_or-set_other, get_or-replicate, get_or_past, length-replicate}
use Rattle.imap_states.specs.Patterns.{some_rest, same_first, pattern_then, behind_byte, none_left, TellsRests}

-- A pattern is its first byte and the others.
pub pattern-cons : (p : ℕ) (ps : List ℕ) (test : List ℕ → Bool) (name : List ℕ) → pattern_then (p ∷ ps) test name ≡ behind_byte p (pattern_then ps test) name
unfolding pattern_then
pattern-cons p ps test name = refl

-- No pattern, and then what passes the test.
pub pattern-none : (test : List ℕ → Bool) (name : List ℕ) → pattern_then [] test name ≡ test name
unfolding pattern_then
pattern-none test name = refl

-- Joined patterns match one after the other.
pub pattern-joined : (ps qs : List ℕ) (test : List ℕ → Bool) → pattern_then (ps ++ qs) test ≡ pattern_then ps (pattern_then qs test)
unfolding pattern_then
pattern-joined [] qs test = λ i name. pattern_then qs test name
pattern-joined (p ∷ ps) qs test = λ i name. behind_byte p (pattern-joined ps qs test i) name

-- No pattern matches at the end of a name alone.
pub first-rests : (name : List ℕ) → length name ≤ 85 → TellsRests none_left name (set (replicate 86 false) (length name) true)
first-rests name fit i within =
    elim (cases_order i (length name)) [
      | inl same ↦ at_end same
      | inr (inl less) ↦ inside less
      | inr (inr more) ↦ absurd (omega (arith, within, more))
    ]
  where
    left : length (drop i name) + i ≡ length name
    left = omega (arith, length-drop i name, within)

    at_end : i ≡ length name → get_or (set (replicate 86 false) (length name) true) i false ≡ none_left (drop i name)
    at_end same =
        let room : length name < length (replicate 86 false) = omega (arith, length-replicate 86 false, fit) in
        let none : length (drop i name) ≡ 0 = omega (arith, left, same) in
        ap (λ k. get_or (set (replicate 86 false) (length name) true) k false) same ∙ get_or-set_same (replicate 86 false) (length name) true false room
        ∙ sym (eq-eqb (length (drop i name)) 0 none)

    inside : i < length name → get_or (set (replicate 86 false) (length name) true) i false ≡ none_left (drop i name)
    inside less =
        get_or-set_other (replicate 86 false) (length name) i true false (λ (e : i ≡ length name). omega (arith, less, e))
        ∙ get_or-replicate 86 i false false (omega (arith, less, fit))
        ∙ sym (ne_eqb (length (drop i name)) 0 (λ (e : length (drop i name) ≡ 0). omega (arith, left, less, e)))

-- The same of a whole pattern's end.
pub start-rests : (pattern : List ℕ) (test : List ℕ → Bool) (name : List ℕ) (flags : List Bool) → TellsRests test name flags → TellsRests (pattern_then (drop (length pattern) pattern) test) name flags
start-rests pattern test name flags tells i within =
    tells i within ∙ sym (ap (λ p. pattern_then p test (drop i name)) (drop_all (length pattern) pattern (omega arith)) ∙ pattern-none test (drop i name))

-- One more byte of a pattern.
pub byte-before : (pattern : List ℕ) (test : List ℕ → Bool) (name : List ℕ) (k n : ℕ) (flags : List Bool) → k + 1 ≡ n → k < length pattern
    → TellsRests (behind_byte (get_or pattern k 0) (pattern_then (drop n pattern) test)) name flags → TellsRests (pattern_then (drop k pattern) test) name flags
byte-before pattern test name k n flags next within tells i inside =
    let parts : drop k pattern ≡ get_or pattern k 0 ∷ drop n pattern =
    drop_more pattern k 0 within ∙ ap (λ m. get_or pattern k 0 ∷ drop m pattern) next in
    tells i inside ∙ sym (ap (λ p. pattern_then p test (drop i name)) parts ∙ pattern-cons (get_or pattern k 0) (drop n pattern) test (drop i name))

-- The flags of any bytes.
pub any-told : (test : List ℕ → Bool) (name : List ℕ) (ends made : List Bool) → TellsRests test name ends
    → ((i : ℕ) → i < length name → get_or made i false ≡ (get_or ends i false || get_or made (i + 1) false))
    → ((i : ℕ) → length name ≤ i → get_or made i false ≡ get_or ends i false) → TellsRests (some_rest test) name made
any-told test name ends made tells here past i within = from (length name - i) i (omega (arith, within))
  where
    from : (k j : ℕ) → j + k ≡ length name → get_or made j false ≡ some_rest test (drop j name)
    from zero j e =
        let none : drop j name ≡ [] = drop_all j name (omega (arith, e)) in
        past j (omega (arith, e)) ∙ tells j (omega (arith, e)) ∙ ap test none ∙ sym (ap (some_rest test) none)
    from (suc k) j e =
        let less : j < length name = omega (arith, e) in
        let next = drop_more name j 0 less in
        here j less ∙ ap (λ t. t || get_or made (j + 1) false) (tells j (omega (arith, e)) ∙ ap test next)
        ∙ ap (λ t. test (get_or name j 0 ∷ drop (j + 1) name) || t) (from k (j + 1) (omega (arith, e))) ∙ sym (ap (some_rest test) next)

-- One more flag of one byte.
pub one-more : (name : List ℕ) (ends made : List Bool) (p k : ℕ) (flag : Bool) → k < length made → flag ≡ ((p == get_or name k 0) && get_or ends (k + 1) false)
    → ((i : ℕ) → i < k → get_or made i false ≡ ((p == get_or name i 0) && get_or ends (i + 1) false))
    → (i : ℕ) → i < k + 1 → get_or (set made k flag) i false ≡ ((p == get_or name i 0) && get_or ends (i + 1) false)
one-more name ends made p k flag room e before i within =
    elim (cases_order i k) [
      | inl same ↦ here same
      | inr (inl less) ↦ get_or-set_other made k i flag false (λ (e : i ≡ k). omega (arith, less, e)) ∙ before i less
      | inr (inr more) ↦ absurd (omega (arith, more, within))
    ]
  where
    here : i ≡ k → get_or (set made k flag) i false ≡ ((p == get_or name i 0) && get_or ends (i + 1) false)
    here same =
        ap (λ j. get_or (set made k flag) j false) same ∙ get_or-set_same made k flag false room ∙ e
        ∙ sym (ap (λ j. (p == get_or name j 0) && get_or ends (j + 1) false) same)

-- The flags past it stay.
pub one-past : (made : List Bool) (k : ℕ) (flag : Bool) → ((i : ℕ) → k ≤ i → get_or made i false ≡ false)
    → (i : ℕ) → k + 1 ≤ i → get_or (set made k flag) i false ≡ false
one-past made k flag past i above = get_or-set_other made k i flag false (λ (e : i ≡ k). omega (arith, above, e)) ∙ past i (omega (arith, above))

-- No flag is set at first.
pub none-set : (n i : ℕ) → get_or (replicate n false) i false ≡ false
none-set n i =
    elim (cases_lt i n) [
      | inl less ↦ get_or-replicate n i false false less
      | inr more ↦ get_or_past (replicate n false) i false (omega (arith, more, length-replicate n false))
    ]

-- Both tests pass, or the first doesn't.
pub both : (a b f flag : Bool) → f ≡ a → f ≡ true → flag ≡ b → flag ≡ (a && b)
both a b f flag is yes_f same = same ∙ ap (λ t. t && b) (sym yes_f ∙ is)

pub neither : (a b f flag : Bool) → f ≡ a → f ≡ false → flag ≡ false → flag ≡ (a && b)
neither a b f flag is no_f same = same ∙ ap (λ t. t && b) (sym no_f ∙ is)
