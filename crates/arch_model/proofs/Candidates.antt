-- Among one made id more than there are messages one is free, and trying them in order finds it.
use Rattle.std.proofs.Common.{◌⊎◌, inl, inr, ◌≡◌, ◌+◌, ◌-◌, ◌^◌, ◌≤◌, ◌<◌, ℕ, zero, suc, Bool, true, false, ◌||◌, List, [], ◌∷◌, length, Option, Some, None, is_some, refl, sym, ◌∙◌, ap, subst, arith, if◌then◌else◌}
use Rattle.std.specs.Str.{bytes_eq}
use Rattle.std.proofs.lemmas.Slice.Eq.{bytes_eq-Decides}
use Rattle.mail_reader.specs.Ids.{own_id}
use Rattle.mail_reader.specs.Content.{content_id_of}
use Rattle.arch_model.specs.Archives.{Entry, Archive, owner, is_id, live}
use Rattle.arch_model.specs.Candidates.{met, made_id, with_made, made_choice, decided}
use Rattle.arch_model.specs.declared.choice.Meeting.{Meeting}
use Rattle.arch_model.specs.declared.choice.Meeting.TheVariants.{Free, Same, Other}
use Rattle.arch_model.specs.declared.choice.Choice.{Choice}
use Rattle.arch_model.specs.declared.choice.Choice.TheVariants.{Take, Repeat}
use Rattle.arch_model.proofs.MadeIds.{made-once}

abbrev one_if : Bool → ℕ
one_if true = 1
one_if false = 0

-- The count of numbers below a bound that pass.
abbrev count : (ℕ → Bool) → ℕ → ℕ
count p zero = 0
count p (suc m) = one_if (p m) + count p m

count-none : (p : ℕ → Bool) (m : ℕ) → ((j : ℕ) → j < m → p j ≡ false) → count p m ≡ 0
count-none p zero h = refl
count-none p (suc m) h = let rest = count-none p m (λ j l. h j (omega arith)) in let here : one_if (p m) ≡ 0 = ap one_if (h m (omega arith)) in omega (arith, here, rest)

count-all : (p : ℕ → Bool) (m : ℕ) → ((j : ℕ) → j < m → p j ≡ true) → count p m ≡ m
count-all p zero h = refl
count-all p (suc m) h = let rest = count-all p m (λ j l. h j (omega arith)) in let here : one_if (p m) ≡ 1 = ap one_if (h m (omega arith)) in omega (arith, here, rest)

not_true : (t : Bool) → (t ≡ true → ⊥) → t ≡ false
not_true true h = absurd (h refl)
not_true false h = refl

one_step : (t : Bool) (n : ℕ) → (t ≡ true → n ≡ 0) → (t ≡ false → n ≤ 1) → one_if t + n ≤ 1
one_step true n none rest = omega (arith, none refl)
one_step false n none rest = omega (arith, rest refl)

count-one : (p : ℕ → Bool) (m : ℕ) → ((j k : ℕ) → j < m → k < m → p j ≡ true → p k ≡ true → j ≡ k) → count p m ≤ 1
count-one p zero h = omega arith
count-one p (suc m) h =
    one_step (p m) (count p m)
    (λ here. count-none p m (λ j l. not_true (p j) (λ there. let same : j ≡ m = h j m (omega arith) (omega arith) there here in omega (arith, same, l))))
    (λ _. count-one p m (λ j k a b. h j k (omega arith) (omega arith)))

or_step : (r p q : Bool) (a b c : ℕ) → r ≡ (p || q) → a ≤ b + c → one_if r + a ≤ (one_if p + b) + (one_if q + c)
or_step true true q a b c is h = omega (arith, h)
or_step true false true a b c is h = omega (arith, h)
or_step true false false a b c is h = absurd (cc)
or_step false p q a b c is h = omega (arith, h)

count-or : (r p q : ℕ → Bool) (m : ℕ) → ((j : ℕ) → r j ≡ (p j || q j)) → count r m ≤ count p m + count q m
count-or r p q zero h = omega arith
count-or r p q (suc m) h = or_step (r m) (p m) (q m) (count r m) (count p m) (count q m) (h m) (count-or r p q m h)

same_own : (own : Option (List ℕ)) (a b : List ℕ) → is_id a own ≡ true → is_id b own ≡ true → a ≡ b
same_own None a b h k = absurd (cc)
same_own (Some id) a b h k = (bytes_eq-Decides a id).0 h ∙ sym ((bytes_eq-Decides b id).0 k)

some_or : (t : Bool) (e : Entry) (found : Option Entry) → is_some (if t then Some e else found) ≡ (t || is_some found)
some_or true e found = refl
some_or false e found = refl

-- Of different ids, no more are owned than there are entries.
owned-count : (es : List Entry) (ids : ℕ → List ℕ) (m : ℕ) → ((j k : ℕ) → j < m → k < m → ids j ≡ ids k → j ≡ k) → count (λ k. is_some (owner es (ids k))) m ≤ length es
owned-count [] ids m apart = omega (arith, count-none (λ k. false) m (λ j l. refl))
owned-count (e ∷ es) ids m apart =
    let both = count-or (λ k. is_some (owner (e ∷ es) (ids k))) (λ k. is_id (ids k) (own_id e.text)) (λ k. is_some (owner es (ids k))) m (λ j. some_or (is_id (ids j) (own_id e.text)) e (owner es (ids j))) in
    let one = count-one (λ k. is_id (ids k) (own_id e.text)) m (λ j k a b h g. apart j k a b (same_own (own_id e.text) (ids j) (ids k) h g)) in
    omega (arith, both, one, owned-count es ids m apart)

none_of : (o : Option Entry) → (is_some o ≡ true → ⊥) → o ≡ None
none_of None h = refl
none_of (Some e) h = absurd (h refl)

-- A number is below another one, or equal to it.
order_of : (j n : ℕ) → j ≤ n → (j < n) ⊎ (j ≡ n)
order_of zero zero h = inr refl
order_of zero (suc n) h = inl (omega arith)
order_of (suc j) zero h = absurd (omega arith)
order_of (suc j) (suc n) h = elim (order_of j n (omega arith)) [ inl less ↦ inl (omega arith) | inr same ↦ inr (ap suc same) ]

pub below_or_at : (j n : ℕ) (P : ℕ → Type 0) → ((i : ℕ) → i < n → P i) → P n → j < suc n → P j
below_or_at j n P low here l = elim (order_of j n (omega arith)) [ inl less ↦ low j less | inr same ↦ subst P (sym same) here ]

-- If as many different ids as there are entries are owned, one more is free.
pub free-last : (es : List Entry) (ids : ℕ → List ℕ) → ((j k : ℕ) → j < suc (length es) → k < suc (length es) → ids j ≡ ids k → j ≡ k) → ((j : ℕ) → j < length es → is_some (owner es (ids j)) ≡ true) → owner es (ids (length es)) ≡ None
free-last es ids apart owned = none_of (owner es (ids (length es))) (λ here.
    let all = count-all (λ k. is_some (owner es (ids k))) (suc (length es)) (λ j l. below_or_at j (length es) (λ i. is_some (owner es (ids i)) ≡ true) owned here l) in
    omega (arith, all, owned-count es ids (suc (length es)) apart))

met_step : (t : Bool) (n : ℕ) → (if t then Same n else Other) ≡ Free → ⊥
met_step true n h = absurd (cc)
met_step false n h = absurd (cc)

pub met-free : (o : Option Entry) (content : List ℕ) → met o content ≡ Free → o ≡ None
met-free None content h = refl
met-free (Some e) content h = absurd (met_step (bytes_eq (content_id_of e.text) content) e.number h)

pub met-other : (o : Option Entry) (content : List ℕ) → met o content ≡ Other → is_some o ≡ true
met-other None content h = absurd (cc)
met-other (Some e) content h = refl

module _ (a : Archive) (text : List ℕ) where
  -- How the made id of a count meets the messages.
  abbrev pub meets : ℕ → Meeting
  meets i = met (owner (live a.entries) (made_id a.config.name text i)) (content_id_of text)

  abbrev pub all_made : Choice
  all_made = made_choice (live a.entries) a.config.name text 0 (length (live a.entries))

  -- The made ids before this count are skipped.
  abbrev pub Passed : ℕ → Type 0
  Passed i = ((j : ℕ) → j < i → meets j ≡ Other) × (all_made ≡ made_choice (live a.entries) a.config.name text i (length (live a.entries) - i))

  pub passed-none : Passed 0
  passed-none =
      let all : length (live a.entries) ≡ length (live a.entries) - 0 = omega arith in
      (λ j l. absurd (omega arith), ap (λ (n : ℕ). made_choice (live a.entries) a.config.name text 0 n) all)

  one_tried : (i : ℕ) → i < length (live a.entries) → made_choice (live a.entries) a.config.name text i (length (live a.entries) - i) ≡ decided (meets i) (with_made a.config.name text i) (made_choice (live a.entries) a.config.name text (i + 1) (length (live a.entries) - (i + 1)))
  one_tried i l =
      let more : length (live a.entries) - i ≡ suc (length (live a.entries) - (i + 1)) = omega arith in
      ap (λ (n : ℕ). made_choice (live a.entries) a.config.name text i n) more

  -- Among n messages the made id of the count n is free, if all before it are skipped.
  free-at : (i : ℕ) → i ≡ length (live a.entries) → i < 2 ^ 64 → ((j : ℕ) → j < i → meets j ≡ Other) → meets i ≡ Free
  free-at i at small others =
      let none : owner (live a.entries) (made_id a.config.name text (length (live a.entries))) ≡ None =
      free-last (live a.entries) (made_id a.config.name text) (λ j k b d e. made-once a.config.name text j k (omega (arith, b, at, small)) (omega (arith, d, at, small)) e)
      (λ j l. met-other (owner (live a.entries) (made_id a.config.name text j)) (content_id_of text) (others j (omega (arith, l, at)))) in
      ap meets at ∙ ap (λ (o : Option Entry). met o (content_id_of text)) none

  last-free : (i : ℕ) → i ≡ length (live a.entries) → i < 2 ^ 64 → Passed i → meets i ≡ Free
  last-free i at small passed = free-at i at small passed.0

  -- So n + 1 of them are never all skipped.
  pub not-all-passed : (i : ℕ) → length (live a.entries) < i → length (live a.entries) < 2 ^ 64 → Passed i → ⊥
  not-all-passed i over small passed =
      let free : meets (length (live a.entries)) ≡ Free = free-at (length (live a.entries)) refl small (λ j l. passed.0 j (omega (arith, l, over))) in
      let wrong : Free ≡ Other = sym free ∙ passed.0 (length (live a.entries)) over in
      cc

  decides : (i : ℕ) (m : Meeting) → i < length (live a.entries) → Passed i → meets i ≡ m → all_made ≡ decided m (with_made a.config.name text i) (made_choice (live a.entries) a.config.name text (i + 1) (length (live a.entries) - (i + 1)))
  decides i m l passed is = passed.1 ∙ one_tried i l ∙ ap (λ (m : Meeting). decided m (with_made a.config.name text i) (made_choice (live a.entries) a.config.name text (i + 1) (length (live a.entries) - (i + 1)))) is

  -- A made id that is skipped isn't the last one.
  pub passed-more : (i : ℕ) → i ≤ length (live a.entries) → i < 2 ^ 64 → Passed i → meets i ≡ Other → Passed (i + 1)
  passed-more i within small passed other = elim (order_of i (length (live a.entries)) within) [
    | inl l ↦ (λ j lt. below_or_at j i (λ k. meets k ≡ Other) passed.0 other (omega (arith, lt)), decides i Other l passed other)
    | inr at ↦ absurd (let wrong : Free ≡ Other = sym (last-free i at small passed) ∙ other in cc)
  ]

  -- A made id of the same message repeats it.
  pub passed-same : (i n : ℕ) → i ≤ length (live a.entries) → i < 2 ^ 64 → Passed i → meets i ≡ Same n → Repeat n ≡ all_made
  passed-same i n within small passed same = elim (order_of i (length (live a.entries)) within) [
    | inl l ↦ sym (decides i (Same n) l passed same)
    | inr at ↦ absurd (let wrong : Free ≡ Same n = sym (last-free i at small passed) ∙ same in cc)
  ]

  -- The first free made id is taken.
  pub passed-free : (i : ℕ) → i ≤ length (live a.entries) → Passed i → meets i ≡ Free → Take (with_made a.config.name text i) ≡ all_made
  passed-free i within passed free = elim (order_of i (length (live a.entries)) within) [
    | inl l ↦ sym (decides i Free l passed free)
    | inr at ↦ (let none : length (live a.entries) - i ≡ 0 = omega (arith, at) in sym (passed.1 ∙ ap (λ (n : ℕ). made_choice (live a.entries) a.config.name text i n) none))
  ]
