-- The live numbers of a range, one after another.
use Rattle.std.proofs.Common.{◌≡◌, ◌+◌, ◌-◌, ◌<◌, ◌≤◌, ℕ, zero, suc, Bool, true, false, List, [], ◌∷◌, ◌++◌, length, Option, Some, None, is_some, refl, sym, ap, subst, ◌∙◌, arith}
use Rattle.std.specs.List.{filter, flat_map}
use Rattle.arch_model.specs.Archives.{Entry, text_of}
use Rattle.arch_model.specs.Shelves.{IsGreatestLive, ReadsOnce, ReadsUpTo, ReadsAhead}
use Rattle.arch_model.specs.Standing.{IsLeastLive}
use Rattle.shelf_doors.specs.Numbers.{numbers_from, is_live, live_in, first_of, last_of, greatest_below}

-- The live ones of so many numbers.
abbrev live_from : List Entry → ℕ → ℕ → List ℕ
live_from entries first count = filter (is_live entries) (numbers_from first count)

-- A number that isn't live is left out.
skip : (entries : List Entry) (first count : ℕ) → is_live entries first ≡ false → live_from entries first (suc count) ≡ live_from entries (first + 1) count
skip entries first count dead = rw dead refl

take_one : (entries : List Entry) (first count : ℕ) → is_live entries first ≡ true → live_from entries first (suc count) ≡ first ∷ live_from entries (first + 1) count
take_one entries first count alive = rw alive refl

dead : (entries : List Entry) (n : ℕ) → text_of entries n ≡ None → is_live entries n ≡ false
dead entries n none = ap is_some none

-- Where no number of some is live, none is listed.
live-none : (entries : List Entry) (first count : ℕ) → ((m : ℕ) → first ≤ m → m < first + count → text_of entries m ≡ None) → live_from entries first count ≡ []
live-none entries first zero none = refl
live-none entries first (suc count) none =
    skip entries first count (dead entries first (none first (omega arith) (omega arith)))
    ∙ live-none entries (first + 1) count (λ m low high. none m (omega (arith, low)) (omega (arith, high)))

-- The first live number of some is listed first, and then those after it.
live-first : (entries : List Entry) (first count before after : ℕ) → count ≡ before + suc after → ((m : ℕ) → first ≤ m → m < first + before → text_of entries m ≡ None) → is_some (text_of entries (first + before)) ≡ true
    → live_from entries first count ≡ (first + before) ∷ live_from entries (first + before + 1) after
live-first entries first count zero after is none alive =
    let here : first ≡ first + 0 = omega arith in
    ap (live_from entries first) (is ∙ zero-add after) ∙ subst (λ (n : ℕ). live_from entries first (suc after) ≡ n ∷ live_from entries (n + 1) after) here (take_one entries first after (subst (λ (n : ℕ). is_some (text_of entries n) ≡ true) (sym here) alive))
  where
    zero-add : (n : ℕ) → 0 + suc n ≡ suc n
    zero-add n = omega arith
live-first entries first count (suc before) after is none alive =
    let here : first + 1 + before ≡ first + suc before = omega arith in
    let size : count ≡ suc (before + suc after) = omega (arith, is) in
    ap (live_from entries first) size
    ∙ skip entries first (before + suc after) (dead entries first (none first (omega arith) (omega arith)))
    ∙ subst (λ (n : ℕ). live_from entries (first + 1) (before + suc after) ≡ n ∷ live_from entries (n + 1) after) here
    (live-first entries (first + 1) (before + suc after) before after refl (λ m low high. none m (omega (arith, low)) (omega (arith, high))) (subst (λ (n : ℕ). is_some (text_of entries n) ≡ true) (sym here) alive))

-- No number of the range is live.
pub range-none : (entries : List Entry) (first last : ℕ) → ((m : ℕ) → first ≤ m → m ≤ last → text_of entries m ≡ None) → live_in entries first last ≡ []
unfolding live_in
range-none entries first last none = live-none entries first (last + 1 - first) (λ m low high. none m low (omega (arith, low, high)))

-- The least live number of the range, and then the others.
pub range-first : (entries : List Entry) (first last n : ℕ) → first ≤ n → n ≤ last → ((m : ℕ) → first ≤ m → m < n → text_of entries m ≡ None) → is_some (text_of entries n) ≡ true → live_in entries first last ≡ n ∷ live_in entries (n + 1) last
unfolding live_in
range-first entries first last n low high none alive =
    let at : first + (n - first) ≡ n = omega (arith, low) in
    let rest : last + 1 - (n + 1) ≡ last - n = omega (arith, high) in
    subst (λ (x : ℕ). live_from entries first (last + 1 - first) ≡ x ∷ live_from entries (x + 1) (last - n)) at
    (live-first entries first (last + 1 - first) (n - first) (last - n) (omega (arith, low, high)) (λ m l h. none m l (omega (arith, h, low))) (subst (λ (x : ℕ). is_some (text_of entries x) ≡ true) (sym at) alive))
    ∙ ap (λ (c : ℕ). n ∷ live_from entries (n + 1) c) (sym rest)

-- What a shelf finds from `first` on, within the range.
pub least-within : (entries : List Entry) (first last n : ℕ) → IsLeastLive entries first (Some n) → n ≤ last → first_of (live_in entries first last) ≡ Some n
least-within entries first last n least high = ap first_of (range-first entries first last n least.0 high least.2 least.1)

pub least-beyond : (entries : List Entry) (first last n : ℕ) → IsLeastLive entries first (Some n) → last < n → first_of (live_in entries first last) ≡ None
least-beyond entries first last n least high = ap first_of (range-none entries first last (λ m low within. least.2 m low (omega (arith, within, high))))

pub least-none : (entries : List Entry) (first last : ℕ) → IsLeastLive entries first None → first_of (live_in entries first last) ≡ None
least-none entries first last none = ap first_of (range-none entries first last (λ m low within. none m low))

-- A range whose last number is before its first has none.
pub empty-range : (entries : List Entry) (first last : ℕ) → last < first → live_in entries first last ≡ []
empty-range entries first last less = range-none entries first last (λ m low high. absurd (omega (arith, less, low, high)))

-- A list that starts with a number, by its first one.
pub first-some : (ns : List ℕ) (n : ℕ) → first_of ns ≡ Some n → (rest : List ℕ) × (ns ≡ n ∷ rest)
first-some [] n e = absurd (cc)
first-some (m ∷ ms) n e = let same : m ≡ n = cc in (ms, ap (λ (x : ℕ). x ∷ ms) same)

pub first-none : (ns : List ℕ) → first_of ns ≡ None → ns ≡ []
first-none [] e = refl
first-none (m ∷ ms) e = absurd (cc)

-- The first live number of the range is live, and the others are those after it.
live-rest : (entries : List Entry) (first count n : ℕ) → first_of (live_from entries first count) ≡ Some n → (after : ℕ) × (first ≤ n) × (n + 1 + after ≡ first + count) × (live_from entries first count ≡ n ∷ live_from entries (n + 1) after)
live-rest entries first zero n e = absurd (cc)
live-rest entries first (suc count) n e = by (is_live entries first) refl (λ f. live-rest entries (first + 1) count n f)
  where
    by : (t : Bool) → is_live entries first ≡ t → (first_of (live_from entries (first + 1) count) ≡ Some n → (after : ℕ) × (first + 1 ≤ n) × (n + 1 + after ≡ first + 1 + count) × (live_from entries (first + 1) count ≡ n ∷ live_from entries (n + 1) after))
        → (after : ℕ) × (first ≤ n) × (n + 1 + after ≡ first + suc count) × (live_from entries first (suc count) ≡ n ∷ live_from entries (n + 1) after)
    by true alive more =
        let same : first ≡ n = let f = sym (ap first_of (take_one entries first count alive)) ∙ e in cc in
        (count, omega (arith, same), omega (arith, same), take_one entries first count alive ∙ ap (λ (x : ℕ). x ∷ live_from entries (x + 1) count) same)
    by false gone more =
        let rest = more (sym (ap first_of (skip entries first count gone)) ∙ e) in
        (rest.0, omega (arith, rest.1), omega (arith, rest.2), skip entries first count gone ∙ rest.3)

pub range-rest : (entries : List Entry) (first last n : ℕ) → first_of (live_in entries first last) ≡ Some n → live_in entries first last ≡ n ∷ live_in entries (n + 1) last
unfolding live_in
range-rest entries first last n e =
    let rest = live-rest entries first (last + 1 - first) n e in
    let count : rest.0 ≡ last + 1 - (n + 1) = omega (arith, rest.1, rest.2) in
    rest.3 ∙ ap (λ (c : ℕ). n ∷ live_from entries (n + 1) c) count

-- What is made of each live number of a range, one after another.
pub lines-rest : (line : ℕ → List ℕ) (entries : List Entry) (first last n : ℕ) → first_of (live_in entries first last) ≡ Some n → flat_map line (live_in entries first last) ≡ line n ++ flat_map line (live_in entries (n + 1) last)
lines-rest line entries first last n e = ap (flat_map line) (range-rest entries first last n e)

pub lines-none : (line : ℕ → List ℕ) (entries : List Entry) (first last : ℕ) → first_of (live_in entries first last) ≡ None → flat_map line (live_in entries first last) ≡ []
lines-none line entries first last e = ap (flat_map line) (first-none (live_in entries first last) e)

-- One text is read for each live number of a range.
pub ahead-number : (entries : List Entry) (most at last n before mid now : ℕ) → first_of (live_in entries at last) ≡ Some n → ReadsAhead most (length (live_in entries at last)) before mid → ReadsOnce mid now → ReadsAhead most (length (live_in entries (n + 1) last)) before now
ahead-number entries most at last n before mid now next reads once =
    let more = ap length (range-rest entries at last n next) in
    record { later = omega (arith, reads.later, once.later); bound = omega (arith, more, reads.bound, once.most) }

pub last-number : (entries : List Entry) (most at last n before mid now : ℕ) → first_of (live_in entries at last) ≡ Some n → ReadsAhead most (length (live_in entries at last)) before mid → ReadsOnce mid now → ReadsUpTo most before now
last-number entries most at last n before mid now next reads once =
    let ahead = ahead-number entries most at last n before mid now next reads once in
    record { later = ahead.later; bound = omega (arith, ahead.bound) }

-- The greatest number of some that is live is listed last.
live-last : (entries : List Entry) (first before after : ℕ) → is_some (text_of entries (first + before)) ≡ true → ((m : ℕ) → first + before < m → m < first + before + suc after → text_of entries m ≡ None)
    → (front : List ℕ) × (live_from entries first (before + suc after) ≡ front ++ (first + before) ∷ [])
live-last entries first zero after alive none =
    let here : first ≡ first + 0 = omega arith in
    let size : 0 + suc after ≡ suc after = omega arith in (
      [],
      ap (live_from entries first) size
          ∙ take_one entries first after (subst (λ (n : ℕ). is_some (text_of entries n) ≡ true) (sym here) alive)
          ∙ ap (λ (ns : List ℕ). first ∷ ns) (live-none entries (first + 1) after (λ m low high. none m (omega (arith, low)) (omega (arith, high))))
          ∙ ap (λ (n : ℕ). n ∷ []) here,
    )
live-last entries first (suc before) after alive none =
    let here : first + 1 + before ≡ first + suc before = omega arith in
    let size : suc before + suc after ≡ suc (before + suc after) = omega arith in
    let rest = live-last entries (first + 1) before after (subst (λ (n : ℕ). is_some (text_of entries n) ≡ true) (sym here) alive) (λ m low high. none m (omega (arith, low)) (omega (arith, high))) in
    let last : live_from entries (first + 1) (before + suc after) ≡ rest.0 ++ (first + suc before) ∷ [] = rest.1 ∙ ap (λ (n : ℕ). rest.0 ++ n ∷ []) here in
    by (is_live entries first) refl rest.0 (before + suc after) last size
  where
    by : (t : Bool) → is_live entries first ≡ t → (front : List ℕ) (count : ℕ) → live_from entries (first + 1) count ≡ front ++ (first + suc before) ∷ [] → suc before + suc after ≡ suc count
        → (more : List ℕ) × (live_from entries first (suc before + suc after) ≡ more ++ (first + suc before) ∷ [])
    by true here front count is size = (first ∷ front, ap (live_from entries first) size ∙ take_one entries first count here ∙ ap (λ (ns : List ℕ). first ∷ ns) is)
    by false gone front count is size = (front, ap (live_from entries first) size ∙ skip entries first count gone ∙ is)

last-of-append : (front : List ℕ) (n : ℕ) → last_of (front ++ n ∷ []) ≡ Some n
last-of-append [] n = refl
last-of-append (a ∷ []) n = refl
last-of-append (a ∷ b ∷ front) n = last-of-append (b ∷ front) n

-- What a shelf finds up to a number.
pub greatest-found : (entries : List Entry) (n m : ℕ) → IsGreatestLive entries n (Some m) → greatest_below entries (suc n) ≡ Some m
unfolding live_in
greatest-found entries n m greatest =
    let size : n + 1 - 0 ≡ m + suc (n - m) = omega (arith, greatest.0) in
    let here : 0 + m ≡ m = omega arith in
    let rest = live-last entries 0 m (n - m) (subst (λ (k : ℕ). is_some (text_of entries k) ≡ true) (sym here) greatest.1) (λ k low high. greatest.2 k (omega (arith, low)) (omega (arith, high, greatest.0))) in
    ap last_of (ap (live_from entries 0) size ∙ rest.1 ∙ ap (λ (k : ℕ). rest.0 ++ k ∷ []) here) ∙ last-of-append rest.0 m

pub greatest-none : (entries : List Entry) (n : ℕ) → IsGreatestLive entries n None → greatest_below entries (suc n) ≡ None
unfolding live_in
greatest-none entries n none = ap last_of (live-none entries 0 (n + 1 - 0) (λ m low high. none m (omega (arith, high))))

-- What a shelf finds up to the number before `n`.
pub greatest-of : (entries : List Entry) (n : ℕ) (found : Option ℕ) → 0 < n → IsGreatestLive entries (n - 1) found → found ≡ greatest_below entries n
greatest-of entries zero found more greatest = absurd (omega arith)
greatest-of entries (suc n) None more none =
    let here : suc n - 1 ≡ n = omega arith in
    sym (greatest-none entries n (subst (λ (k : ℕ). IsGreatestLive entries k None) here none))
greatest-of entries (suc n) (Some m) more greatest =
    let here : suc n - 1 ≡ n = omega arith in
    sym (greatest-found entries n m (subst (λ (k : ℕ). IsGreatestLive entries k (Some m)) here greatest))

-- How many numbers are left up to the last, from the next one on.
abbrev pub numbers_left : ℕ → Option ℕ → ℕ
numbers_left last None = 0
numbers_left last (Some n) = last + 1 - n
