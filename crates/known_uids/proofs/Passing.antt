-- The numbers of a range that pass a test.
use Rattle.std.proofs.Common.{◌⊎◌, inl, inr, ◌≡◌, ◌≢◌, ◌+◌, ◌-◌, ◌<◌, ◌≤◌, ◌==◌, ℕ, zero, suc, Bool, true, false, not, ◌||◌, List, [], ◌∷◌, ◌++◌, refl, sym, ap, subst, ◌∙◌, arith, if◌then◌else◌}
use Rattle.std.specs.List.{filter, range_with_len}
use Rattle.std.proofs.lemmas.Bool.{cases_Bool}
use Rattle.std.proofs.lemmas.Bool.Decides.{eqb_tells}
use Rattle.std.proofs.lemmas.List.Elements.{filter-append}
use Rattle.known_uids.specs.Told.{passing, RisesBelow, after_last, has, NoneBack, new_of}
use Rattle.known_uids.proofs.Rising.{apart, same, rising-le, rising-low, rising-after, after-le, has-below, has-above}

-- The first number of a list that is filtered passes or not.
pub filter-yes : (test : ℕ → Bool) (n : ℕ) (ns : List ℕ) → test n ≡ true → filter test (n ∷ ns) ≡ n ∷ filter test ns
filter-yes test n ns hit = ap (λ t. if t then n ∷ filter test ns else filter test ns) hit

pub filter-no : (test : ℕ → Bool) (n : ℕ) (ns : List ℕ) → test n ≡ false → filter test (n ∷ ns) ≡ filter test ns
filter-no test n ns miss = ap (λ t. if t then n ∷ filter test ns else filter test ns) miss

-- A test of which the first number is false, since a list that has each that passes lacks it.
lacks : (t h : Bool) → (t ≡ true → h ≡ true) → h ≡ false → t ≡ false
lacks false h has none = refl
lacks true h has none = absurd (let found : h ≡ true = has refl in let wrong : true ≡ false = sym found ∙ none in cc)

-- Of numbers that rise in a range and of which each that passes there is one, those pass that pass in
-- the range.
pub kept-is : (test : ℕ → Bool) (ns : List ℕ) (first count bound : ℕ) → bound ≡ first + count → RisesBelow first ns bound → ((n : ℕ) → first ≤ n → n < bound → test n ≡ true → has ns n ≡ true) → filter test ns ≡ filter test (range_with_len first count)
kept-is test [] first zero bound is rises all = refl
kept-is test (n ∷ ns) first zero bound is rises all = let more : n + 1 ≤ bound = rising-le (n + 1) ns bound rises.1 in absurd (omega (arith, is, rises.0, more))
kept-is test [] first (suc count) bound is rises all =
    let none : test first ≡ false = lacks (test first) false (all first (omega arith) (omega (arith, is))) refl in
    let rest = kept-is test [] (first + 1) count bound (omega (arith, is)) (omega (arith, is)) (λ n low high passes. all n (omega (arith, low)) high passes) in
    rest ∙ sym (filter-no test first (range_with_len (first + 1) count) none)
kept-is test (n ∷ ns) first (suc count) bound is rises all =
    by (eqb_tells n first) (λ up each. kept-is test ns (first + 1) count bound (omega (arith, is)) up each) (λ up each. kept-is test (n ∷ ns) (first + 1) count bound (omega (arith, is)) up each)
  where
    later : List ℕ
    later = filter test (range_with_len (first + 1) count)

    by : (((n == first) ≡ true) × (n ≡ first)) ⊎ (((n == first) ≡ false) × (n ≢ first))
        → (RisesBelow (first + 1) ns bound → ((k : ℕ) → first + 1 ≤ k → k < bound → test k ≡ true → has ns k ≡ true) → filter test ns ≡ later)
        → (RisesBelow (first + 1) (n ∷ ns) bound → ((k : ℕ) → first + 1 ≤ k → k < bound → test k ≡ true → has (n ∷ ns) k ≡ true) → filter test (n ∷ ns) ≡ later)
        → filter test (n ∷ ns) ≡ filter test (range_with_len first (suc count))
    by (inl here) rest whole =
        let up : RisesBelow (first + 1) ns bound = subst (λ (k : ℕ). RisesBelow (k + 1) ns bound) here.1 rises.1 in
        let tail = rest up (λ k low high passes. let other : (n == k) ≡ false = apart n k (λ e. omega (arith, e, here.1, low)) in sym (ap (λ t. t || has ns k) other) ∙ all k (omega (arith, low)) high passes) in
        ap (λ k. if test k then k ∷ filter test ns else filter test ns) here.1 ∙ ap (λ ks. if test first then first ∷ ks else ks) tail
    by (inr there) rest whole =
        let above : first + 1 ≤ n = omega (arith, rises.0, there.1) in
        let none : test first ≡ false = lacks (test first) (has (n ∷ ns) first) (all first (omega arith) (omega (arith, is))) (has-below (first + 1) (n ∷ ns) bound first (above, rises.1) (omega arith)) in
        whole (above, rises.1) (λ k low high passes. all k (omega (arith, low)) high passes) ∙ sym (filter-no test first (range_with_len (first + 1) count) none)

-- The numbers that pass rise in their range.
pub passing-rises : (test : ℕ → Bool) (first count bound : ℕ) → bound ≡ first + count → RisesBelow first (filter test (range_with_len first count)) bound
passing-rises test first zero bound is = omega (arith, is)
passing-rises test first (suc count) bound is = by (cases_Bool (test first)) (passing-rises test (first + 1) count bound (omega (arith, is)))
  where
    later : List ℕ
    later = filter test (range_with_len (first + 1) count)

    by : (test first ≡ true) ⊎ (test first ≡ false) → RisesBelow (first + 1) later bound → RisesBelow first (filter test (range_with_len first (suc count))) bound
    by (inl hit) rest = subst (λ ns. RisesBelow first ns bound) (sym (filter-yes test first (range_with_len (first + 1) count) hit)) (omega arith, rest)
    by (inr miss) rest = subst (λ ns. RisesBelow first ns bound) (sym (filter-no test first (range_with_len (first + 1) count) miss)) (rising-low first (first + 1) later bound (omega arith) rest)

-- A number of the range is one of those that pass just if it passes.
pub has-passing : (test : ℕ → Bool) (first count n : ℕ) → first ≤ n → n < first + count → has (filter test (range_with_len first count)) n ≡ test n
has-passing test first zero n low high = absurd (omega (arith, low, high))
has-passing test first (suc count) n low high = by (cases_Bool (test first)) (eqb_tells first n) (λ above. has-passing test (first + 1) count n above (omega (arith, high)))
  where
    later : List ℕ
    later = filter test (range_with_len (first + 1) count)

    rises : RisesBelow (first + 1) later (first + 1 + count)
    rises = passing-rises test (first + 1) count (first + 1 + count) refl

    by : (test first ≡ true) ⊎ (test first ≡ false) → (((first == n) ≡ true) × (first ≡ n)) ⊎ (((first == n) ≡ false) × (first ≢ n)) → (first + 1 ≤ n → has later n ≡ test n) → has (filter test (range_with_len first (suc count))) n ≡ test n
    by (inl hit) (inl here) rest = ap (λ ns. has ns n) (filter-yes test first (range_with_len (first + 1) count) hit) ∙ ap (λ t. t || has later n) here.0 ∙ sym hit ∙ ap test here.1
    by (inl hit) (inr there) rest =
        ap (λ ns. has ns n) (filter-yes test first (range_with_len (first + 1) count) hit) ∙ ap (λ t. t || has later n) there.0 ∙ rest (omega (arith, low, there.1))
    by (inr miss) (inl here) rest =
        ap (λ ns. has ns n) (filter-no test first (range_with_len (first + 1) count) miss)
        ∙ has-below (first + 1) later (first + 1 + count) n rises (omega (arith, here.1)) ∙ sym miss ∙ ap test here.1
    by (inr miss) (inr there) rest = ap (λ ns. has ns n) (filter-no test first (range_with_len (first + 1) count) miss) ∙ rest (omega (arith, low, there.1))

-- A range in two.
pub range-append : (first m n : ℕ) → range_with_len first (m + n) ≡ range_with_len first m ++ range_with_len (first + m) n
range-append first zero n =
    let size : 0 + n ≡ n = omega arith in
    let here : first ≡ first + 0 = omega arith in
    ap (range_with_len first) size ∙ ap (λ k. range_with_len k n) here
range-append first (suc m) n =
    let size : suc m + n ≡ suc (m + n) = omega arith in
    let here : first + 1 + m ≡ first + suc m = omega arith in
    ap (range_with_len first) size ∙ ap (λ ns. first ∷ ns) (range-append (first + 1) m n ∙ ap (λ k. range_with_len (first + 1) m ++ range_with_len k n) here)

-- Those that pass are those of a list that has all that pass up to its end, and those after it.
pub passing-now : (test : ℕ → Bool) (first last : ℕ) (told : List ℕ) → RisesBelow first told (last + 1) → NoneBack test first told → passing test first last ≡ filter test told ++ passing test (after_last first told) last
unfolding passing
passing-now test first last told rises none_back =
    let next = after_last first told in
    let up = rising-after first told (last + 1) rises in
    let low : first ≤ next = rising-le first told next up in
    let high : next ≤ last + 1 = after-le first told (last + 1) rises in
    let count : last + 1 - first ≡ (next - first) + (last + 1 - next) = omega (arith, low, high) in
    let mid : first + (next - first) ≡ next = omega (arith, low) in
    let kept : filter test told ≡ filter test (range_with_len first (next - first)) = kept-is test told first (next - first) next (sym mid) up none_back in
    ap (λ n. filter test (range_with_len first n)) count ∙ ap (filter test) (range-append first (next - first) (last + 1 - next))
    ∙ filter-append test (range_with_len first (next - first)) (range_with_len (first + (next - first)) (last + 1 - next))
    ∙ ap (λ ns. ns ++ filter test (range_with_len (first + (next - first)) (last + 1 - next))) (sym kept)
    ∙ ap (λ k. filter test told ++ filter test (range_with_len k (last + 1 - next))) mid

-- Those that pass pass again.
pub filter-twice : (test : ℕ → Bool) (ns : List ℕ) → filter test (filter test ns) ≡ filter test ns
filter-twice test [] = refl
filter-twice test (n ∷ ns) = by (cases_Bool (test n)) (filter-twice test ns)
  where
    by : (test n ≡ true) ⊎ (test n ≡ false) → filter test (filter test ns) ≡ filter test ns → filter test (filter test (n ∷ ns)) ≡ filter test (n ∷ ns)
    by (inl hit) rest = ap (filter test) (filter-yes test n ns hit) ∙ filter-yes test n (filter test ns) hit ∙ ap (λ ks. n ∷ ks) rest ∙ sym (filter-yes test n ns hit)
    by (inr miss) rest = ap (filter test) (filter-no test n ns miss) ∙ rest ∙ sym (filter-no test n ns miss)

-- None of the told ones is new.
kept-known : (test : ℕ → Bool) (told xs : List ℕ) → ((n : ℕ) → has xs n ≡ true → has told n ≡ true) → new_of told (filter test xs) ≡ []
kept-known test told [] all = refl
kept-known test told (x ∷ xs) all = by (cases_Bool (test x)) (kept-known test told xs (λ n found. all n (either (x == n) (has xs n) found)))
  where
    either : (a b : Bool) → b ≡ true → (a || b) ≡ true
    either true b found = refl
    either false b found = found

    here : has told x ≡ true
    here = all x (ap (λ t. t || has xs x) (same x))

    by : (test x ≡ true) ⊎ (test x ≡ false) → new_of told (filter test xs) ≡ [] → new_of told (filter test (x ∷ xs)) ≡ []
    by (inl hit) rest = ap (new_of told) (filter-yes test x xs hit) ∙ filter-no (λ (n : ℕ). not (has told n)) x (filter test xs) (ap not here) ∙ rest
    by (inr miss) rest = ap (new_of told) (filter-no test x xs miss) ∙ rest

-- All of those after them are.
later-new : (told ns : List ℕ) (first next bound : ℕ) → RisesBelow first told next → RisesBelow next ns bound → new_of told ns ≡ ns
later-new told [] first next bound front back = refl
later-new told (n ∷ ns) first next bound front back =
    filter-yes (λ (k : ℕ). not (has told k)) n ns (ap not (has-above first told next n front back.0))
    ∙ ap (λ ks. n ∷ ks) (later-new told ns first next bound front (rising-low next (n + 1) ns bound (omega (arith, back.0)) back.1))

pub new-is : (test : ℕ → Bool) (first last : ℕ) (told : List ℕ) → RisesBelow first told (last + 1) → NoneBack test first told → new_of told (passing test first last) ≡ passing test (after_last first told) last
unfolding passing
new-is test first last told rises none_back =
    let next = after_last first told in
    let fresh = filter test (range_with_len next (last + 1 - next)) in
    let high : next ≤ last + 1 = after-le first told (last + 1) rises in
    ap (new_of told) (passing-now test first last told rises none_back)
    ∙ filter-append (λ (n : ℕ). not (has told n)) (filter test told) fresh
    ∙ ap (λ ns. ns ++ new_of told fresh) (kept-known test told told (λ n found. found))
    ∙ later-new told fresh first next (last + 1) (rising-after first told (last + 1) rises) (passing-rises test next (last + 1 - next) (last + 1) (omega (arith, high)))
