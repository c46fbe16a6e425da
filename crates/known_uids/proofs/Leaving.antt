-- The UIDs that are gone, and the list while they are taken out.
use Rattle.std.proofs.Common.{◌⊎◌, inl, inr, ◌≡◌, ◌+◌, ◌-◌, ◌<◌, ◌≤◌, ℕ, zero, suc, Bool, true, false, not, ◌||◌, List, [], ◌∷◌, ◌++◌, length, take, drop, set, refl, sym, ap, subst, ◌∙◌, arith, append-nil, append_assoc, if◌then◌else◌}
use Rattle.std.specs.List.{filter, fold}
use Rattle.std.specs.List.{AllByRecursion}
use Rattle.std.proofs.lemmas.Bool.{cases_Bool}
use Rattle.std.proofs.lemmas.List.Sums.{fold-append}
use Rattle.known_uids.specs.Told.{RisesBelow, after_last, has, NoneBack, gone_from}
use Rattle.known_uids.specs.Gone.{AllLive, gone_by, strike, struck, is_there}
use Rattle.known_uids.proofs.Rising.{apart, rising-le, rising-low, rising-front, rising-back, rising-after, after-append, has-above, has-below, has-append}
use Rattle.known_uids.proofs.Passing.{filter-yes, filter-no}

-- The sequence number of a UID that is gone, before others.
abbrev pub gone_one : Bool → ℕ → List ℕ
gone_one t sequence = if t then [] else sequence ∷ []

-- The later part's numbers come first.
pub gone-append : (test : ℕ → Bool) (sequence : ℕ) (xs ys : List ℕ) → gone_by test sequence (xs ++ ys) ≡ gone_by test (sequence + length xs) ys ++ gone_by test sequence xs
gone-append test sequence [] ys =
    let here : sequence ≡ sequence + 0 = omega arith in
    ap (λ k. gone_by test k ys) here ∙ sym (append-nil (gone_by test (sequence + 0) ys))
gone-append test sequence (x ∷ xs) ys =
    let here : sequence + 1 + length xs ≡ sequence + suc (length xs) = omega arith in
    ap (λ ks. ks ++ gone_one (test x) sequence) (gone-append test (sequence + 1) xs ys)
    ∙ append_assoc (gone_by test (sequence + 1 + length xs) ys) (gone_by test (sequence + 1) xs) (gone_one (test x) sequence)
    ∙ ap (λ k. gone_by test k ys ++ gone_by test sequence (x ∷ xs)) here

-- None is gone where all are live.
pub gone-none : (test : ℕ → Bool) (sequence : ℕ) (ns : List ℕ) → AllLive test ns → gone_by test sequence ns ≡ []
gone-none test sequence [] all = refl
gone-none test sequence (n ∷ ns) all = ap (λ ks. ks ++ gone_one (test n) sequence) (gone-none test (sequence + 1) ns all.1) ∙ ap (λ t. gone_one t sequence) all.0

pub live-all : (test : ℕ → Bool) (ns : List ℕ) → AllLive test ns → filter test ns ≡ ns
live-all test [] all = refl
live-all test (n ∷ ns) all = filter-yes test n ns all.0 ∙ ap (λ ks. n ∷ ks) (live-all test ns all.1)

-- Those that pass pass.
pub passing-live : (test : ℕ → Bool) (ns : List ℕ) → AllLive test (filter test ns)
passing-live test [] = tt
passing-live test (n ∷ ns) = by (cases_Bool (test n)) (passing-live test ns)
  where
    by : (test n ≡ true) ⊎ (test n ≡ false) → AllLive test (filter test ns) → AllLive test (filter test (n ∷ ns))
    by (inl hit) rest = subst (AllLive test) (sym (filter-yes test n ns hit)) (hit, rest)
    by (inr miss) rest = subst (AllLive test) (sym (filter-no test n ns miss)) rest

-- Two tests that agree on the UIDs tell the same of them.
pub gone-same : (now : List ℕ) (test : ℕ → Bool) (sequence first : ℕ) (ns : List ℕ) (bound : ℕ) → RisesBelow first ns bound → ((n : ℕ) → first ≤ n → n < bound → has now n ≡ test n) → gone_from now sequence ns ≡ gone_by test sequence ns
gone-same now test sequence first [] bound rises agree = refl
gone-same now test sequence first (n ∷ ns) bound rises agree =
    let high : n + 1 ≤ bound = rising-le (n + 1) ns bound rises.1 in
    ap (λ ks. ks ++ gone_one (has now n) sequence) (gone-same now test (sequence + 1) (n + 1) ns bound rises.1 (λ k low below. agree k (omega (arith, rises.0, low)) below))
    ∙ ap (λ t. gone_by test (sequence + 1) ns ++ gone_one t sequence) (agree n rises.0 (omega (arith, high)))

-- A part of a list up to which no number came back is one, too.
none_in : (a b : Bool) → (a || b) ≡ true → a ≡ false → b ≡ true
none_in false b either none = either
none_in true b either none = absurd (cc)

only_in : (a b : Bool) → (a || b) ≡ true → b ≡ false → a ≡ true
only_in true b either none = refl
only_in false b either none = absurd (cc)

pub back-none : (test : ℕ → Bool) (first : ℕ) (xs ys : List ℕ) (bound : ℕ) → RisesBelow first (xs ++ ys) bound → NoneBack test first (xs ++ ys) → NoneBack test (after_last first xs) ys
back-none test first xs ys bound rises none n low high passes =
    let front = rising-front first xs ys bound rises in
    let up : first ≤ n = let most : first ≤ after_last first xs = rising-le first xs (after_last first xs) front in omega (arith, most, low) in
    let below : n < after_last first (xs ++ ys) = subst (λ k. n < k) (sym (after-append first xs ys)) high in
    none_in (has xs n) (has ys n) (sym (has-append xs ys n) ∙ none n up below passes) (has-above first xs (after_last first xs) n front low)

pub front-none : (test : ℕ → Bool) (first : ℕ) (xs ys : List ℕ) (bound : ℕ) → RisesBelow first (xs ++ ys) bound → NoneBack test first (xs ++ ys) → NoneBack test first xs
front-none test first xs ys bound rises none n low high passes =
    let back = rising-back first xs ys bound rises in
    let more : after_last first xs ≤ after_last first (xs ++ ys) = subst (λ k. after_last first xs ≤ k) (sym (after-append first xs ys)) (rising-le (after_last first xs) ys _ (rising-after (after_last first xs) ys bound back)) in
    only_in (has xs n) (has ys n) (sym (has-append xs ys n) ∙ none n low (omega (arith, high, more)) passes) (has-below (after_last first xs) ys bound n back high)

-- The UIDs with 0 in place of those that are gone.
abbrev pub marked : (ℕ → Bool) → List ℕ → List ℕ
marked test [] = []
marked test (n ∷ ns) = (if test n then n else 0) ∷ marked test ns

-- The same steps on a list whose first number has another sequence number than 1.
abbrev pub strike_at : ℕ → List ℕ → ℕ → List ℕ
strike_at first uids sequence = set uids (sequence - first) 0

abbrev pub expunge_at : ℕ → List ℕ → ℕ → List ℕ
expunge_at first uids sequence = take (sequence - first) uids ++ drop (sequence + 1 - first) uids

gone-above : (test : ℕ → Bool) (sequence : ℕ) (ns : List ℕ) → AllByRecursion (λ k. sequence ≤ k) (gone_by test sequence ns)
gone-above test sequence [] = tt
gone-above test sequence (n ∷ ns) = joined (gone_by test (sequence + 1) ns) (gone-above test (sequence + 1) ns) (test n)
  where
    joined : (ks : List ℕ) → AllByRecursion (λ k. sequence + 1 ≤ k) ks → (t : Bool) → AllByRecursion (λ k. sequence ≤ k) (ks ++ gone_one t sequence)
    joined [] all true = tt
    joined [] all false = (omega arith, tt)
    joined (k ∷ ks) all t = (omega (arith, all.0), joined ks all.1 t)

strike-tail : (first n : ℕ) (ns gone : List ℕ) → AllByRecursion (λ k. first + 1 ≤ k) gone → fold (strike_at first) (n ∷ ns) gone ≡ n ∷ fold (strike_at (first + 1)) ns gone
strike-tail first n ns [] all = refl
strike-tail first n ns (k ∷ ks) all =
    let at : k - first ≡ suc (k - (first + 1)) = omega (arith, all.0) in
    ap (λ i. fold (strike_at first) (set (n ∷ ns) i 0) ks) at ∙ strike-tail first n (set ns (k - (first + 1)) 0) ks all.1

pub strike-gone : (test : ℕ → Bool) (first : ℕ) (ns : List ℕ) → fold (strike_at first) ns (gone_by test first ns) ≡ marked test ns
strike-gone test first [] = refl
strike-gone test first (n ∷ ns) =
    fold-append (strike_at first) (n ∷ ns) (gone_by test (first + 1) ns) (gone_one (test n) first)
    ∙ ap (λ ks. fold (strike_at first) ks (gone_one (test n) first)) (strike-tail first n ns (gone_by test (first + 1) ns) (gone-above test (first + 1) ns) ∙ ap (λ ks. n ∷ ks) (strike-gone test (first + 1) ns))
    ∙ last (test n)
  where
    last : (t : Bool) → fold (strike_at first) (n ∷ marked test ns) (gone_one t first) ≡ (if t then n else 0) ∷ marked test ns
    last true = refl
    last false = let at : first - first ≡ 0 = omega arith in ap (λ i. set (n ∷ marked test ns) i 0) at

expunge-tail : (first n : ℕ) (ns gone : List ℕ) → AllByRecursion (λ k. first + 1 ≤ k) gone → fold (expunge_at first) (n ∷ ns) gone ≡ n ∷ fold (expunge_at (first + 1)) ns gone
expunge-tail first n ns [] all = refl
expunge-tail first n ns (k ∷ ks) all =
    let at : k - first ≡ suc (k - (first + 1)) = omega (arith, all.0) in
    let past : k + 1 - first ≡ suc (k + 1 - (first + 1)) = omega (arith, all.0) in
    ap (λ i. fold (expunge_at first) (take i (n ∷ ns) ++ drop (k + 1 - first) (n ∷ ns)) ks) at
    ∙ ap (λ i. fold (expunge_at first) (n ∷ (take (k - (first + 1)) ns ++ drop i (n ∷ ns))) ks) past
    ∙ expunge-tail first n (take (k - (first + 1)) ns ++ drop (k + 1 - (first + 1)) ns) ks all.1

pub expunge-gone : (test : ℕ → Bool) (first : ℕ) (ns : List ℕ) → fold (expunge_at first) ns (gone_by test first ns) ≡ filter test ns
expunge-gone test first [] = refl
expunge-gone test first (n ∷ ns) =
    fold-append (expunge_at first) (n ∷ ns) (gone_by test (first + 1) ns) (gone_one (test n) first)
    ∙ ap (λ ks. fold (expunge_at first) ks (gone_one (test n) first)) (expunge-tail first n ns (gone_by test (first + 1) ns) (gone-above test (first + 1) ns) ∙ ap (λ ks. n ∷ ks) (expunge-gone test (first + 1) ns))
    ∙ last (test n)
  where
    last : (t : Bool) → fold (expunge_at first) (n ∷ filter test ns) (gone_one t first) ≡ (if t then n ∷ filter test ns else filter test ns)
    last true = refl
    last false =
        let at : first - first ≡ 0 = omega arith in
        let past : first + 1 - first ≡ 1 = omega arith in
        ap (λ i. take i (n ∷ filter test ns) ++ drop (first + 1 - first) (n ∷ filter test ns)) at ∙ ap (λ i. drop i (n ∷ filter test ns)) past

-- Without the zeros these are the ones that are there.
pub there-marked : (test : ℕ → Bool) (first : ℕ) (ns : List ℕ) (bound : ℕ) → 1 ≤ first → RisesBelow first ns bound → filter is_there (marked test ns) ≡ filter test ns
there-marked test first [] bound least rises = refl
there-marked test first (n ∷ ns) bound least rises = by (test n) (there-marked test (n + 1) ns bound (omega arith) rises.1)
  where
    here : is_there n ≡ true
    here = ap not (apart n 0 (λ e. omega (arith, e, least, rises.0)))

    by : (t : Bool) → filter is_there (marked test ns) ≡ filter test ns → filter is_there ((if t then n else 0) ∷ marked test ns) ≡ (if t then n ∷ filter test ns else filter test ns)
    by true rest = filter-yes is_there n (marked test ns) here ∙ ap (λ ks. n ∷ ks) rest
    by false rest = rest

pub there-all : (first : ℕ) (ns : List ℕ) (bound : ℕ) → 1 ≤ first → RisesBelow first ns bound → filter is_there ns ≡ ns
there-all first [] bound least rises = refl
there-all first (n ∷ ns) bound least rises =
    filter-yes is_there n ns (ap not (apart n 0 (λ e. omega (arith, e, least, rises.0)))) ∙ ap (λ ks. n ∷ ks) (there-all (n + 1) ns bound (omega arith) rises.1)

-- The UIDs, of which some may be 0 now.
abbrev pub Marks : List ℕ → List ℕ → Type 0
Marks [] [] = Unit {0}
Marks [] (m ∷ ms) = ⊥
Marks (n ∷ ns) [] = ⊥
Marks (n ∷ ns) (m ∷ ms) = ((m ≡ n) ⊎ (m ≡ 0)) × Marks ns ms

pub marks-same : (ns : List ℕ) → Marks ns ns
marks-same [] = tt
marks-same (n ∷ ns) = (inl refl, marks-same ns)

marks-set : (ns ms : List ℕ) (i : ℕ) → Marks ns ms → Marks ns (set ms i 0)
marks-set [] [] i marks = marks
marks-set [] (m ∷ ms) i marks = absurd marks
marks-set (n ∷ ns) [] i marks = absurd marks
marks-set (n ∷ ns) (m ∷ ms) zero marks = (inr refl, marks.1)
marks-set (n ∷ ns) (m ∷ ms) (suc i) marks = (marks.0, marks-set ns ms i marks.1)

pub marks-struck : (ns ms gone : List ℕ) → Marks ns ms → Marks ns (struck ms gone)
marks-struck ns ms [] marks = marks
marks-struck ns ms (k ∷ ks) marks = marks-struck ns (strike ms k) ks (marks-set ns ms (k - 1) marks)

pub rising-marks : (first : ℕ) (ns ms : List ℕ) (bound : ℕ) → RisesBelow first ns bound → Marks ns ms → RisesBelow first (filter is_there ms) bound
rising-marks first [] [] bound rises marks = rises
rising-marks first [] (m ∷ ms) bound rises marks = absurd marks
rising-marks first (n ∷ ns) [] bound rises marks = absurd marks
rising-marks first (n ∷ ns) (m ∷ ms) bound rises marks = by marks.0 (cases_Bool (is_there m)) (rising-marks (n + 1) ns ms bound rises.1 marks.1)
  where
    later : List ℕ
    later = filter is_there ms

    by : ((m ≡ n) ⊎ (m ≡ 0)) → (is_there m ≡ true) ⊎ (is_there m ≡ false) → RisesBelow (n + 1) later bound → RisesBelow first (filter is_there (m ∷ ms)) bound
    by (inl e) (inl hit) rest =
        subst (λ ks. RisesBelow first ks bound) (sym (filter-yes is_there m ms hit)) (let low : first ≤ n = rises.0 in omega (arith, e, low), subst (λ k. RisesBelow (k + 1) later bound) (sym e) rest)
    by (inr z) (inl hit) rest = absurd (let zero_is : is_there m ≡ false = ap is_there z in let wrong : true ≡ false = sym hit ∙ zero_is in cc)
    by e (inr miss) rest = subst (λ ks. RisesBelow first ks bound) (sym (filter-no is_there m ms miss)) (rising-low first (n + 1) later bound (let low : first ≤ n = rises.0 in omega (arith, low)) rest)

-- Of one UID that isn't live.
pub one-gone : (test : ℕ → Bool) (sequence : ℕ) (ns : List ℕ) → length ns ≡ 1 → (AllLive test ns → ⊥) → gone_by test sequence ns ≡ sequence ∷ []
one-gone test sequence [] one none = absurd (omega (arith, one))
one-gone test sequence (n ∷ m ∷ ms) one none = absurd (omega (arith, one))
one-gone test sequence (n ∷ []) one none = by (cases_Bool (test n))
  where
    by : (test n ≡ true) ⊎ (test n ≡ false) → gone_by test sequence (n ∷ []) ≡ sequence ∷ []
    by (inl hit) = absurd (none (hit, tt))
    by (inr miss) = ap (λ t. gone_one t sequence) miss
