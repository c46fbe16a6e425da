-- What a shelf counts in a valid archive: numbers, since no two live entries have one number.
use Rattle.std.proofs.Common.{◌⊎◌, inl, inr, ◌≡◌, ◌≢◌, ◌+◌, ◌-◌, ◌<◌, ◌≤◌, ◌==◌, ℕ, zero, suc, Bool, true, false, List, [], ◌∷◌, length, get_or, Option, Some, None, is_some, refl, sym, ap, ◌∙◌, arith, if◌then◌else◌}
use Rattle.std.specs.List.{filter, range_with_len}
use Rattle.std.specs.Bool.{MatchBool}
use Rattle.std.proofs.lemmas.Bool.Decides.{eqb_tells, nat_tests}
use Rattle.arch_model.specs.Archives.{Entry, Archive, live, text_of}
use Rattle.arch_model.specs.Shelves.{is_between, live_between}
use Rattle.arch_model.specs.Validity.{IsArchive}
use Rattle.arch_model.proofs.Purging.{Climbs, live_climbs, climbs_above}
use Rattle.known_uids.specs.Told.{is_live, RisesBelow, after_last, NoneBack}
use Rattle.known_uids.specs.Gone.{AllLive}
use Rattle.known_uids.proofs.Rising.{apart, same, rising-le, rising-after, after-last}
use Rattle.known_uids.proofs.Passing.{filter-yes, filter-no, kept-is}
use Rattle.known_uids.proofs.Leaving.{live-all}

-- The number is that of one of these entries.
abbrev pub is_in : List Entry → ℕ → Bool
is_in es n = is_some (text_of es n)

-- Of a range as many pass two tests that agree there.
agree-count : (p q : ℕ → Bool) (first count : ℕ) → ((n : ℕ) → first ≤ n → n < first + count → q n ≡ p n) → length (filter q (range_with_len first count)) ≡ length (filter p (range_with_len first count))
agree-count p q first zero agree = refl
agree-count p q first (suc count) agree =
    let rest = agree-count p q (first + 1) count (λ n low high. agree n (omega (arith, low)) (omega (arith, high))) in
    let here : q first ≡ p first = agree first (omega arith) (omega arith) in
    ap (λ t. length (if t then first ∷ filter q (range_with_len (first + 1) count) else filter q (range_with_len (first + 1) count))) here
    ∙ by (p first) (filter q (range_with_len (first + 1) count)) (filter p (range_with_len (first + 1) count)) rest
  where
    by : (t : Bool) (xs ys : List ℕ) → length xs ≡ length ys → length (if t then first ∷ xs else xs) ≡ length (if t then first ∷ ys else ys)
    by true xs ys e = ap suc e
    by false xs ys e = e

-- One more passes where one more number does.
one-more : (p q : ℕ → Bool) (m first count : ℕ) → ((n : ℕ) → n ≢ m → q n ≡ p n) → q m ≡ true → p m ≡ false → first ≤ m → m < first + count → length (filter q (range_with_len first count)) ≡ suc (length (filter p (range_with_len first count)))
one-more p q m first zero agree hit miss low high = absurd (omega (arith, low, high))
one-more p q m first (suc count) agree hit miss low high = by (eqb_tells first m) (λ above. one-more p q m (first + 1) count agree hit miss above (omega (arith, high)))
  where
    more : List ℕ
    more = range_with_len (first + 1) count

    step : (t : Bool) (xs ys : List ℕ) → length xs ≡ suc (length ys) → length (if t then first ∷ xs else xs) ≡ suc (length (if t then first ∷ ys else ys))
    step true xs ys e = ap suc e
    step false xs ys e = e

    by : (((first == m) ≡ true) × (first ≡ m)) ⊎ (((first == m) ≡ false) × (first ≢ m)) → (first + 1 ≤ m → length (filter q more) ≡ suc (length (filter p more))) → length (filter q (first ∷ more)) ≡ suc (length (filter p (first ∷ more)))
    by (inl here) rest =
        let others : length (filter q more) ≡ length (filter p more) = agree-count p q (first + 1) count (λ n above below. agree n (λ e. omega (arith, e, above, here.1))) in
        ap length (filter-yes q first more (ap q here.1 ∙ hit)) ∙ ap suc others ∙ sym (ap (λ ks. suc (length ks)) (filter-no p first more (ap p here.1 ∙ miss)))
    by (inr there) rest =
        ap (λ t. length (if t then first ∷ filter q more else filter q more)) (agree first there.1)
        ∙ step (p first) (filter q more) (filter p more) (rest (omega (arith, low, there.1)))

none-pass : (first count : ℕ) → length (filter (λ (n : ℕ). false) (range_with_len first count)) ≡ 0
none-pass first zero = refl
none-pass first (suc count) = none-pass (first + 1) count

not_some : (o : Option (List ℕ)) → ((text : List ℕ) → o ≡ Some text → ⊥) → is_some o ≡ false
not_some None none = refl
not_some (Some text) none = absurd (none text refl)

-- Entries whose numbers rise, as the numbers of a range.
pub counted : (low : ℕ) (es : List Entry) (first count high : ℕ) → Climbs low es → high + 1 ≡ first + count → live_between es first high ≡ length (filter (is_in es) (range_with_len first count))
counted low [] first count high climbs is = sym (none-pass first count)
counted low (e ∷ es) first count high climbs is = by (is_between first high e) refl (counted (e.number + 1) es first count high climbs.1 is)
  where
    alone : is_in es e.number ≡ false
    alone = not_some (text_of es e.number) (λ text found. let above : e.number + 1 ≤ e.number = climbs_above (e.number + 1) es e.number text climbs.1 found in omega (arith, above))

    others : (n : ℕ) → n ≢ e.number → is_in (e ∷ es) n ≡ is_in es n
    others n ne = ap (λ t. is_some (if t then Some e.text else text_of es n)) (apart e.number n (λ e'. ne (sym e')))

    own : is_in (e ∷ es) e.number ≡ true
    own = ap (λ t. is_some (if t then Some e.text else text_of es e.number)) (same e.number)

    by : (t : Bool) → is_between first high e ≡ t → live_between es first high ≡ length (filter (is_in es) (range_with_len first count)) → length (if t then e ∷ filter (is_between first high) es else filter (is_between first high) es) ≡ length (filter (is_in (e ∷ es)) (range_with_len first count))
    by true test rest =
        let low_is : first ≤ e.number = grind (arith, nat_tests, test) in
        let high_is : e.number ≤ high = grind (arith, nat_tests, test) in
        ap suc rest ∙ sym (one-more (is_in es) (is_in (e ∷ es)) e.number first count others own alone low_is (omega (arith, high_is, is)))
    by false test rest =
        rest ∙ sym (agree-count (is_in es) (is_in (e ∷ es)) first count
        (λ n above below. others n (λ e'. let wrong : is_between first high e ≡ true = between (omega (arith, above, e')) (omega (arith, below, is, e')) in let no_way : true ≡ false = sym wrong ∙ test in cc)))
      where
        between : first ≤ e.number → e.number ≤ high → is_between first high e ≡ true
        between low_is high_is = grind (arith, nat_tests, low_is, high_is)

-- As many are live as there are just if all are.
filter-le : (test : ℕ → Bool) (ns : List ℕ) → length (filter test ns) ≤ length ns
filter-le test [] = omega arith
filter-le test (n ∷ ns) = by (test n) (filter-le test ns)
  where
    by : (t : Bool) → length (filter test ns) ≤ length ns → length (if t then n ∷ filter test ns else filter test ns) ≤ suc (length ns)
    by true le = omega (arith, le)
    by false le = omega (arith, le)

all-same : (test : ℕ → Bool) (ns : List ℕ) → length (filter test ns) ≡ length ns → AllLive test ns
all-same test [] e = tt
all-same test (n ∷ ns) e = by (test n) refl (all-same test ns) e
  where
    by : (t : Bool) → test n ≡ t → (length (filter test ns) ≡ length ns → AllLive test ns) → length (if t then n ∷ filter test ns else filter test ns) ≡ suc (length ns) → (test n ≡ true) × AllLive test ns
    by true hit rest is = (hit, rest (omega (arith, is)))
    by false miss rest is = absurd (let most = filter-le test ns in omega (arith, is, most))

pub match_bool : (t : Bool) (P Q : Type 0) → (t ≡ true → P) → (t ≡ false → Q) → MatchBool t P Q
match_bool true P Q one other = one refl
match_bool false P Q one other = other refl

-- The count of the shelf from the first to the last of some UIDs tells whether all are live.
pub block-test : (a : Archive) (uids : List ℕ) (count low high first bound : ℕ) → 1 ≤ length uids → low ≡ get_or uids 0 0 → high ≡ get_or uids (length uids - 1) 0
    → count ≡ live_between (live a.entries) low high → IsArchive a → RisesBelow first uids bound → NoneBack (is_live a) first uids
    → MatchBool (count == length uids) (AllLive (is_live a) uids) (AllLive (is_live a) uids → ⊥)
block-test a [] count low high first bound some low_is high_is is valid rises none = absurd (omega (arith, some))
block-test a (n ∷ ns) count low high first bound some low_is high_is is valid rises none =
    let uids = n ∷ ns in
    let last = get_or uids (length ns) 0 in
    let at : length uids - 1 ≡ length ns = omega arith in
    let up : RisesBelow n uids (after_last n uids) = (omega arith, (rising-after first uids bound rises).1) in
    let end : after_last n uids ≡ last + 1 = after-last n n ns in
    let le : n ≤ after_last n uids = rising-le n uids (after_last n uids) up in
    let size = last + 1 - n in
    let span : last + 1 ≡ n + size = omega (arith, le, end) in
    let kept : filter (is_live a) uids ≡ filter (is_live a) (range_with_len n size) =
    kept-is (is_live a) uids n size (after_last n uids) (end ∙ span) up (λ k above below passes. none k (let least : first ≤ n = rises.0 in omega (arith, least, above)) below passes) in
    let climbs : Climbs 1 (live a.entries) = live_climbs 1 0 a.entries valid.order in
    let total : count ≡ length (filter (is_live a) uids) =
    is ∙ ap (λ k. live_between (live a.entries) k high) low_is ∙ ap (live_between (live a.entries) n) (high_is ∙ ap (λ i. get_or uids i 0) at)
    ∙ counted 1 (live a.entries) n size last climbs span ∙ ap length (sym kept) in
    match_bool (count == length uids) (AllLive (is_live a) uids) (AllLive (is_live a) uids → ⊥)
    (λ hit. all-same (is_live a) uids (let e : count ≡ length uids = grind (arith, nat_tests, hit) in sym total ∙ e))
    (λ miss all. let e : count ≡ length uids = total ∙ ap length (live-all (is_live a) uids all) in let hit : (count == length uids) ≡ true = grind (arith, nat_tests, e) in let wrong : true ≡ false = sym hit ∙ miss in cc)
