-- How many threads there are, counted by numbers.
use Rattle.std.proofs.Common.{◌≡◌, ◌⊎◌, ◌+◌, ◌<◌, ◌≤◌, ℕ, zero, suc, Bool, true, false, cond, if◌then◌else◌, List, [], ◌∷◌, length, map, refl, sym, ◌∙◌, ap, inl, inr, arith}
use Rattle.std.specs.List.{AllByRecursion, filter}
use Rattle.std.proofs.lemmas.Bool.Decides.{nat_tests}
use Rattle.thread_model.specs.Threads.{KeyedRow, shares, reached}
use Rattle.arch_model.specs.Archives.{Entry, Archive, live}
use Rattle.arch_model.specs.Threading.{keyed, keys_in, thread_in}
use Rattle.arch_model.specs.Validity.{IsArchive}
use Rattle.arch_model.proofs.LiveEntries.{live-all}
use Rattle.arch_model.proofs.Purging.{Climbs, live_climbs}
use Rattle.load_run.specs.Counted.{is_first, thread_count}

-- The number of passes of a test of the numbers below one.
abbrev pub tally : (ℕ → Bool) → ℕ → ℕ
tally test zero = 0
tally test (suc n) = if test n then tally test n + 1 else tally test n

-- A number is the first of its thread.
abbrev pub first_at : List Entry → ℕ → Bool
first_at entries n = is_first n (thread_in entries n)

-- An entry has the number.
abbrev HasNumber : List Entry → ℕ → Type 0
HasNumber [] m = ⊥
HasNumber (e ∷ es) m = (e.number ≡ m) ⊎ HasNumber es m

-- The first number of some rows of entries is that of an entry.
first_step : (t : Bool) (e : Entry) (es : List Entry) (row : KeyedRow) (rows : List KeyedRow) (m : ℕ) → row.0 ≡ e.number
    → (is_first m (map (λ (r : KeyedRow). r.0) rows) ≡ true → HasNumber es m)
    → is_first m (map (λ (r : KeyedRow). r.0) (cond t (row ∷ rows) rows)) ≡ true → (e.number ≡ m) ⊎ HasNumber es m
first_step true e es row rows m same rest is = inl (let own : row.0 ≡ m = grind (arith, nat_tests, is) in sym same ∙ own)
first_step false e es row rows m same rest is = inr (rest is)

first_has : (pass : KeyedRow → Bool) (es : List Entry) (m : ℕ) → is_first m (map (λ (r : KeyedRow). r.0) (filter pass (keyed es))) ≡ true → HasNumber es m
first_has pass [] m is = absurd (cc)
first_has pass (e ∷ es) m is = first_step _ e es _ (filter pass (keyed es)) m refl (first_has pass es m) is

-- A number that is the first of its thread is that of a message.
first_in : (es : List Entry) (m : ℕ) → first_at es m ≡ true → HasNumber es m
unfolding thread_in
first_in es m is = first_has (shares (reached (keyed es) (keys_in es m))) es m is

-- Numbers of entries aren't below the first one.
not_below : (low : ℕ) (es : List Entry) (m : ℕ) → Climbs low es → HasNumber es m → low ≤ m
not_below low [] m climbs has = absurd has
not_below low (e ∷ es) m climbs (inl is) = let at : low ≤ e.number = climbs.0 in omega (arith, at, is)
not_below low (e ∷ es) m climbs (inr more) = let at : low ≤ e.number = climbs.0 in let above = not_below (e.number + 1) es m climbs.1 more in omega (arith, at, above)

-- Without a pass between two numbers there are as many below both.
passed_none : (test : ℕ → Bool) (n : ℕ) → test n ≡ false → tally test (suc n) ≡ tally test n
passed_none test n fails = ap (λ (b : Bool). if b then tally test n + 1 else tally test n) fails

low_cases : (low h : ℕ) → low ≤ suc h → (low ≡ suc h) ⊎ (low ≤ h)
low_cases low h least = grind (arith, nat_tests, least)

same_step : (test : ℕ → Bool) (low h : ℕ) → (low ≡ suc h) ⊎ (low ≤ h) → ((m : ℕ) → low ≤ m → m < suc h → test m ≡ false) → (low ≤ h → tally test h ≡ tally test low) → tally test (suc h) ≡ tally test low
same_step test low h (inl is) none rest = ap (tally test) (sym is)
same_step test low h (inr at) none rest = passed_none test h (none h at (omega arith)) ∙ rest at

tally_same : (test : ℕ → Bool) (low high : ℕ) → low ≤ high → ((m : ℕ) → low ≤ m → m < high → test m ≡ false) → tally test high ≡ tally test low
tally_same test low zero least none = let is : zero ≡ low = omega (arith, least) in ap (tally test) is
tally_same test low (suc h) least none =
    same_step test low h (low_cases low h least) none (λ at. tally_same test low h at (λ m from below. none m from (omega (arith, below))))

-- Between two numbers as many pass as entries with numbers that do, where all that pass are numbers of
-- entries.
count_step : (test : ℕ → Bool) (t : Bool) (high : ℕ) (e : Entry) (es : List Entry) → test e.number ≡ t
    → tally test (suc e.number) + length es ≡ tally test high
    → tally test e.number + length (cond t (e ∷ es) es) ≡ tally test high
count_step test true high e es is rest = let more : tally test (suc e.number) ≡ tally test e.number + 1 = ap (λ (b : Bool). if b then tally test e.number + 1 else tally test e.number) is in omega (arith, rest, more)
count_step test false high e es is rest = let same : tally test (suc e.number) ≡ tally test e.number = ap (λ (b : Bool). if b then tally test e.number + 1 else tally test e.number) is in omega (arith, rest, same)

fails_by : (test : ℕ → Bool) (m : ℕ) (t : Bool) → test m ≡ t → (test m ≡ true → ⊥) → test m ≡ false
fails_by test m true is never = absurd (never is)
fails_by test m false is never = is

count_all : (test : ℕ → Bool) (low high : ℕ) (es : List Entry) → low ≤ high → Climbs low es → AllByRecursion (λ (e : Entry). e.number < high) es
    → ((m : ℕ) → low ≤ m → test m ≡ true → HasNumber es m)
    → tally test low + length (filter (λ (e : Entry). test e.number) es) ≡ tally test high
count_all test low high [] least climbs below has =
    let same = tally_same test low high least (λ m from less. fails_by test m (test m) refl (λ is. has m from is)) in omega (arith, same)
count_all test low high (e ∷ es) least climbs below has =
    let from : low ≤ e.number = climbs.0 in
    let at : e.number < high = below.0 in
    let before : tally test e.number ≡ tally test low =
    tally_same test low e.number from (λ m low_at less. fails_by test m (test m) refl (λ is. too_low m less (has m low_at is))) in
    let rest = count_all test (e.number + 1) high es (omega (arith, at)) climbs.1 below.1 (λ m above is. later m above (has m (omega (arith, from, above)) is)) in
    let next : suc e.number ≡ e.number + 1 = omega arith in
    let all = count_step test (test e.number) high e (filter (λ (f : Entry). test f.number) es) refl (ap (λ (n : ℕ). tally test n + length (filter (λ (f : Entry). test f.number) es)) next ∙ rest) in
    omega (arith, before, all) where
      too_low : (m : ℕ) → m < e.number → HasNumber (e ∷ es) m → ⊥
      too_low m less (inl is) = omega (arith, less, is)
      too_low m less (inr more) = let above = not_below (e.number + 1) es m climbs.1 more in omega (arith, less, above)

      later : (m : ℕ) → e.number + 1 ≤ m → HasNumber (e ∷ es) m → HasNumber es m
      later m above (inl is) = absurd (omega (arith, above, is))
      later m above (inr more) = more

from_zero : (es : List Entry) → Climbs 1 es → Climbs 0 es
from_zero [] climbs = tt
from_zero (e ∷ es) climbs = (omega arith, climbs.1)

-- A valid archive has as many threads as numbers below the next one that are the first of theirs.
pub threads_tally : (a : Archive) → IsArchive a → thread_count (live a.entries) ≡ tally (first_at (live a.entries)) a.next
threads_tally a valid =
    let all : 0 + thread_count (live a.entries) ≡ tally (first_at (live a.entries)) a.next =
    count_all (first_at (live a.entries)) 0 a.next (live a.entries) (omega arith) (from_zero (live a.entries) (live_climbs 1 0 a.entries valid.order))
    (live-all (λ (e : Entry). e.number < a.next) a.entries valid.below) (λ m low is. first_in (live a.entries) m is) in
    omega (arith, all)
