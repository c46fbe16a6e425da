-- One step of reading a piece is what the definition says of its bytes.
use Rattle.std.proofs.Common.{◌≡◌, ◌≤◌, ◌<◌, ◌+◌, ◌-◌, ◌*◌, ◌^◌, min, ℕ, zero, suc, List, [], ◌∷◌, ◌++◌, length, take, drop, get_or, eqb, Option, Some, None, Bool, true, false, refl, sym, ap, subst, ◌∙◌, append_assoc, length-append, length-drop, add-one, arith}
use Rattle.std.specs.Prelude.{if◌then◌else◌}
use Rattle.std.proofs.lemmas.Bool.{eqb-true, eq-eqb}
use Rattle.std.proofs.lemmas.List.{drop-drop}
use Rattle.lmtp_data.specs.Data.{DataScan, Going, Ended, after, past, scanned}
use Rattle.lmtp_data.specs.Readings.{DataReading, data_reading, data_limit, clipped, counted, Unfinished, Finished, read_after, read_on, ReadsData}
use Rattle.lmtp_data.specs.Steps.{rank, work, placed, pushed, IsDataStep, IsRun}
use Rattle.lmtp_data.specs.declared.place.Place.{Place}
use Rattle.lmtp_data.specs.declared.place.Place.TheVariants.{LineStart, Dot, DotReturn, Within, Return}
use Rattle.lmtp_data.specs.declared.reader.DataStep.TheVariants as step
use Rattle.lmtp_data.proofs.Scans.{after-after, line-within, line-dot, dot-within, dot-return, return-within, return-line, dot_return-ends, dot_return-return}

pub not-eqb : (a b : ℕ) → (a ≡ b → ⊥) → eqb a b ≡ false
not-eqb a b h = by (eqb a b) refl
  where
    by : (u : Bool) → eqb a b ≡ u → u ≡ false
    by false e = refl
    by true e = absurd (h (eqb-true a b e))

-- What bytes say where their first one is known.
pub at-line-dot : (xs : List ℕ) → 0 < length xs → get_or xs 0 0 ≡ 46 → scanned LineStart xs ≡ scanned Dot (drop 1 xs)
at-line-dot [] some e = absurd (omega arith)
at-line-dot (b ∷ bs) some e = line-dot b bs (eq-eqb b 46 e)

pub at-line-within : (xs : List ℕ) → 0 < length xs → (get_or xs 0 0 ≡ 46 → ⊥) → scanned LineStart xs ≡ scanned Within xs
at-line-within [] some e = absurd (omega arith)
at-line-within (b ∷ bs) some e = line-within b bs (not-eqb b 46 e)

pub at-dot-return : (xs : List ℕ) → 0 < length xs → get_or xs 0 0 ≡ 13 → scanned Dot xs ≡ scanned DotReturn (drop 1 xs)
at-dot-return [] some e = absurd (omega arith)
at-dot-return (b ∷ bs) some e = dot-return b bs (eq-eqb b 13 e)

pub at-dot-within : (xs : List ℕ) → 0 < length xs → (get_or xs 0 0 ≡ 13 → ⊥) → scanned Dot xs ≡ scanned Within xs
at-dot-within [] some e = absurd (omega arith)
at-dot-within (b ∷ bs) some e = dot-within b bs (not-eqb b 13 e)

pub at-dot_return-ends : (xs : List ℕ) → 0 < length xs → get_or xs 0 0 ≡ 10 → scanned DotReturn xs ≡ Ended [] (drop 1 xs)
at-dot_return-ends [] some e = absurd (omega arith)
at-dot_return-ends (b ∷ bs) some e = dot_return-ends b bs (eq-eqb b 10 e)

pub at-dot_return-return : (xs : List ℕ) → 0 < length xs → (get_or xs 0 0 ≡ 10 → ⊥) → scanned DotReturn xs ≡ after (13 ∷ []) (scanned Return xs)
at-dot_return-return [] some e = absurd (omega arith)
at-dot_return-return (b ∷ bs) some e = dot_return-return b bs (not-eqb b 10 e)

pub at-return-line : (xs : List ℕ) → 0 < length xs → get_or xs 0 0 ≡ 10 → scanned Return xs ≡ after (10 ∷ []) (scanned LineStart (drop 1 xs))
at-return-line [] some e = absurd (omega arith)
at-return-line (b ∷ bs) some e = return-line b bs (eq-eqb b 10 e) ∙ ap (λ (x : ℕ). after (x ∷ []) (scanned LineStart bs)) e

pub at-return-within : (xs : List ℕ) → 0 < length xs → (get_or xs 0 0 ≡ 10 → ⊥) → scanned Return xs ≡ scanned Within xs
at-return-within [] some e = absurd (omega arith)
at-return-within (b ∷ bs) some e = return-within b bs (not-eqb b 10 e)

-- A run of octets up to the first carriage return, or to the end.
within-past : (b : ℕ) (bs : List ℕ) → (b ≡ 13 → ⊥) → scanned (past b) bs ≡ scanned Within bs
within-past b bs h = ap (λ (t : Bool). scanned (if t then Return else Within) bs) (not-eqb b 13 h)

return-past : (b : ℕ) (bs : List ℕ) → b ≡ 13 → scanned (past b) bs ≡ scanned Return bs
return-past b bs e = ap (λ (t : Bool). scanned (if t then Return else Within) bs) (eq-eqb b 13 e)

pub run-return : (xs : List ℕ) (n : ℕ) → n < length xs → get_or xs n 0 ≡ 13 → ((k : ℕ) → k < n → get_or xs k 0 ≡ 13 → ⊥) → scanned Within xs ≡ after (take (suc n) xs) (scanned Return (drop (suc n) xs))
run-return [] n few e none = absurd (omega arith)
run-return (x ∷ xs) zero few e none = ap (after (x ∷ [])) (return-past x xs e)
run-return (x ∷ xs) (suc n) few e none =
    ap (after (x ∷ [])) (within-past x xs (none 0 (omega arith)) ∙ run-return xs n (omega arith) e (λ k l is. none (suc k) (omega arith) is))
    ∙ after-after (x ∷ []) (take (suc n) xs) (scanned Return (drop (suc n) xs))

pub run-all : (xs : List ℕ) → ((k : ℕ) → k < length xs → get_or xs k 0 ≡ 13 → ⊥) → scanned Within xs ≡ after xs (Going [] Within)
run-all [] none = refl
run-all (x ∷ xs) none =
    ap (after (x ∷ [])) (within-past x xs (none 0 (omega arith)) ∙ run-all xs (λ k l is. none (suc k) (omega arith) is))
    ∙ after-after (x ∷ []) xs (Going [] Within)

-- What is read where the octets of a reading are pushed.
read-like : (limit : ℕ) (t : List ℕ) (n : ℕ) (p q : Place) (s : DataScan) → read_after limit (data_reading t n p) s ≡ read_after limit (data_reading t n q) s
read-like limit t n p q (Going o x) = refl
read-like limit t n p q (Ended o r) = refl

clipped-joined : (limit : ℕ) (t o more : List ℕ) → clipped limit (t ++ (o ++ more)) ≡ clipped limit (clipped limit (t ++ o) ++ more)
unfolding clipped
clipped-joined limit t o more = ap (take limit) (sym (append_assoc t o more)) ∙ take-again limit (t ++ o) more
  where
    take-again : (n : ℕ) (xs ys : List ℕ) → take n (xs ++ ys) ≡ take n (take n xs ++ ys)
    take-again zero xs ys = refl
    take-again (suc n) [] ys = refl
    take-again (suc n) (x ∷ xs) ys = ap (λ (z : List ℕ). x ∷ z) (take-again n xs ys)

least-joined : (c a b m : ℕ) → min (c + (a + b)) m ≡ min (min (c + a) m + b) m
least-joined c a b m = omega arith

counted-joined : (c : ℕ) (o more : List ℕ) → counted c (length (o ++ more)) ≡ counted (counted c (length o)) (length more)
unfolding counted
counted-joined c o more = ap (λ (k : ℕ). min (c + k) (2 ^ 64 - 1)) (length-append o more) ∙ least-joined c (length o) (length more) (2 ^ 64 - 1)

read-pushed : (limit : ℕ) (t o : List ℕ) (n : ℕ) (p q : Place) (s : DataScan)
    → read_after limit (data_reading t n p) (after o s) ≡ read_after limit (data_reading (clipped limit (t ++ o)) (counted n (length o)) q) s
read-pushed limit t o n p q (Going more x) =
    ap (λ (z : List ℕ). Unfinished (data_reading z (counted n (length (o ++ more))) x)) (clipped-joined limit t o more)
    ∙ ap (λ (k : ℕ). Unfinished (data_reading (clipped limit (clipped limit (t ++ o) ++ more)) k x)) (counted-joined n o more)
read-pushed limit t o n p q (Ended more rest) =
    ap (λ (z : List ℕ). Finished z (counted n (length (o ++ more))) rest) (clipped-joined limit t o more)
    ∙ ap (λ (k : ℕ). Finished (clipped limit (clipped limit (t ++ o) ++ more)) k rest) (counted-joined n o more)

-- A reading of no further octets.
take-least : (m : ℕ) (o : List ℕ) → take (min (length o) m) o ≡ take m o
take-least m [] = let e : min (length {A = ℕ} []) m ≡ 0 = omega arith in ap (λ (k : ℕ). take {A = ℕ} k []) e ∙ sym (take-nothing m)
  where
    take-nothing : (k : ℕ) → take {A = ℕ} k [] ≡ take {A = ℕ} 0 []
    take-nothing zero = refl
    take-nothing (suc k) = refl
take-least zero (x ∷ o) = let e : min (length (x ∷ o)) 0 ≡ 0 = omega arith in ap (λ (k : ℕ). take k (x ∷ o)) e
take-least (suc m) (x ∷ o) = let e : min (length (x ∷ o)) (suc m) ≡ suc (min (length o) m) = omega arith in ap (λ (k : ℕ). take k (x ∷ o)) e ∙ ap (λ (z : List ℕ). x ∷ z) (take-least m o)

pub clipped-none : (limit : ℕ) (t : List ℕ) → length t ≤ limit → clipped limit (t ++ []) ≡ t
unfolding clipped
clipped-none limit t short = by limit t short
  where
    by : (n : ℕ) (xs : List ℕ) → length xs ≤ n → take n (xs ++ []) ≡ xs
    by zero [] few = refl
    by zero (x ∷ xs) few = absurd (omega arith)
    by (suc n) [] few = refl
    by (suc n) (x ∷ xs) few = ap (λ (z : List ℕ). x ∷ z) (by n xs (omega arith))

pub counted-none : (c : ℕ) → c < 2 ^ 64 → counted c 0 ≡ c
unfolding counted
counted-none c small = omega arith

-- Steps of each kind.
pub moved : (r new : DataReading) (xs : List ℕ) (n : ℕ) (p q : Place) → r.place ≡ p → new ≡ placed r q → n ≤ length xs
    → 3 * length (drop n xs) + rank q < 3 * length xs + rank p → scanned p xs ≡ scanned q (drop n xs) → IsDataStep r xs (step.Went n) new
moved r new xs n p q at is few less same = subst (λ (x : DataReading). IsDataStep r xs (step.Went n) x) (sym is) (
  few,
  subst (λ (x : Place). 3 * length (drop n xs) + rank q < 3 * length xs + rank x) (sym at) less,
  ap (λ (x : Place). read_after data_limit r (scanned x xs)) at ∙ (ap (read_after data_limit r) same ∙ read-like data_limit r.text r.count r.place q (scanned q (drop n xs))),
)

pub took : (r new : DataReading) (xs o : List ℕ) (n : ℕ) (p q : Place) → r.place ≡ p → new ≡ pushed r o q → n ≤ length xs
    → 3 * length (drop n xs) + rank q < 3 * length xs + rank p → scanned p xs ≡ after o (scanned q (drop n xs)) → IsDataStep r xs (step.Went n) new
took r new xs o n p q at is few less same = subst (λ (x : DataReading). IsDataStep r xs (step.Went n) x) (sym is) (
  few,
  subst (λ (x : Place). 3 * length (drop n xs) + rank q < 3 * length xs + rank x) (sym at) less,
  ap (λ (x : Place). read_after data_limit r (scanned x xs)) at ∙ (ap (read_after data_limit r) same ∙ read-pushed data_limit r.text o r.count r.place q (scanned q (drop n xs))),
)

pub ended : (r : DataReading) (xs : List ℕ) (n : ℕ) (p : Place) → r.place ≡ p → n ≤ length xs → scanned p xs ≡ Ended [] (drop n xs) → IsDataStep r xs (step.Ended n) r
ended r xs n p at few same = (few, ap (λ (x : Place). read_after data_limit r (scanned x xs)) at ∙ ap (read_after data_limit r) same)

-- The place after less work.
pub one-less : (xs : List ℕ) (p q : Place) → 0 < length xs → 3 * length (drop 1 xs) + rank q < 3 * length xs + rank p
one-less xs p q some = let a = rank-few q in omega (arith, length-drop 1 xs, a)
  where
    rank-few : (q : Place) → rank q ≤ 2
    rank-few LineStart = omega arith
    rank-few Dot = omega arith
    rank-few DotReturn = omega arith
    rank-few Within = omega arith
    rank-few Return = omega arith

-- A run of steps.
pub drop-again : (m n : ℕ) (xs : List ℕ) → drop n (drop m xs) ≡ drop (m + n) xs
drop-again m n xs = drop-drop n m xs

pub went-on : (r a b : DataReading) (piece rest later : List ℕ) (n : ℕ) → read_on data_limit a rest ≡ read_on data_limit r piece → IsDataStep a rest (step.Went n) b → later ≡ drop n rest
    → read_on data_limit b later ≡ read_on data_limit r piece
went-on r a b piece rest later n same took is = ap (read_on data_limit b) is ∙ (sym took.2 ∙ same)

pub run-over : (r a b : DataReading) (piece rest : List ℕ) (used n : ℕ) → read_on data_limit a rest ≡ read_on data_limit r piece → IsDataStep a rest (step.Ended n) b → rest ≡ drop used piece → used ≤ length piece
    → IsRun r piece (Some (used + n)) b
run-over r a b piece rest used n same over is within =
    let few : length rest ≡ length piece - used = ap length is ∙ length-drop used piece in
    let less = over.0 in (
      omega (arith, few, less, within),
      sym same ∙ (over.1 ∙ ap (λ (x : List ℕ). read_after data_limit b (Ended [] x)) (ap (drop n) is ∙ drop-again used n piece)),
    )

pub run-paused : (r a b : DataReading) (piece rest : List ℕ) → read_on data_limit a rest ≡ read_on data_limit r piece → IsDataStep a rest step.Paused b → IsRun r piece None b
run-paused r a b piece rest same over =
    sym same ∙ (ap (read_on data_limit a) over.0 ∙ (by a.place ∙ ap (λ (x : DataReading). read_after data_limit x (Going [] x.place)) (sym over.1)))
  where
    by : (p : Place) → read_after data_limit a (scanned p []) ≡ read_after data_limit a (Going [] p)
    by LineStart = refl
    by Dot = refl
    by DotReturn = refl
    by Within = refl
    by Return = refl

-- What a run found, where what is kept has room and what is counted fits.
pub run-read : (r new : DataReading) (piece : List ℕ) (u : Option ℕ) → clipped data_limit (new.text ++ []) ≡ new.text → counted new.count 0 ≡ new.count → IsRun r piece u new → ReadsData data_limit r piece u new
run-read r new piece None kept count found = found ∙ (ap (λ (z : List ℕ). Unfinished (data_reading z (counted new.count 0) new.place)) kept
    ∙ ap (λ (k : ℕ). Unfinished (data_reading new.text k new.place)) count)
run-read r new piece (Some n) kept count found = (
  found.0,
  found.1 ∙ (ap (λ (z : List ℕ). Finished z (counted new.count 0) (drop n piece)) kept
      ∙ ap (λ (k : ℕ). Finished new.text k (drop n piece)) count),
)

-- What is kept and counted after octets were pushed.
pub pushed-kept : (limit : ℕ) (t o front : List ℕ) (n : ℕ) → length t ≤ limit → n ≡ min (length o) (limit - length t) → front ≡ take n o → t ++ front ≡ clipped limit (t ++ o)
unfolding clipped
pushed-kept limit t o front n few is part = ap (λ (x : List ℕ). t ++ x) (part ∙ ap (λ (k : ℕ). take k o) is) ∙ by limit t few
  where
    by : (m : ℕ) (xs : List ℕ) → length xs ≤ m → xs ++ take (min (length o) (m - length xs)) o ≡ take m (xs ++ o)
    by m [] few = let e : min (length o) (m - length {A = ℕ} []) ≡ min (length o) m = omega arith in ap (λ (k : ℕ). take k o) e ∙ take-least m o
    by zero (x ∷ xs) few = absurd (omega arith)
    by (suc m) (x ∷ xs) few = let e : min (length o) (suc m - length (x ∷ xs)) ≡ min (length o) (m - length xs) = omega arith in
        ap (λ (k : ℕ). x ∷ (xs ++ take k o)) e ∙ ap (λ (z : List ℕ). x ∷ z) (by m xs (omega arith))

pub pushed-count : (c n k : ℕ) → k ≡ min (c + n) (2 ^ 64 - 1) → k ≡ counted c n
unfolding counted
pushed-count c n k is = is

-- A run of octets, as steps.
pub took-run : (r new : DataReading) (xs front : List ℕ) (n : ℕ) → r.place ≡ Within → new ≡ pushed r front Return → front ≡ take (n + 1) xs → n < length xs → get_or xs n 0 ≡ 13 → ((k : ℕ) → k < n → get_or xs k 0 ≡ 13 → ⊥)
    → IsDataStep r xs (step.Went (n + 1)) new
took-run r new xs front n at is part high ends none =
    let len = length-drop (n + 1) xs in
    took r new xs (take (n + 1) xs) (n + 1) Within Return at (is ∙ ap (λ (x : List ℕ). pushed r x Return) part) (omega arith) (omega (arith, len))
    (rw add-one (run-return xs n high ends none))

pub took-all : (r new : DataReading) (xs : List ℕ) → r.place ≡ Within → new ≡ pushed r xs Within → 0 < length xs → ((k : ℕ) → k < length xs → get_or xs k 0 ≡ 13 → ⊥) → IsDataStep r xs (step.Went (length xs)) new
took-all r new xs at is some none =
    let len = length-drop (length xs) xs in
    took r new xs xs (length xs) Within Within at is (omega arith) (omega (arith, len))
    (run-all xs none ∙ ap (λ (x : List ℕ). after xs (scanned Within x)) (sym (drop-all xs)))
  where
    drop-all : (ys : List ℕ) → drop (length ys) ys ≡ []
    drop-all [] = refl
    drop-all (y ∷ ys) = drop-all ys

-- What is kept where the list has room.
pub if-ok : (b : Bool) (x a y : List ℕ) → b ≡ true → x ≡ (if b then a else y) → x ≡ a
if-ok true x a y e f = f
if-ok false x a y e f = absurd (cc)

pub pushed-view : (r : DataReading) (t : List ℕ) (n : ℕ) (p q : Place) (o front new : List ℕ) (m k : ℕ) → data_reading t n p ≡ r → length t ≤ data_limit → new ≡ t ++ front → front ≡ take m o → m ≡ min (length o) (data_limit - length t)
    → k ≡ min (n + length o) (2 ^ 64 - 1) → data_reading new k q ≡ pushed r o q
pushed-view r t n p q o front new m k view few joined part is count = subst (λ (x : DataReading). data_reading new k q ≡ pushed x o q) view
    (ap (λ (z : List ℕ). data_reading z k q) (joined ∙ pushed-kept data_limit t o front m few is part)
    ∙ ap (λ (c : ℕ). data_reading (clipped data_limit (t ++ o)) c q) (pushed-count n (length o) k count))
