-- What bytes after those that are read change, and how long what follows the data is.
use Rattle.std.proofs.Common.{◌≡◌, ◌<◌, ℕ, suc, List, [], ◌∷◌, ◌++◌, length, eqb, Bool, true, false, refl, sym, ap, ◌∙◌, arith}
use Rattle.std.specs.Prelude.{if◌then◌else◌}
use Rattle.lmtp_data.specs.Data.{DataScan, Going, Ended, after, past, scanned, then_scanned}
use Rattle.lmtp_data.specs.Readings.{DataReading, clipped, counted, DataRead, Unfinished, Finished, read_after, read_on}
use Rattle.lmtp_data.specs.declared.place.Place.{Place}
use Rattle.lmtp_data.specs.declared.place.Place.TheVariants.{LineStart, Dot, DotReturn, Within, Return}
use Rattle.lmtp_data.proofs.Scans.{scan-cut}

-- Data that has ended stays what it is when more bytes follow.
after-more : (limit : ℕ) (r : DataReading) (q : List ℕ) (s : DataScan) (text : List ℕ) (count : ℕ) (rest : List ℕ) → read_after limit r s ≡ Finished text count rest → read_after limit r (then_scanned s q) ≡ Finished text count (rest ++ q)
after-more limit r q (Going o p) text count rest e = absurd (cc)
after-more limit r q (Ended o left) text count rest e =
    let a : clipped limit (r.text ++ o) ≡ text = cc in
    let b : counted r.count (length o) ≡ count = cc in
    let d : left ≡ rest = cc in
    ap (λ (x : List ℕ). Finished x (counted r.count (length o)) (left ++ q)) a
    ∙ (ap (λ (x : ℕ). Finished text x (left ++ q)) b ∙ ap (λ (x : List ℕ). Finished text count (x ++ q)) d)

pub read-more : (limit : ℕ) (r : DataReading) (bytes q text : List ℕ) (count : ℕ) (rest : List ℕ) → read_on limit r bytes ≡ Finished text count rest → read_on limit r (bytes ++ q) ≡ Finished text count (rest ++ q)
read-more limit r bytes q text count rest e =
    ap (read_after limit r) (scan-cut r.place bytes q) ∙ after-more limit r q (scanned r.place bytes) text count rest e

-- The bytes after the end of the data are fewer.
after-shorter : (o : List ℕ) (s : DataScan) (n : ℕ) → ((m rest : List ℕ) → s ≡ Ended m rest → length rest < n) → (m rest : List ℕ) → after o s ≡ Ended m rest → length rest < n
after-shorter o (Going x p) n h m rest e = absurd (cc)
after-shorter o (Ended x left) n h m rest e = let d : left ≡ rest = cc in let l = h x left refl in omega (arith, l, ap length d)

either-shorter : (t : Bool) (a b : DataScan) (n : ℕ) → ((m rest : List ℕ) → a ≡ Ended m rest → length rest < n) → ((m rest : List ℕ) → b ≡ Ended m rest → length rest < n)
    → (m rest : List ℕ) → (if t then a else b) ≡ Ended m rest → length rest < n
either-shorter true a b n f g m rest e = f m rest e
either-shorter false a b n f g m rest e = g m rest e

grown : (n : ℕ) (s : DataScan) → ((m rest : List ℕ) → s ≡ Ended m rest → length rest < n) → (m rest : List ℕ) → s ≡ Ended m rest → length rest < suc n
grown n s h m rest e = let l = h m rest e in omega (arith, l)

pub scan-shorter : (p : Place) (bytes m rest : List ℕ) → scanned p bytes ≡ Ended m rest → length rest < length bytes
scan-shorter LineStart [] m rest e = absurd (cc)
scan-shorter Dot [] m rest e = absurd (cc)
scan-shorter DotReturn [] m rest e = absurd (cc)
scan-shorter Within [] m rest e = absurd (cc)
scan-shorter Return [] m rest e = absurd (cc)
scan-shorter LineStart (b ∷ bs) m rest e = either-shorter (eqb b 46) (scanned Dot bs) (after (b ∷ []) (scanned (past b) bs)) (suc (length bs))
    (grown (length bs) (scanned Dot bs) (scan-shorter Dot bs)) (after-shorter (b ∷ []) (scanned (past b) bs) (suc (length bs)) (grown (length bs) (scanned (past b) bs) (scan-shorter (past b) bs))) m rest e
scan-shorter Dot (b ∷ bs) m rest e = either-shorter (eqb b 13) (scanned DotReturn bs) (after (b ∷ []) (scanned Within bs)) (suc (length bs))
    (grown (length bs) (scanned DotReturn bs) (scan-shorter DotReturn bs)) (after-shorter (b ∷ []) (scanned Within bs) (suc (length bs)) (grown (length bs) (scanned Within bs) (scan-shorter Within bs))) m rest e
scan-shorter DotReturn (b ∷ bs) m rest e = either-shorter (eqb b 10) (Ended [] bs) (after (13 ∷ b ∷ []) (scanned (past b) bs)) (suc (length bs))
    (λ x y f. let d : bs ≡ y = cc in omega (arith, ap length d)) (after-shorter (13 ∷ b ∷ []) (scanned (past b) bs) (suc (length bs)) (grown (length bs) (scanned (past b) bs) (scan-shorter (past b) bs))) m rest e
scan-shorter Within (b ∷ bs) m rest e = after-shorter (b ∷ []) (scanned (past b) bs) (suc (length bs)) (grown (length bs) (scanned (past b) bs) (scan-shorter (past b) bs)) m rest e
scan-shorter Return (b ∷ bs) m rest e = after-shorter (b ∷ []) (scanned (if eqb b 10 then LineStart else past b) bs) (suc (length bs)) (grown (length bs) (scanned (if eqb b 10 then LineStart else past b) bs) (scan-shorter (if eqb b 10 then LineStart else past b) bs)) m rest e

read-scan : (limit : ℕ) (r : DataReading) (s : DataScan) (text : List ℕ) (count : ℕ) (rest : List ℕ) → read_after limit r s ≡ Finished text count rest → (m : List ℕ) × (s ≡ Ended m rest)
read-scan limit r (Going o p) text count rest e = absurd (cc)
read-scan limit r (Ended o left) text count rest e = (o, (let d : left ≡ rest = cc in ap (Ended o) d))

pub read-shorter : (limit : ℕ) (r : DataReading) (bytes text : List ℕ) (count : ℕ) (rest : List ℕ) → read_on limit r bytes ≡ Finished text count rest → length rest < length bytes
read-shorter limit r bytes text count rest e = let f = read-scan limit r (scanned r.place bytes) text count rest e in scan-shorter r.place bytes f.0 rest f.1
