-- What was read of data goes on with more bytes.
use Rattle.std.proofs.Common.{◌≡◌, ◌+◌, ◌-◌, ◌^◌, ℕ, zero, suc, List, [], ◌∷◌, ◌++◌, length, take, min, refl, sym, ap, ◌∙◌, append_assoc, length-append, arith}
use Rattle.lmtp_data.specs.Data.{DataScan, Going, Ended, after, scanned, then_scanned}
use Rattle.lmtp_data.specs.declared.place.Place.{Place}
use Rattle.lmtp_data.specs.Readings.{DataReading, data_reading, clipped, counted, Unfinished, Finished, read_after, read_on}
use Rattle.lmtp_data.proofs.Scans.{scan-cut}

-- The front of a front, and of what follows it.
pub take-again : (n : ℕ) (xs ys : List ℕ) → take n (xs ++ ys) ≡ take n (take n xs ++ ys)
take-again zero xs ys = refl
take-again (suc n) [] ys = refl
take-again (suc n) (x ∷ xs) ys = ap (λ (z : List ℕ). x ∷ z) (take-again n xs ys)

clipped-joined : (limit : ℕ) (t o more : List ℕ) → clipped limit (t ++ (o ++ more)) ≡ clipped limit (clipped limit (t ++ o) ++ more)
unfolding clipped
clipped-joined limit t o more = ap (take limit) (sym (append_assoc t o more)) ∙ take-again limit (t ++ o) more

least-joined : (c a b m : ℕ) → min (c + (a + b)) m ≡ min (min (c + a) m + b) m
least-joined c a b m = omega arith

counted-joined : (c : ℕ) (o more : List ℕ) → counted c (length (o ++ more)) ≡ counted (counted c (length o)) (length more)
unfolding counted
counted-joined c o more = ap (λ (k : ℕ). min (c + k) (2 ^ 64 - 1)) (length-append o more) ∙ least-joined c (length o) (length more) (2 ^ 64 - 1)

-- A reading of octets, and then of more.
read-joined : (limit : ℕ) (r new : DataReading) (at : Place) (o : List ℕ) (s : DataScan) → data_reading (clipped limit (r.text ++ o)) (counted r.count (length o)) at ≡ new → read_after limit r (after o s) ≡ read_after limit new s
read-joined limit r new at o (Going more p) is =
    ap (λ (z : List ℕ). Unfinished (data_reading z (counted r.count (length (o ++ more))) p)) (clipped-joined limit r.text o more)
    ∙ ap (λ (k : ℕ). Unfinished (data_reading (clipped limit (clipped limit (r.text ++ o) ++ more)) k p)) (counted-joined r.count o more)
    ∙ ap (λ (x : DataReading). Unfinished (data_reading (clipped limit (x.text ++ more)) (counted x.count (length more)) p)) is
read-joined limit r new at o (Ended more rest) is =
    ap (λ (z : List ℕ). Finished z (counted r.count (length (o ++ more))) rest) (clipped-joined limit r.text o more)
    ∙ ap (λ (k : ℕ). Finished (clipped limit (clipped limit (r.text ++ o) ++ more)) k rest) (counted-joined r.count o more)
    ∙ ap (λ (x : DataReading). Finished (clipped limit (x.text ++ more)) (counted x.count (length more)) rest) is

after-on : (limit : ℕ) (r new : DataReading) (q : List ℕ) (s : DataScan) → read_after limit r s ≡ Unfinished new → read_on limit new q ≡ read_after limit r (then_scanned s q)
after-on limit r new q (Going o p) e =
    let is : data_reading (clipped limit (r.text ++ o)) (counted r.count (length o)) p ≡ new = cc in
    let place : p ≡ new.place = ap (λ (x : DataReading). x.place) is in
    sym (read-joined limit r new p o (scanned p q) is ∙ ap (λ (x : Place). read_after limit new (scanned x q)) place)
after-on limit r new q (Ended o rest) e = absurd (cc e)

-- Data that goes on, and then more bytes.
pub read-on : (limit : ℕ) (r new : DataReading) (bytes q : List ℕ) → read_on limit r bytes ≡ Unfinished new → read_on limit new q ≡ read_on limit r (bytes ++ q)
read-on limit r new bytes q e = after-on limit r new q (scanned r.place bytes) e ∙ sym (ap (read_after limit r) (scan-cut r.place bytes q))
