-- What bytes of the data say from a place on, one step at a time, and how they are cut.
use Rattle.std.proofs.Common.{◌≡◌, ℕ, List, [], ◌∷◌, ◌++◌, eqb, Bool, true, false, refl, sym, ap, ◌∙◌, append_assoc}
use Rattle.std.specs.Prelude.{if◌then◌else◌}
use Rattle.lmtp_data.specs.Data.{DataScan, Going, Ended, after, past, scanned, then_scanned}
use Rattle.lmtp_data.specs.DataLaws.{DataCutLaw}
use Rattle.lmtp_data.specs.declared.place.Place.{Place}
use Rattle.lmtp_data.specs.declared.place.Place.TheVariants.{LineStart, Dot, DotReturn, Within, Return}

pub after-after : (a b : List ℕ) (s : DataScan) → after a (after b s) ≡ after (a ++ b) s
after-after a b (Going o p) = ap (λ (x : List ℕ). Going x p) (sym (append_assoc a b o))
after-after a b (Ended o r) = ap (λ (x : List ℕ). Ended x r) (sym (append_assoc a b o))

pub after-none : (s : DataScan) → after [] s ≡ s
after-none (Going o p) = refl
after-none (Ended o r) = refl

-- The places that are left without a byte.
pub line-within : (b : ℕ) (bs : List ℕ) → eqb b 46 ≡ false → scanned LineStart (b ∷ bs) ≡ scanned Within (b ∷ bs)
line-within b bs e = ap (λ (t : Bool). if t then scanned Dot bs else after (b ∷ []) (scanned (past b) bs)) e

pub line-dot : (b : ℕ) (bs : List ℕ) → eqb b 46 ≡ true → scanned LineStart (b ∷ bs) ≡ scanned Dot bs
line-dot b bs e = ap (λ (t : Bool). if t then scanned Dot bs else after (b ∷ []) (scanned (past b) bs)) e

past-within : (b : ℕ) (bs : List ℕ) → eqb b 13 ≡ false → scanned Within bs ≡ scanned (past b) bs
past-within b bs e = sym (ap (λ (t : Bool). scanned (if t then Return else Within) bs) e)

pub dot-within : (b : ℕ) (bs : List ℕ) → eqb b 13 ≡ false → scanned Dot (b ∷ bs) ≡ scanned Within (b ∷ bs)
dot-within b bs e = ap (λ (t : Bool). if t then scanned DotReturn bs else after (b ∷ []) (scanned Within bs)) e
    ∙ ap (after (b ∷ [])) (past-within b bs e)

pub dot-return : (b : ℕ) (bs : List ℕ) → eqb b 13 ≡ true → scanned Dot (b ∷ bs) ≡ scanned DotReturn bs
dot-return b bs e = ap (λ (t : Bool). if t then scanned DotReturn bs else after (b ∷ []) (scanned Within bs)) e

pub return-within : (b : ℕ) (bs : List ℕ) → eqb b 10 ≡ false → scanned Return (b ∷ bs) ≡ scanned Within (b ∷ bs)
return-within b bs e = ap (λ (t : Bool). after (b ∷ []) (scanned (if t then LineStart else past b) bs)) e

pub return-line : (b : ℕ) (bs : List ℕ) → eqb b 10 ≡ true → scanned Return (b ∷ bs) ≡ after (b ∷ []) (scanned LineStart bs)
return-line b bs e = ap (λ (t : Bool). after (b ∷ []) (scanned (if t then LineStart else past b) bs)) e

pub dot_return-ends : (b : ℕ) (bs : List ℕ) → eqb b 10 ≡ true → scanned DotReturn (b ∷ bs) ≡ Ended [] bs
dot_return-ends b bs e = ap (λ (t : Bool). if t then Ended [] bs else after (13 ∷ b ∷ []) (scanned (past b) bs)) e

pub dot_return-return : (b : ℕ) (bs : List ℕ) → eqb b 10 ≡ false → scanned DotReturn (b ∷ bs) ≡ after (13 ∷ []) (scanned Return (b ∷ bs))
dot_return-return b bs e =
    ap (λ (t : Bool). if t then Ended [] bs else after (13 ∷ b ∷ []) (scanned (past b) bs)) e
    ∙ sym (ap (after (13 ∷ [])) (return-within b bs e) ∙ after-after (13 ∷ []) (b ∷ []) (scanned (past b) bs))

-- Cutting.
then-after : (o : List ℕ) (s : DataScan) (more : List ℕ) → then_scanned (after o s) more ≡ after o (then_scanned s more)
then-after o (Going m p) more = sym (after-after o m (scanned p more))
then-after o (Ended m r) more = refl

either-cut : (t : Bool) (a b x y : DataScan) (more : List ℕ) → a ≡ then_scanned x more → b ≡ then_scanned y more
    → (if t then a else b) ≡ then_scanned (if t then x else y) more
either-cut true a b x y more e f = e
either-cut false a b x y more e f = f

after-cut : (o : List ℕ) (a x : DataScan) (more : List ℕ) → a ≡ then_scanned x more → after o a ≡ then_scanned (after o x) more
after-cut o a x more e = ap (after o) e ∙ sym (then-after o x more)

pub scan-cut : DataCutLaw
scan-cut LineStart [] more = sym (after-none (scanned LineStart more))
scan-cut Dot [] more = sym (after-none (scanned Dot more))
scan-cut DotReturn [] more = sym (after-none (scanned DotReturn more))
scan-cut Within [] more = sym (after-none (scanned Within more))
scan-cut Return [] more = sym (after-none (scanned Return more))
scan-cut LineStart (b ∷ bs) more = either-cut (eqb b 46) (scanned Dot (bs ++ more)) (after (b ∷ []) (scanned (past b) (bs ++ more))) (scanned Dot bs) (after (b ∷ []) (scanned (past b) bs)) more
    (scan-cut Dot bs more) (after-cut (b ∷ []) (scanned (past b) (bs ++ more)) (scanned (past b) bs) more (scan-cut (past b) bs more))
scan-cut Dot (b ∷ bs) more = either-cut (eqb b 13) (scanned DotReturn (bs ++ more)) (after (b ∷ []) (scanned Within (bs ++ more))) (scanned DotReturn bs) (after (b ∷ []) (scanned Within bs)) more
    (scan-cut DotReturn bs more) (after-cut (b ∷ []) (scanned Within (bs ++ more)) (scanned Within bs) more (scan-cut Within bs more))
scan-cut DotReturn (b ∷ bs) more = either-cut (eqb b 10) (Ended [] (bs ++ more)) (after (13 ∷ b ∷ []) (scanned (past b) (bs ++ more))) (Ended [] bs) (after (13 ∷ b ∷ []) (scanned (past b) bs)) more
    refl (after-cut (13 ∷ b ∷ []) (scanned (past b) (bs ++ more)) (scanned (past b) bs) more (scan-cut (past b) bs more))
scan-cut Within (b ∷ bs) more = after-cut (b ∷ []) (scanned (past b) (bs ++ more)) (scanned (past b) bs) more (scan-cut (past b) bs more)
scan-cut Return (b ∷ bs) more = after-cut (b ∷ []) (scanned (if eqb b 10 then LineStart else past b) (bs ++ more)) (scanned (if eqb b 10 then LineStart else past b) bs) more (scan-cut (if eqb b 10 then LineStart else past b) bs more)
