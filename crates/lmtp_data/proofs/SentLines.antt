-- The data is the lines that were sent, without the dots at their starts.
use Rattle.std.proofs.Common.{◌≡◌, ◌≢◌, ◌<◌, ◌⊎◌, ◌&&◌, ℕ, zero, suc, List, [], ◌∷◌, ◌++◌, length, eqb, Bool, true, false, refl, sym, ap, subst, ◌∙◌, inl, inr, append_assoc, length-append, arith}
use Rattle.std.specs.Prelude.{if◌then◌else◌}
use Rattle.std.proofs.lemmas.Bool.{eqb-true, eq-eqb}
use Rattle.lmtp_data.specs.Data.{DataScan, Going, Ended, after, past, scanned, then_scanned}
use Rattle.lmtp_data.specs.DataLaws.{HasNoLineEnd, AreSentLines, sent, undotted, received, SentLinesLaw, DataLaws}
use Rattle.lmtp_data.specs.declared.place.Place.TheVariants.{LineStart, Dot, DotReturn, Within, Return}
use Rattle.lmtp_data.proofs.Scans.{after-after, line-within, line-dot, dot-within, dot-return, return-within, dot_return-return, scan-cut}

tail-no : (b : ℕ) (l : List ℕ) → HasNoLineEnd (b ∷ l) → HasNoLineEnd l
tail-no b l h = λ before behind e. h (b ∷ before) behind (ap (λ (x : List ℕ). b ∷ x) e)

no-feed : (b c : ℕ) (l : List ℕ) → HasNoLineEnd (b ∷ c ∷ l) → eqb b 13 ≡ true → eqb c 10 ≡ false
no-feed b c l h e = by (eqb c 10) refl
  where
    by : (u : Bool) → eqb c 10 ≡ u → u ≡ false
    by false f = refl
    by true f = absurd (h [] l (let p : b ≡ 13 = eqb-true b 13 e in let q : c ≡ 10 = eqb-true c 10 f in cc))

-- One octet more of a line, where the one before it doesn't end it with this one.
place-step : (t : Bool) (c : ℕ) (rest : List ℕ) → (t ≡ true → eqb c 10 ≡ false) → scanned (if t then Return else Within) (c ∷ rest) ≡ after (c ∷ []) (scanned (past c) rest)
place-step true c rest h = return-within c rest (h refl)
place-step false c rest h = refl

line-ends : (t : Bool) (tail : List ℕ) → scanned (if t then Return else Within) (13 ∷ 10 ∷ tail) ≡ after (13 ∷ 10 ∷ []) (scanned LineStart tail)
line-ends true tail = after-after (13 ∷ []) (10 ∷ []) (scanned LineStart tail)
line-ends false tail = after-after (13 ∷ []) (10 ∷ []) (scanned LineStart tail)

-- The rest of a line after this octet of it.
past-line : (b : ℕ) (l tail : List ℕ) → HasNoLineEnd (b ∷ l) → scanned (past b) (l ++ 13 ∷ 10 ∷ tail) ≡ after (l ++ 13 ∷ 10 ∷ []) (scanned LineStart tail)
past-line b [] tail h = line-ends (eqb b 13) tail
past-line b (c ∷ l) tail h = place-step (eqb b 13) c (l ++ 13 ∷ 10 ∷ tail) (no-feed b c l h)
    ∙ (ap (after (c ∷ [])) (past-line c l tail (tail-no b (c ∷ l) h))
    ∙ after-after (c ∷ []) (l ++ 13 ∷ 10 ∷ []) (scanned LineStart tail))

-- The same with the octet itself.
whole-line : (b : ℕ) (l tail : List ℕ) → HasNoLineEnd (b ∷ l) → scanned Within (b ∷ (l ++ 13 ∷ 10 ∷ tail)) ≡ after (b ∷ (l ++ 13 ∷ 10 ∷ [])) (scanned LineStart tail)
whole-line b l tail h = ap (after (b ∷ [])) (past-line b l tail h) ∙ after-after (b ∷ []) (l ++ 13 ∷ 10 ∷ []) (scanned LineStart tail)

-- The rest of a line after a dot and a carriage return, which don't end the data.
dotted-return : (c : ℕ) (l tail : List ℕ) → c ≡ 13 → HasNoLineEnd (c ∷ l) → scanned DotReturn (l ++ 13 ∷ 10 ∷ tail) ≡ after (13 ∷ []) (scanned Return (l ++ 13 ∷ 10 ∷ tail))
dotted-return c [] tail e h = dot_return-return 13 (10 ∷ tail) refl
dotted-return c (d ∷ l) tail e h = dot_return-return d (l ++ 13 ∷ 10 ∷ tail) (no-feed c d l h (eq-eqb c 13 e))

dotted-line : (c : ℕ) (l tail : List ℕ) → HasNoLineEnd (c ∷ l) → scanned Dot (c ∷ (l ++ 13 ∷ 10 ∷ tail)) ≡ after (c ∷ (l ++ 13 ∷ 10 ∷ [])) (scanned LineStart tail)
dotted-line c l tail h = by (eqb c 13) refl
  where
    by : (u : Bool) → eqb c 13 ≡ u → scanned Dot (c ∷ (l ++ 13 ∷ 10 ∷ tail)) ≡ after (c ∷ (l ++ 13 ∷ 10 ∷ [])) (scanned LineStart tail)
    by false f = dot-within c (l ++ 13 ∷ 10 ∷ tail) f ∙ whole-line c l tail h
    by true f =
        let e : c ≡ 13 = eqb-true c 13 f in
        dot-return c (l ++ 13 ∷ 10 ∷ tail) f
        ∙ (dotted-return c l tail e h
        ∙ (ap (λ (x : ℕ). after (x ∷ []) (scanned Return (l ++ 13 ∷ 10 ∷ tail))) (sym e)
        ∙ (ap (λ (t : Bool). after (c ∷ []) (scanned (if t then Return else Within) (l ++ 13 ∷ 10 ∷ tail))) (sym f)
        ∙ whole-line c l tail h)))

-- A line.
start-line : (l tail : List ℕ) → HasNoLineEnd l → l ≢ 46 ∷ [] → scanned LineStart (l ++ 13 ∷ 10 ∷ tail) ≡ after (undotted l ++ 13 ∷ 10 ∷ []) (scanned LineStart tail)
start-line [] tail h other = after-after (13 ∷ []) (10 ∷ []) (scanned LineStart tail)
start-line (b ∷ l) tail h other = by (eqb b 46) refl
  where
    rest : (m : List ℕ) → l ≡ m → eqb b 46 ≡ true → scanned Dot (m ++ 13 ∷ 10 ∷ tail) ≡ after (m ++ 13 ∷ 10 ∷ []) (scanned LineStart tail)
    rest [] e f = absurd (other (let p : b ≡ 46 = eqb-true b 46 f in cc))
    rest (c ∷ m) e f = dotted-line c m tail (subst HasNoLineEnd e (tail-no b l h))

    by : (u : Bool) → eqb b 46 ≡ u → scanned LineStart (b ∷ (l ++ 13 ∷ 10 ∷ tail)) ≡ after ((if eqb b 46 then l else b ∷ l) ++ 13 ∷ 10 ∷ []) (scanned LineStart tail)
    by false f = line-within b (l ++ 13 ∷ 10 ∷ tail) f ∙ (whole-line b l tail h
        ∙ ap (λ (t : Bool). after ((if t then l else b ∷ l) ++ 13 ∷ 10 ∷ []) (scanned LineStart tail)) (sym f))
    by true f = line-dot b (l ++ 13 ∷ 10 ∷ tail) f ∙ (rest l refl f
        ∙ ap (λ (t : Bool). after ((if t then l else b ∷ l) ++ 13 ∷ 10 ∷ []) (scanned LineStart tail)) (sym f))

-- Lines and a line of one dot are the data.
pub lines-scanned : (lines : List (List ℕ)) (rest : List ℕ) → AreSentLines lines → scanned LineStart (sent lines (46 ∷ 13 ∷ 10 ∷ rest)) ≡ Ended (received lines) rest
lines-scanned [] rest are = refl
lines-scanned (l ∷ ls) rest are = start-line l (sent ls (46 ∷ 13 ∷ 10 ∷ rest)) are.0 are.1
    ∙ (ap (after (undotted l ++ 13 ∷ 10 ∷ [])) (lines-scanned ls rest are.2)
    ∙ ap (λ (x : List ℕ). Ended x rest) (append_assoc (undotted l) (13 ∷ 10 ∷ []) (received ls)))

-- The first line of bytes, if a line ends in them.
abbrev starts_feed : List ℕ → Bool
starts_feed [] = false
starts_feed (c ∷ cs) = eqb c 10

no-end-none : HasNoLineEnd []
no-end-none = λ before behind e. by before behind e
  where
    by : (before behind : List ℕ) → [] ≡ before ++ 13 ∷ 10 ∷ behind → ⊥
    by [] behind e = cc
    by (x ∷ xs) behind e = cc

no-end-cons : (b : ℕ) (bs : List ℕ) → (starts_feed bs && eqb b 13) ≡ false → HasNoLineEnd bs → HasNoLineEnd (b ∷ bs)
no-end-cons b bs f h = λ before behind e. by before behind e
  where
    by : (before behind : List ℕ) → b ∷ bs ≡ before ++ 13 ∷ 10 ∷ behind → ⊥
    by [] behind e =
        let p : b ≡ 13 = cc in
        let q : bs ≡ 10 ∷ behind = cc in
        let t : (starts_feed (10 ∷ behind) && eqb 13 13) ≡ false = subst (λ (x : ℕ). (starts_feed (10 ∷ behind) && eqb x 13) ≡ false) p (subst (λ (x : List ℕ). (starts_feed x && eqb b 13) ≡ false) q f) in
        absurd (let z : true ≡ false = t in cc)
    by (x ∷ xs) behind e = h xs behind (let q : bs ≡ xs ++ 13 ∷ 10 ∷ behind = cc in q)

feed-part : (b : ℕ) (l tail : List ℕ) → (starts_feed (l ++ tail) && eqb b 13) ≡ false → (starts_feed l && eqb b 13) ≡ false
feed-part b [] tail f = refl
feed-part b (c ∷ cs) tail f = f

-- No line ends in the bytes, or this one is the first.
abbrev FirstLine : List ℕ → Type 0
FirstLine bytes = HasNoLineEnd bytes ⊎ ((l : List ℕ) × (tail : List ℕ) × (bytes ≡ l ++ 13 ∷ 10 ∷ tail) × HasNoLineEnd l)

both-true : (s t : Bool) → (s && t) ≡ true → (s ≡ true) × (t ≡ true)
both-true true true e = (refl, refl)
both-true true false e = absurd (cc)
both-true false t e = absurd (cc)

fed : (b : ℕ) (bs : List ℕ) → starts_feed bs ≡ true → eqb b 13 ≡ true → FirstLine (b ∷ bs)
fed b [] e f = absurd (cc)
fed b (c ∷ cs) e f = inr ([], cs, (let p : b ≡ 13 = eqb-true b 13 f in let q : c ≡ 10 = eqb-true c 10 e in cc), no-end-none)

first-line : (bytes : List ℕ) → FirstLine bytes
first-line [] = inl no-end-none
first-line (b ∷ bs) = by (starts_feed bs && eqb b 13) refl (first-line bs)
  where
    by : (u : Bool) → (starts_feed bs && eqb b 13) ≡ u → FirstLine bs → FirstLine (b ∷ bs)
    by true f found = let t = both-true (starts_feed bs) (eqb b 13) f in fed b bs t.0 t.1
    by false f (inl h) = inl (no-end-cons b bs f h)
    by false f (inr p) = inr (
      b ∷ p.0,
      p.1,
      ap (λ (x : List ℕ). b ∷ x) p.2,
      no-end-cons b p.0 (feed-part b p.0 (13 ∷ 10 ∷ p.1) (subst (λ (x : List ℕ). (starts_feed x && eqb b 13) ≡ false) p.2 f)) p.3,
    )

-- Bytes in which no line ends don't end the data.
abbrev is_over : DataScan → Bool
is_over (Going o p) = false
is_over (Ended o r) = true

over-after : (o : List ℕ) (s : DataScan) → is_over (after o s) ≡ is_over s
over-after o (Going m p) = refl
over-after o (Ended m r) = refl

is-dot : (l : List ℕ) → (l ≡ 46 ∷ []) ⊎ (l ≢ 46 ∷ [])
is-dot [] = inr (λ e. cc)
is-dot (b ∷ c ∷ l) = inr (λ e. cc)
is-dot (b ∷ []) = by (eqb b 46) refl
  where
    by : (u : Bool) → eqb b 46 ≡ u → (b ∷ [] ≡ 46 ∷ []) ⊎ (b ∷ [] ≢ 46 ∷ [])
    by true f = inl (let p : b ≡ 46 = eqb-true b 46 f in cc)
    by false f = inr (λ e. let p : b ≡ 46 = cc in let q = eq-eqb b 46 p in let z : true ≡ false = sym q ∙ f in cc)

never-over : (bytes octets rest : List ℕ) → HasNoLineEnd bytes → scanned LineStart bytes ≡ Ended octets rest → ⊥
never-over bytes octets rest h e = by (is-dot bytes)
  where
    by : (bytes ≡ 46 ∷ []) ⊎ (bytes ≢ 46 ∷ []) → ⊥
    by (inl dot) = let f : scanned LineStart (46 ∷ []) ≡ Ended octets rest = subst (λ (x : List ℕ). scanned LineStart x ≡ Ended octets rest) dot e in
        let g : Going [] Dot ≡ Ended octets rest = f in cc
    by (inr other) =
        let whole : Ended octets (rest ++ 13 ∷ 10 ∷ []) ≡ after (undotted bytes ++ 13 ∷ 10 ∷ []) (scanned LineStart []) =
        sym (scan-cut LineStart bytes (13 ∷ 10 ∷ []) ∙ ap (λ (s : DataScan). then_scanned s (13 ∷ 10 ∷ [])) e) ∙ start-line bytes [] h other in
        let g : true ≡ false = ap is_over whole ∙ over-after (undotted bytes ++ 13 ∷ 10 ∷ []) (scanned LineStart []) in cc

-- Data that has ended is lines.
abbrev AreLines : List ℕ → List ℕ → List ℕ → Type 0
AreLines bytes octets rest = (lines : List (List ℕ)) × AreSentLines lines
    × (bytes ≡ sent lines (46 ∷ 13 ∷ 10 ∷ rest)) × (octets ≡ received lines)

after-ended : (o octets rest : List ℕ) (s : DataScan) → after o s ≡ Ended octets rest → (more : List ℕ) × (s ≡ Ended more rest) × (octets ≡ o ++ more)
after-ended o octets rest (Going m p) e = absurd (cc)
after-ended o octets rest (Ended m r) e = (m, (let f : r ≡ rest = cc in ap (Ended m) f), (let g : o ++ m ≡ octets = cc in sym g))

one-more : (l tail octets rest : List ℕ) (o more : List ℕ) → HasNoLineEnd l → l ≢ 46 ∷ [] → octets ≡ (undotted l ++ 13 ∷ 10 ∷ []) ++ more → AreLines tail more rest → AreLines (l ++ 13 ∷ 10 ∷ tail) octets rest
one-more l tail octets rest o more h other e are = (
  l ∷ are.0,
  (h, other, are.1),
  ap (λ (x : List ℕ). l ++ 13 ∷ 10 ∷ x) are.2,
  e ∙ (append_assoc (undotted l) (13 ∷ 10 ∷ []) more ∙ ap (λ (x : List ℕ). undotted l ++ 13 ∷ 10 ∷ x) are.3),
)

lines-found : (n : ℕ) (bytes octets rest : List ℕ) → length bytes < n → scanned LineStart bytes ≡ Ended octets rest → AreLines bytes octets rest
lines-found zero bytes octets rest few e = absurd (omega arith)
lines-found (suc n) bytes octets rest few e = by (λ tail more short f. lines-found n tail more rest short f) (first-line bytes)
  where
    dotted : (l tail : List ℕ) → bytes ≡ l ++ 13 ∷ 10 ∷ tail → l ≡ 46 ∷ [] → AreLines bytes octets rest
    dotted l tail is dot =
        let whole : bytes ≡ 46 ∷ 13 ∷ 10 ∷ tail = is ∙ ap (λ (x : List ℕ). x ++ 13 ∷ 10 ∷ tail) dot in
        let f : Ended [] tail ≡ Ended octets rest = subst (λ (x : List ℕ). scanned LineStart x ≡ Ended octets rest) whole e in
        let g : tail ≡ rest = cc in
        let k : octets ≡ [] = cc in
        ([], tt, whole ∙ ap (λ (x : List ℕ). 46 ∷ 13 ∷ 10 ∷ x) g, k)

    lined : ((tail more : List ℕ) → length tail < n → scanned LineStart tail ≡ Ended more rest → AreLines tail more rest) → (l tail : List ℕ) → bytes ≡ l ++ 13 ∷ 10 ∷ tail → HasNoLineEnd l → l ≢ 46 ∷ [] → AreLines bytes octets rest
    lined again l tail is h other =
        let f = after-ended (undotted l ++ 13 ∷ 10 ∷ []) octets rest (scanned LineStart tail) (sym (start-line l tail h other) ∙ (ap (scanned LineStart) (sym is) ∙ e)) in
        let short : length tail < n = omega (arith, ap length is, length-append l (13 ∷ 10 ∷ tail)) in
        subst (λ (x : List ℕ). AreLines x octets rest) (sym is) (one-more l tail octets rest [] f.0 h other f.2 (again tail f.0 short f.1))

    choose : ((tail more : List ℕ) → length tail < n → scanned LineStart tail ≡ Ended more rest → AreLines tail more rest) → (l tail : List ℕ) → bytes ≡ l ++ 13 ∷ 10 ∷ tail → HasNoLineEnd l → (l ≡ 46 ∷ []) ⊎ (l ≢ 46 ∷ []) → AreLines bytes octets rest
    choose again l tail is h (inl dot) = dotted l tail is dot
    choose again l tail is h (inr other) = lined again l tail is h other

    by : ((tail more : List ℕ) → length tail < n → scanned LineStart tail ≡ Ended more rest → AreLines tail more rest) → FirstLine bytes → AreLines bytes octets rest
    by again (inl h) = absurd (never-over bytes octets rest h e)
    by again (inr p) = choose again p.0 p.1 p.2 p.3 (is-dot p.0)

pub sent-lines : SentLinesLaw
sent-lines bytes octets rest = (
  λ e. lines-found (suc (length bytes)) bytes octets rest (omega arith) e,
  λ p. ap (scanned LineStart) p.2 ∙ (lines-scanned p.0 rest p.1 ∙ ap (λ (x : List ℕ). Ended x rest) (sym p.3)),
)

pub all_data_laws : DataLaws
all_data_laws = record { lines = sent-lines; cut = scan-cut }
