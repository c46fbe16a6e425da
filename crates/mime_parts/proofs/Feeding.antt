-- Lines of bytes with more bytes after them, and without the line feed at their end.
use Rattle.std.proofs.Common.{◌≡◌, ◌⊎◌, inl, inr, ℕ, ◌<◌, Bool, true, false, cond, eqb, List, [], ◌∷◌, ◌++◌, length, refl, sym, ap, ◌∙◌, arith}
use Rattle.std.specs.List.{onto_first, All}
use Rattle.std.proofs.lemmas.Bool.{eqb-true}
use Rattle.std.proofs.lemmas.List.Elements.{All-nil, All-cons, All-head, All-tail, All-push, All-same}
use Rattle.mail_reader.specs.Lines.{lines_of}
use Rattle.mail_reader.specs.Fields.{without_feed}
use Rattle.mime_parts.specs.declared.delimiters.LineKind.TheVariants.{Plain}
use Rattle.mime_parts.specs.Delimiters.{kind_of}
use Rattle.mime_parts.specs.Laws.{HasNoDelimiter}

-- Bytes that end with a line feed.
pub record EndsFed (bytes : List ℕ) : Type 0 where
  pub before : List ℕ
  pub is : bytes ≡ before ++ 10 ∷ []

-- A line: it has no line feed but the one at its end.
abbrev pub IsLine : List ℕ → Type 0
IsLine line = lines_of line ≡ line ∷ []

abbrev pub AllLines : List (List ℕ) → Type 0
AllLines [] = Unit {0}
AllLines (l ∷ ls) = IsLine l × AllLines ls

onto_lines : (b : ℕ) (ls : List (List ℕ)) → eqb b 10 ≡ false → AllLines ls → AllLines (onto_first b ls)
onto_lines b [] h a = (rw h refl, tt)
onto_lines b (l ∷ ls) h a = (rw (h, a.0) refl, a.1)

pub all_lines : (bytes : List ℕ) → AllLines (lines_of bytes)
all_lines [] = tt
all_lines (b ∷ bs) = step (eqb b 10) refl (all_lines bs)
  where
    step : (t : Bool) → eqb b 10 ≡ t → AllLines (lines_of bs) → AllLines (lines_of (b ∷ bs))
    step true e i = rw (eqb-true b 10 e) (refl, i)
    step false e i = rw e (onto_lines b (lines_of bs) e i)

-- Lines before others.
onto_append : (b : ℕ) (ls ms : List (List ℕ)) → 0 < length ls → onto_first b (ls ++ ms) ≡ onto_first b ls ++ ms
onto_append b [] ms h = absurd (omega arith)
onto_append b (l ∷ ls) ms h = refl

onto_some : (b : ℕ) (ls : List (List ℕ)) → 0 < length (onto_first b ls)
onto_some b [] = omega arith
onto_some b (l ∷ ls) = omega arith

pub lines_some : (b : ℕ) (bs : List ℕ) → 0 < length (lines_of (b ∷ bs))
lines_some b bs = step (eqb b 10)
  where
    step : (t : Bool) → 0 < length (cond t ((b ∷ []) ∷ lines_of bs) (onto_first b (lines_of bs)))
    step true = omega arith
    step false = onto_some b (lines_of bs)

fed_some : (xs : List ℕ) → 0 < length (lines_of (xs ++ 10 ∷ []))
fed_some [] = omega arith
fed_some (x ∷ xs) = lines_some x (xs ++ 10 ∷ [])

lines_fed : (xs ys : List ℕ) → lines_of ((xs ++ 10 ∷ []) ++ ys) ≡ lines_of (xs ++ 10 ∷ []) ++ lines_of ys
lines_fed [] ys = refl
lines_fed (x ∷ xs) ys = step (eqb x 10) _ _ (lines_fed xs ys) (fed_some xs)
  where
    step : (t : Bool) (ls : List (List ℕ)) (ms : List (List ℕ)) → ms ≡ ls ++ lines_of ys → 0 < length ls
        → cond t ((x ∷ []) ∷ ms) (onto_first x ms) ≡ cond t ((x ∷ []) ∷ ls) (onto_first x ls) ++ lines_of ys
    step true ls ms e h = ap (λ ks. (x ∷ []) ∷ ks) e
    step false ls ms e h = ap (onto_first x) e ∙ onto_append x ls (lines_of ys) h

-- Bytes that are empty or end with a line feed, and then a line.
pub plain_push : (boundary mid line : List ℕ) → (mid ≡ []) ⊎ EndsFed mid → IsLine line → kind_of boundary line ≡ Plain
    → HasNoDelimiter boundary mid → HasNoDelimiter boundary (mid ++ line)
plain_push boundary mid line (inl e) l k p =
    let is : lines_of (mid ++ line) ≡ line ∷ [] = ap (λ xs. lines_of (xs ++ line)) e ∙ l in
    All-same (λ (it : List ℕ). kind_of boundary it ≡ Plain) _ _ is (All-cons (λ (it : List ℕ). kind_of boundary it ≡ Plain) line [] k (All-nil _))
plain_push boundary mid line (inr f) l k p =
    let is : lines_of (mid ++ line) ≡ lines_of mid ++ line ∷ [] =
    ap (λ xs. lines_of (xs ++ line)) f.is ∙ lines_fed f.before line ∙ ap (λ xs. lines_of xs ++ lines_of line) (sym f.is) ∙ ap (λ ls. lines_of mid ++ ls) l in
    All-same (λ (it : List ℕ). kind_of boundary it ≡ Plain) _ _ is (All-push (λ (it : List ℕ). kind_of boundary it ≡ Plain) (lines_of mid) line p k)

-- Each line of the first list is, but for a line feed, that of the second.
abbrev pub SameFront : List (List ℕ) → List (List ℕ) → Type 0
SameFront [] ms = Unit {0}
SameFront (l ∷ ls) [] = ⊥
SameFront (l ∷ ls) (m ∷ ms) = (without_feed l ≡ without_feed m) × SameFront ls ms

abbrev pub AllSome : List (List ℕ) → Type 0
AllSome [] = Unit {0}
AllSome (l ∷ ls) = (0 < length l) × AllSome ls

some_onto : (b : ℕ) (ls : List (List ℕ)) → AllSome ls → AllSome (onto_first b ls)
some_onto b [] a = (omega arith, tt)
some_onto b (l ∷ ls) a = (omega arith, a.1)

all_some : (bytes : List ℕ) → AllSome (lines_of bytes)
all_some [] = tt
all_some (b ∷ bs) = step (eqb b 10) (all_some bs)
  where
    step : (t : Bool) → AllSome (lines_of bs) → AllSome (cond t ((b ∷ []) ∷ lines_of bs) (onto_first b (lines_of bs)))
    step true i = (omega arith, i)
    step false i = some_onto b (lines_of bs) i

feed_cons : (b : ℕ) (l m : List ℕ) → 0 < length l → 0 < length m → without_feed l ≡ without_feed m → without_feed (b ∷ l) ≡ without_feed (b ∷ m)
feed_cons b [] m h i e = absurd (omega arith)
feed_cons b (x ∷ xs) [] h i e = absurd (omega arith)
feed_cons b (x ∷ xs) (y ∷ ys) h i e = ap (λ zs. b ∷ zs) e

same_onto : (b : ℕ) (ls ms : List (List ℕ)) → 0 < length ls → AllSome ls → AllSome ms → SameFront ls ms → SameFront (onto_first b ls) (onto_first b ms)
same_onto b [] ms h p q s = absurd (omega arith)
same_onto b (l ∷ ls) [] h p q s = absurd s
same_onto b (l ∷ ls) (m ∷ ms) h p q s = (feed_cons b l m p.0 q.0 s.0, s.1)

same_lines : (bytes : List ℕ) → SameFront (lines_of bytes) (lines_of (bytes ++ 10 ∷ []))
same_lines [] = tt
same_lines (b ∷ []) = step (eqb b 10) refl
  where
    step : (t : Bool) → eqb b 10 ≡ t → SameFront (lines_of (b ∷ [])) (lines_of (b ∷ 10 ∷ []))
    step true e = rw (eqb-true b 10 e) (refl, tt)
    step false e = rw (e, e) (refl, tt)
same_lines (b ∷ c ∷ cs) = step (eqb b 10) (same_lines (c ∷ cs))
  where
    step : (t : Bool) → SameFront (lines_of (c ∷ cs)) (lines_of (c ∷ (cs ++ 10 ∷ [])))
        → SameFront (cond t ((b ∷ []) ∷ lines_of (c ∷ cs)) (onto_first b (lines_of (c ∷ cs)))) (cond t ((b ∷ []) ∷ lines_of (c ∷ (cs ++ 10 ∷ []))) (onto_first b (lines_of (c ∷ (cs ++ 10 ∷ [])))))
    step true i = (refl, i)
    step false i = same_onto b (lines_of (c ∷ cs)) (lines_of (c ∷ (cs ++ 10 ∷ []))) (lines_some c cs) (all_some (c ∷ cs)) (all_some (c ∷ (cs ++ 10 ∷ []))) i

kind_same : (boundary l m : List ℕ) → without_feed l ≡ without_feed m → kind_of boundary l ≡ kind_of boundary m
unfolding kind_of
kind_same boundary l m e = rw e refl

plain_front : (boundary : List ℕ) (ls ms : List (List ℕ)) → SameFront ls ms → All (λ (it : List ℕ). kind_of boundary it ≡ Plain) ms
    → All (λ (it : List ℕ). kind_of boundary it ≡ Plain) ls
plain_front boundary [] ms s a = All-nil _
plain_front boundary (l ∷ ls) [] s a = absurd s
plain_front boundary (l ∷ ls) (m ∷ ms) s a =
    All-cons (λ (it : List ℕ). kind_of boundary it ≡ Plain) l ls
    (kind_same boundary l m s.0 ∙ All-head (λ (it : List ℕ). kind_of boundary it ≡ Plain) m ms a)
    (plain_front boundary ls ms s.1 (All-tail (λ (it : List ℕ). kind_of boundary it ≡ Plain) m ms a))

-- Bytes without the line feed at their end.
pub plain_unfed : (boundary bytes : List ℕ) → HasNoDelimiter boundary (bytes ++ 10 ∷ []) → HasNoDelimiter boundary bytes
plain_unfed boundary bytes p = plain_front boundary (lines_of bytes) (lines_of (bytes ++ 10 ∷ [])) (same_lines bytes) p
