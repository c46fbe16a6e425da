-- Every value is the front of a text that is spelled from pieces.
use Rattle.std.proofs.Common.{◌≡◌, ℕ, zero, suc, Bool, true, false, ◌==◌, List, [], ◌∷◌, ◌++◌, refl, sym, ◌∙◌, ap, subst, append_assoc}
use Rattle.std.proofs.lemmas.Bool.{eqb-true}
use Rattle.mail_address.specs.Grammar.{QuotedPart, Literal, Escaped, CommentInside, Empty, TextThen, EscapedThen, CommentThen, is_quoted_byte, is_comment_byte, MayStandQuoted, MayStandInComment, quoted_bytes, inside_bytes, ValuePiece, Byte, QuotedString, CommentText, spelled_pieces, ArePieces, is_outer_byte}
use Rattle.mail_address.specs.Laws.{EveryValueIsFront}

-- A text that closes so many comments, and is then spelled from pieces.
abbrev Closes : ℕ → List ℕ → Type 0
Closes zero xs = (pieces : List ValuePiece) × ArePieces is_outer_byte pieces × (spelled_pieces pieces ≡ xs)
Closes (suc n) xs = (inside : CommentInside) × (ys : List ℕ) × MayStandInComment inside × Closes n ys × (inside_bytes inside ++ 41 ∷ ys ≡ xs)

-- A value that is the front of such a text.
abbrev Front : ℕ → List ℕ → Type 0
Front n value = (more : List ℕ) × Closes n (value ++ more)

-- A text that closes a quoted string, and is then spelled from pieces.
abbrev Quotes : List ℕ → Type 0
Quotes xs = (parts : List QuotedPart) × (ys : List ℕ) × MayStandQuoted parts × Closes zero ys × (quoted_bytes parts ++ 34 ∷ ys ≡ xs)

abbrev QuotedFront : List ℕ → Type 0
QuotedFront value = (more : List ℕ) × Quotes (value ++ more)

-- A value read from each place.
record Fronts (value : List ℕ) : Type 0 where
  plain : (n : ℕ) → Front n value
  pair : (n : ℕ) → Front (suc n) (92 ∷ value)
  quoted : QuotedFront value
  quoted_pair : QuotedFront (92 ∷ value)

-- No bytes are left.
closes_none : (n : ℕ) → (more : List ℕ) × Closes n more
closes_none zero = ([], ([], tt, refl))
closes_none (suc n) = let m = closes_none n in (41 ∷ m.0, (Empty, m.0, tt, m.1, refl))

fronts_none : Fronts []
fronts_none = record {
  plain = λ n. closes_none n;
  pair = λ n. let m = closes_none n in (0 ∷ 41 ∷ m.0, (EscapedThen 0 Empty, m.0, tt, m.1, refl));
  quoted = (34 ∷ [], ([], [], tt, ([], tt, refl), refl));
  quoted_pair = (0 ∷ 34 ∷ [], (Escaped 0 ∷ [], [], tt, ([], tt, refl), refl));
}

-- One more byte at the front.
opens_quote : (bs : List ℕ) → QuotedFront bs → Front zero (34 ∷ bs)
opens_quote bs f =
    let q = f.1 in
    let c = q.3 in
    let is : spelled_pieces (QuotedString q.0 ∷ c.0) ≡ 34 ∷ (bs ++ f.0) =
    ap (λ (xs : List ℕ). 34 ∷ xs) (append_assoc (quoted_bytes q.0) (34 ∷ []) (spelled_pieces c.0) ∙ ap (λ (xs : List ℕ). quoted_bytes q.0 ++ 34 ∷ xs) c.2 ∙ q.4) in
    (f.0, (QuotedString q.0 ∷ c.0, (q.2, c.1), is))

opens_comment : (bs : List ℕ) → Front (suc zero) bs → Front zero (40 ∷ bs)
opens_comment bs f =
    let i = f.1 in
    let c = i.3 in
    let is : spelled_pieces (CommentText i.0 ∷ c.0) ≡ 40 ∷ (bs ++ f.0) =
    ap (λ (xs : List ℕ). 40 ∷ xs) (append_assoc (inside_bytes i.0) (41 ∷ []) (spelled_pieces c.0) ∙ ap (λ (xs : List ℕ). inside_bytes i.0 ++ 41 ∷ xs) c.2 ∙ i.4) in
    (f.0, (CommentText i.0 ∷ c.0, (i.2, c.1), is))

outer_byte : (b : ℕ) (bs : List ℕ) → is_outer_byte b ≡ true → Front zero bs → Front zero (b ∷ bs)
outer_byte b bs outer f =
    let c = f.1 in
    (f.0, (Byte b ∷ c.0, (outer, c.1), ap (λ (xs : List ℕ). b ∷ xs) c.2))

opens_deeper : (n : ℕ) (bs : List ℕ) → Front (suc (suc n)) bs → Front (suc n) (40 ∷ bs)
opens_deeper n bs f =
    let i = f.1 in
    let o = i.3 in
    let is : inside_bytes (CommentThen i.0 o.0) ++ 41 ∷ o.1 ≡ 40 ∷ (bs ++ f.0) =
    ap (λ (xs : List ℕ). 40 ∷ xs) (append_assoc (inside_bytes i.0) (41 ∷ inside_bytes o.0) (41 ∷ o.1) ∙ ap (λ (xs : List ℕ). inside_bytes i.0 ++ 41 ∷ xs) o.4 ∙ i.4) in
    (f.0, (CommentThen i.0 o.0, o.1, (i.2, o.2), o.3, is))

closes_one : (n : ℕ) (bs : List ℕ) → Front n bs → Front (suc n) (41 ∷ bs)
closes_one n bs f = (f.0, (Empty, bs ++ f.0, tt, f.1, refl))

comment_byte : (n b : ℕ) (bs : List ℕ) → is_comment_byte b ≡ true → Front (suc n) bs → Front (suc n) (b ∷ bs)
comment_byte n b bs inner f =
    let i = f.1 in
    (f.0, (TextThen b i.0, i.1, (inner, i.2), i.3, ap (λ (xs : List ℕ). b ∷ xs) i.4))

comment_pair : (n b : ℕ) (bs : List ℕ) → Front (suc n) bs → Front (suc n) (92 ∷ b ∷ bs)
comment_pair n b bs f =
    let i = f.1 in
    (f.0, (EscapedThen b i.0, i.1, i.2, i.3, ap (λ (xs : List ℕ). 92 ∷ b ∷ xs) i.4))

closes_quote : (bs : List ℕ) → Front zero bs → QuotedFront (34 ∷ bs)
closes_quote bs f = (f.0, ([], bs ++ f.0, tt, f.1, refl))

quoted_byte : (b : ℕ) (bs : List ℕ) → is_quoted_byte b ≡ true → QuotedFront bs → QuotedFront (b ∷ bs)
quoted_byte b bs inner f =
    let q = f.1 in
    (f.0, (Literal b ∷ q.0, q.1, (inner, q.2), q.3, ap (λ (xs : List ℕ). b ∷ xs) q.4))

quoted_pair : (b : ℕ) (bs : List ℕ) → QuotedFront bs → QuotedFront (92 ∷ b ∷ bs)
quoted_pair b bs f =
    let q = f.1 in
    (f.0, (Escaped b ∷ q.0, q.1, q.2, q.3, ap (λ (xs : List ℕ). 92 ∷ b ∷ xs) q.4))

-- Each byte, by its kind.
by_outer : (b : ℕ) (bs : List ℕ) (quote paren : Bool) → (b == 34) ≡ quote → (b == 40) ≡ paren → Fronts bs → Front zero (b ∷ bs)
by_outer b bs true paren e f fs = subst (λ (c : ℕ). Front zero (c ∷ bs)) (sym (eqb-true b 34 e)) (opens_quote bs fs.quoted)
by_outer b bs false true e f fs = subst (λ (c : ℕ). Front zero (c ∷ bs)) (sym (eqb-true b 40 f)) (opens_comment bs (fs.plain (suc zero)))
by_outer b bs false false e f fs = outer_byte b bs (rw (e, f) refl) (fs.plain zero)

by_comment : (n b : ℕ) (bs : List ℕ) (opens ends backslash : Bool) → (b == 40) ≡ opens → (b == 41) ≡ ends → (b == 92) ≡ backslash → Fronts bs → Front (suc n) (b ∷ bs)
by_comment n b bs true ends backslash e f g fs = subst (λ (c : ℕ). Front (suc n) (c ∷ bs)) (sym (eqb-true b 40 e)) (opens_deeper n bs (fs.plain (suc (suc n))))
by_comment n b bs false true backslash e f g fs = subst (λ (c : ℕ). Front (suc n) (c ∷ bs)) (sym (eqb-true b 41 f)) (closes_one n bs (fs.plain n))
by_comment n b bs false false true e f g fs = subst (λ (c : ℕ). Front (suc n) (c ∷ bs)) (sym (eqb-true b 92 g)) (fs.pair n)
by_comment n b bs false false false e f g fs = comment_byte n b bs (rw (e, f, g) refl) (fs.plain (suc n))

by_quoted : (b : ℕ) (bs : List ℕ) (quote backslash : Bool) → (b == 34) ≡ quote → (b == 92) ≡ backslash → Fronts bs → QuotedFront (b ∷ bs)
by_quoted b bs true backslash e f fs = subst (λ (c : ℕ). QuotedFront (c ∷ bs)) (sym (eqb-true b 34 e)) (closes_quote bs (fs.plain zero))
by_quoted b bs false true e f fs = subst (λ (c : ℕ). QuotedFront (c ∷ bs)) (sym (eqb-true b 92 f)) fs.quoted_pair
by_quoted b bs false false e f fs = quoted_byte b bs (rw (e, f) refl) fs.quoted

by_depth : (n b : ℕ) (bs : List ℕ) → Fronts bs → Front n (b ∷ bs)
by_depth zero b bs fs = by_outer b bs (b == 34) (b == 40) refl refl fs
by_depth (suc n) b bs fs = by_comment n b bs (b == 40) (b == 41) (b == 92) refl refl refl fs

fronts : (value : List ℕ) → Fronts value
fronts [] = fronts_none
fronts (b ∷ bs) =
    let fs = fronts bs in
    record {
      plain = λ n. by_depth n b bs fs;
      pair = λ n. comment_pair n b bs (fs.plain (suc n));
      quoted = by_quoted b bs (b == 34) (b == 92) refl refl fs;
      quoted_pair = quoted_pair b bs fs.quoted;
    }

pub every_value_is_front : EveryValueIsFront
every_value_is_front value =
    let f = (fronts value).plain zero in
    let c = f.1 in
    (c.0, f.0, c.1, c.2)
