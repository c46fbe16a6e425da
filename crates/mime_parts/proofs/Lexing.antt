-- Gaps, tokens, quoted strings and marks at the front of a value.
use Rattle.std.proofs.Common.{◌≡◌, ℕ, suc, ◌+◌, ◌-◌, ◌<◌, ◌≤◌, Bool, true, false, cond, eqb, leb, ◌&&◌, ◌||◌, not, List, [], ◌∷◌, ◌++◌, length, take, drop, get_or, refl, sym, ap, ◌∙◌, append_assoc, arith, add-zero}
use Rattle.std.specs.List.{prefix_len}
use Rattle.std.proofs.lemmas.Bool.{eqb-true, or_parts, and_parts, true≢false}
use Rattle.std.proofs.lemmas.List.{drop_more, take_more, take_all, drop_all, append-nil, get_or-drop}
use Rattle.mail_address.specs.declared.place.Place.{Place}
use Rattle.mail_address.specs.declared.place.Place.TheVariants.{Outside, Pair, Quoted, QuotedPair, Comment, CommentPair}
use Rattle.mail_address.specs.Places.{next_place}
use Rattle.mime_parts.specs.declared.lexemes.Mark.{Mark}
use Rattle.mime_parts.specs.Lexemes.{is_token_byte, mark_of, Role, Content, Opening, Gap, Single, is_gap, plain_role, role_of, TokenText, QuotedText, MarkText, Lexed, lexed, closed, lexed_by, lexed_from, lexemes_of}

-- The place is not in a quoted string.
abbrev pub is_between : Place → Bool
is_between Outside = true
is_between (Comment depth) = true
is_between (CommentPair depth) = true
is_between _ = false

-- A space and an opening parenthesis are gaps.
plain_gap : (b : ℕ) (s t : Bool) → eqb b 32 ≡ s → eqb b 40 ≡ t → (s || t) ≡ true → plain_role b ≡ Gap
plain_gap b true t p q h = rw (eqb-true b 32 p) refl
plain_gap b false true p q h = rw (eqb-true b 40 q) refl
plain_gap b false false p q h = cc

gap_role : (p : Place) (b : ℕ) → is_gap p b ≡ true → role_of p b ≡ Gap
gap_role Outside b h = plain_gap b (eqb b 32) (eqb b 40) refl refl h
gap_role Pair b h = cc
gap_role Quoted b h = cc
gap_role QuotedPair b h = cc
gap_role (Comment d) b h = refl
gap_role (CommentPair d) b h = refl

plain_between : (b : ℕ) (s t : Bool) → eqb b 32 ≡ s → eqb b 40 ≡ t → (s || t) ≡ true → is_between (next_place Outside b) ≡ true
plain_between b true t p q h = rw (eqb-true b 32 p) refl
plain_between b false true p q h = rw (eqb-true b 40 q) refl
plain_between b false false p q h = cc

comment_between : (t u v w : Bool) (d e f : ℕ) → is_between (cond t (CommentPair d) (cond u (Comment e) (cond v (cond w Outside (Comment f)) (Comment d)))) ≡ true
comment_between true u v w d e f = refl
comment_between false true v w d e f = refl
comment_between false false true true d e f = refl
comment_between false false true false d e f = refl
comment_between false false false w d e f = refl

-- After a gap no quoted string is open.
pub gap_between : (p : Place) (b : ℕ) → is_gap p b ≡ true → is_between (next_place p b) ≡ true
gap_between Outside b h = plain_between b (eqb b 32) (eqb b 40) refl refl h
gap_between Pair b h = cc
gap_between Quoted b h = cc
gap_between QuotedPair b h = cc
gap_between (Comment d) b h = comment_between (eqb b 92) (eqb b 40) (eqb b 41) (leb d 1) d (d + 1) (d - 1)
gap_between (CommentPair d) b h = refl

-- A byte that is no gap, and not in a quoted string, is outside.
pub outside_of : (p : Place) (b : ℕ) → is_gap p b ≡ false → is_between p ≡ true → p ≡ Outside
outside_of Outside b g h = refl
outside_of Pair b g h = cc
outside_of Quoted b g h = cc
outside_of QuotedPair b g h = cc
outside_of (Comment d) b g h = cc
outside_of (CommentPair d) b g h = cc

-- A gap adds no lexeme.
gap_step : (p : Place) (b : ℕ) (bs : List ℕ) → is_gap p b ≡ true → closed (lexed_from p (b ∷ bs)) ≡ closed (lexed_from (next_place p b) bs)
gap_step p b bs h = rw (gap_role p b h) refl

pub gap_more : (p : Place) (value : List ℕ) (i : ℕ) → i < length value → is_gap p (get_or value i 0) ≡ true
    → closed (lexed_from p (drop i value)) ≡ closed (lexed_from (next_place p (get_or value i 0)) (drop (i + 1) value))
gap_more p value i h g =
    ap (λ bs. closed (lexed_from p bs)) (drop_more value i 0 h) ∙ gap_step p (get_or value i 0) (drop (i + 1) value) g

-- The first byte after a gap, or none.
pub gap_end : (p : Place) (value : List ℕ) (i : ℕ) → is_gap p (get_or value i 0) ≡ false → is_between p ≡ true
    → closed (lexed_from p (drop i value)) ≡ lexemes_of value → lexemes_of (drop i value) ≡ lexemes_of value
gap_end p value i g b e =
    ap (λ q. closed (lexed_from q (drop i value))) (sym (outside_of p (get_or value i 0) g b)) ∙ e

pub gap_front : (p : Place) (value : List ℕ) (i : ℕ) → is_gap p (get_or value i 0) ≡ false → is_between p ≡ true
    → is_gap Outside (get_or (drop i value) 0 0) ≡ false
gap_front p value i g b =
    ap (is_gap Outside) (get_or-drop i value 0 0 ∙ ap (λ k. get_or value k 0) (add-zero i))
    ∙ ap (λ q. is_gap q (get_or value i 0)) (sym (outside_of p (get_or value i 0) g b)) ∙ g

pub gap_all : (p : Place) (value : List ℕ) (i : ℕ) → length value ≤ i → closed (lexed_from p (drop i value)) ≡ lexemes_of value
    → lexemes_of [] ≡ lexemes_of value
gap_all p value i h e = sym (ap (λ bs. closed (lexed_from p bs)) (drop_all i value h)) ∙ e

-- A byte that is no part of a token or a quoted string starts no token.
no_token : (r : Role) (b : ℕ) (l : Lexed) → (r ≡ Content → ⊥) → lexed_by r b l ≡ lexed [] (closed (lexed_by r b l))
no_token Content b l h = absurd (h refl)
no_token Opening b l h = refl
no_token Gap b l h = refl
no_token (Single m) b l h = refl

plain_other : (b : ℕ) → is_token_byte b ≡ false → plain_role b ≡ Content → ⊥
plain_other b h = rw h (other (eqb b 34) (is_gap Outside b) (mark_of b))
  where
    other : (s t : Bool) (m : Mark) → cond s Opening (cond t Gap (Single m)) ≡ Content → ⊥
    other true t m e = cc
    other false true m e = cc
    other false false m e = cc

-- After a byte of a token the next one is outside, too.
token_outside : (b : ℕ) (s t : Bool) → eqb b 34 ≡ s → eqb b 40 ≡ t → is_token_byte b ≡ true → next_place Outside b ≡ Outside
token_outside b true t p q h = absurd (true≢false (sym (rw (eqb-true b 34 p) at h)))
token_outside b false true p q h = absurd (true≢false (sym (rw (eqb-true b 40 q) at h)))
token_outside b false false p q h = rw (p, q) refl

one-more : (n : ℕ) → 1 + n ≡ suc n
one-more n = omega arith

-- A token is the longest run of its bytes.
token_split : (bs : List ℕ) → lexed_from Outside bs ≡ lexed (take (prefix_len is_token_byte bs) bs) (lexemes_of (drop (prefix_len is_token_byte bs) bs))
token_split [] = refl
token_split (b ∷ bs) = step (is_token_byte b) refl (token_split bs)
  where
    step : (t : Bool) → is_token_byte b ≡ t → lexed_from Outside bs ≡ lexed (take (prefix_len is_token_byte bs) bs) (lexemes_of (drop (prefix_len is_token_byte bs) bs))
        → lexed_from Outside (b ∷ bs) ≡ lexed (take (prefix_len is_token_byte (b ∷ bs)) (b ∷ bs)) (lexemes_of (drop (prefix_len is_token_byte (b ∷ bs)) (b ∷ bs)))
    step true e i = rw (e, one-more (prefix_len is_token_byte bs), token_outside b (eqb b 34) (eqb b 40) refl refl e, i) refl
    step false e i =
        let zero : prefix_len is_token_byte (b ∷ bs) ≡ 0 = rw e refl in
        no_token (plain_role b) b (lexed_from (next_place Outside b) bs) (plain_other b e)
        ∙ ap (λ n. lexed (take n (b ∷ bs)) (lexemes_of (drop n (b ∷ bs)))) (sym zero)

pub token_first : (value : List ℕ) → 0 < length value → is_token_byte (get_or value 0 0) ≡ true
    → lexemes_of value ≡ TokenText (take (prefix_len is_token_byte value) value) ∷ lexemes_of (drop (prefix_len is_token_byte value) value)
token_first [] l h = absurd (omega arith)
token_first (b ∷ bs) l h = ap closed (token_split (b ∷ bs)) ∙ rw (h, one-more (prefix_len is_token_byte bs)) refl

-- A token isn't empty.
pub token_some : (value : List ℕ) → 0 < length value → is_token_byte (get_or value 0 0) ≡ true → 0 < prefix_len is_token_byte value
token_some [] l h = absurd (omega arith)
token_some (b ∷ bs) l h = rw h (omega arith)

-- A quoted string at the front.
pub quoted_first : (value inside rest : List ℕ) → 0 < length value → get_or value 0 0 ≡ 34
    → lexed_from Quoted (drop 1 value) ≡ lexed inside (lexemes_of rest) → lexemes_of value ≡ QuotedText inside ∷ lexemes_of rest
quoted_first [] inside rest l h e = absurd (omega arith)
quoted_first (b ∷ bs) inside rest l h e = rw h (rw e refl)

-- A mark at the front.
pub mark_first : (value : List ℕ) → 0 < length value → is_token_byte (get_or value 0 0) ≡ false → is_gap Outside (get_or value 0 0) ≡ false
    → eqb (get_or value 0 0) 34 ≡ false → lexemes_of value ≡ MarkText (mark_of (get_or value 0 0)) ∷ lexemes_of (drop 1 value)
mark_first [] l h g q = absurd (omega arith)
mark_first (b ∷ bs) l h g q = let p = or_parts (eqb b 32) (eqb b 40) g in rw (h, q, p.0, p.1) refl

-- Bytes of a quoted string before others.
abbrev pub onto_all : List ℕ → Lexed → Lexed
onto_all xs l = lexed (xs ++ l.front) l.later

-- The place in a quoted string.
abbrev pub quote_place : Bool → Place
quote_place true = QuotedPair
quote_place false = Quoted

content_step : (escaped : Bool) (b : ℕ) (bs : List ℕ) → (eqb b 34 && not escaped) ≡ false
    → lexed_from (quote_place escaped) (b ∷ bs) ≡ onto_all (b ∷ []) (lexed_from (quote_place (eqb b 92 && not escaped)) bs)
content_step true b bs h = rw (no_more (eqb b 92)) refl
  where
    no_more : (t : Bool) → (t && false) ≡ false
    no_more true = refl
    no_more false = refl
content_step false b bs h = step (eqb b 34) (eqb b 92) refl refl h
  where
    step : (s t : Bool) → eqb b 34 ≡ s → eqb b 92 ≡ t → (s && true) ≡ false
        → lexed_from Quoted (b ∷ bs) ≡ onto_all (b ∷ []) (lexed_from (quote_place (t && true)) bs)
    step true t p q h = cc
    step false true p q h = rw (p, q) refl
    step false false p q h = rw (p, q) refl

-- One more byte of a quoted string.
pub content_more : (escaped : Bool) (bytes : List ℕ) (i : ℕ) → i < length bytes → (eqb (get_or bytes i 0) 34 && not escaped) ≡ false
    → onto_all (take i bytes) (lexed_from (quote_place escaped) (drop i bytes)) ≡ lexed_from Quoted bytes
    → onto_all (take (i + 1) bytes) (lexed_from (quote_place (eqb (get_or bytes i 0) 92 && not escaped)) (drop (i + 1) bytes)) ≡ lexed_from Quoted bytes
content_more escaped bytes i h n e =
    let b = get_or bytes i 0 in
    let l = lexed_from (quote_place (eqb b 92 && not escaped)) (drop (i + 1) bytes) in
    let split : lexed_from (quote_place escaped) (drop i bytes) ≡ onto_all (b ∷ []) l =
    ap (lexed_from (quote_place escaped)) (drop_more bytes i 0 h) ∙ content_step escaped b (drop (i + 1) bytes) n in
    ap (λ xs. onto_all xs l) (take_more bytes i 0 h)
    ∙ ap (λ xs. lexed xs l.later) (append_assoc (take i bytes) (b ∷ []) l.front)
    ∙ sym (ap (onto_all (take i bytes)) split) ∙ e

-- The quote that ends a quoted string.
pub content_end : (escaped : Bool) (bytes : List ℕ) (i : ℕ) → i < length bytes → (eqb (get_or bytes i 0) 34 && not escaped) ≡ true
    → onto_all (take i bytes) (lexed_from (quote_place escaped) (drop i bytes)) ≡ lexed_from Quoted bytes
    → lexed_from Quoted bytes ≡ lexed (take i bytes) (lexemes_of (drop (i + 1) bytes))
content_end true bytes i h n e = absurd (true≢false (sym n ∙ no_more (eqb (get_or bytes i 0) 34)))
  where
    no_more : (t : Bool) → (t && false) ≡ false
    no_more true = refl
    no_more false = refl
content_end false bytes i h n e =
    let parts = and_parts (eqb (get_or bytes i 0) 34) true n in
    let here : get_or bytes i 0 ≡ 34 = eqb-true (get_or bytes i 0) 34 parts.0 in
    let split : drop i bytes ≡ 34 ∷ drop (i + 1) bytes = drop_more bytes i 0 h ∙ ap (λ b. b ∷ drop (i + 1) bytes) here in
    sym e ∙ ap (λ xs. onto_all (take i bytes) (lexed_from Quoted xs)) split
    ∙ ap (λ xs. lexed xs (lexemes_of (drop (i + 1) bytes))) (append-nil (take i bytes))

-- A quoted string that isn't ended.
pub content_all : (escaped : Bool) (bytes : List ℕ) (i : ℕ) → length bytes ≤ i
    → onto_all (take i bytes) (lexed_from (quote_place escaped) (drop i bytes)) ≡ lexed_from Quoted bytes
    → lexed_from Quoted bytes ≡ lexed bytes (lexemes_of [])
content_all escaped bytes i h e =
    sym e ∙ ap (λ xs. onto_all (take i bytes) (lexed_from (quote_place escaped) xs)) (drop_all i bytes h)
    ∙ none escaped ∙ ap (λ xs. lexed xs []) (append-nil (take i bytes) ∙ take_all i bytes h)
  where
    none : (escaped : Bool) → onto_all (take i bytes) (lexed_from (quote_place escaped) []) ≡ lexed (take i bytes ++ []) []
    none true = refl
    none false = refl
