-- The places of the bytes of quoted strings and comments.
use Rattle.std.proofs.Common.{◌≡◌, ℕ, suc, Bool, true, false, ◌==◌, nat_le, List, [], ◌∷◌, ◌++◌, length, map, take, refl, sym, ◌∙◌, ap, append_assoc, append-nil, arith}
use Rattle.std.specs.List.{flat_map}
use Rattle.std.proofs.lemmas.Bool.Decides.{nat_tests}
use Rattle.mail_address.specs.declared.place.Place.{Place}
use Rattle.mail_address.specs.declared.place.Place.TheVariants.{Outside, Pair, Quoted, QuotedPair, Comment, CommentPair}
use Rattle.mail_address.specs.Places.{next_place, next_name_place, place_after_comment, marked_by, marked, is_outside}
use Rattle.mail_address.specs.Grammar.{QuotedPart, Literal, Escaped, CommentInside, Empty, TextThen, EscapedThen, CommentThen, is_quoted_byte, is_comment_byte, MayStandQuoted, MayStandInComment, quoted_bytes, inside_bytes, ValuePiece, Byte, QuotedString, CommentText, piece_bytes, spelled_pieces, IsPiece, ArePieces, is_outer_byte}
use Rattle.mail_address.specs.Laws.{stands_outside, outside_flags, OutsideIsBetween}

-- A step from place to place that differs only outside of quoted strings and comments.
pub record Moves (next : Place → ℕ → Place) : Type 0 where
  pub quote : next Outside 34 ≡ Quoted
  pub paren : next Outside 40 ≡ Comment 1
  pub inner : (place : Place) → is_outside place ≡ false → (b : ℕ) → next place b ≡ next_place place b

pub moves : Moves next_place
moves = record { quote = refl; paren = refl; inner = λ place e b. refl }

pub moves_in_name : Moves next_name_place
moves_in_name = record { quote = refl; paren = refl; inner = inner }
  where
    inner : (place : Place) → is_outside place ≡ false → (b : ℕ) → next_name_place place b ≡ next_place place b
    inner Outside e b = cc
    inner Pair e b = refl
    inner Quoted e b = refl
    inner QuotedPair e b = refl
    inner (Comment depth) e b = refl
    inner (CommentPair depth) e b = refl

-- The bytes of the inside of a quoted string and of a comment, with their places.
abbrev pub quoted_marks : List QuotedPart → List (ℕ × Place)
quoted_marks [] = []
quoted_marks (Literal b ∷ parts) = (b, Quoted) ∷ quoted_marks parts
quoted_marks (Escaped b ∷ parts) = (92, Quoted) ∷ (b, QuotedPair) ∷ quoted_marks parts

abbrev pub inside_marks : ℕ → CommentInside → List (ℕ × Place)
inside_marks d Empty = []
inside_marks d (TextThen b more) = (b, Comment d) ∷ inside_marks d more
inside_marks d (EscapedThen b more) = (92, Comment d) ∷ (b, CommentPair d) ∷ inside_marks d more
inside_marks d (CommentThen inner more) = (40, Comment d) ∷ (inside_marks (suc d) inner ++ (41, Comment (suc d)) ∷ inside_marks d more)

abbrev pub piece_marks : ValuePiece → List (ℕ × Place)
piece_marks (Byte b) = (b, Outside) ∷ []
piece_marks (QuotedString parts) = (34, Outside) ∷ (quoted_marks parts ++ (34, Quoted) ∷ [])
piece_marks (CommentText inside) = (40, Outside) ∷ (inside_marks 1 inside ++ (41, Comment 1) ∷ [])

abbrev pub all_marks : List ValuePiece → List (ℕ × Place)
all_marks pieces = flat_map piece_marks pieces

-- Bytes that change no place.
quoted_stays : (b : ℕ) → is_quoted_byte b ≡ true → next_place Quoted b ≡ Quoted
quoted_stays b h =
    let quote : (b == 34) ≡ false = grind (arith, nat_tests) in
    let backslash : (b == 92) ≡ false = grind (arith, nat_tests) in
    rw (backslash, quote) refl

comment_stays : (d b : ℕ) → is_comment_byte b ≡ true → next_place (Comment d) b ≡ Comment d
comment_stays d b h =
    let open_paren : (b == 40) ≡ false = grind (arith, nat_tests) in
    let close_paren : (b == 41) ≡ false = grind (arith, nat_tests) in
    let backslash : (b == 92) ≡ false = grind (arith, nat_tests) in
    rw (backslash, open_paren, close_paren) refl

-- The inside of a quoted string up to its end.
marks_quoted : (next : Place → ℕ → Place) → Moves next → (parts : List QuotedPart) → MayStandQuoted parts → (ys : List ℕ)
    → marked_by next Quoted (quoted_bytes parts ++ 34 ∷ ys) ≡ quoted_marks parts ++ (34, Quoted) ∷ marked_by next Outside ys
marks_quoted next m [] q ys = ap (λ p. (34, Quoted) ∷ marked_by next p ys) (m.inner Quoted refl 34)
marks_quoted next m (Literal b ∷ parts) q ys =
    ap (λ p. (b, Quoted) ∷ marked_by next p (quoted_bytes parts ++ 34 ∷ ys)) (m.inner Quoted refl b ∙ quoted_stays b q.0)
    ∙ ap (λ ms. (b, Quoted) ∷ ms) (marks_quoted next m parts q.1 ys)
marks_quoted next m (Escaped b ∷ parts) q ys =
    ap (λ p. (92, Quoted) ∷ marked_by next p (b ∷ (quoted_bytes parts ++ 34 ∷ ys))) (m.inner Quoted refl 92)
    ∙ ap (λ p. (92, Quoted) ∷ (b, QuotedPair) ∷ marked_by next p (quoted_bytes parts ++ 34 ∷ ys)) (m.inner QuotedPair refl b)
    ∙ ap (λ ms. (92, Quoted) ∷ (b, QuotedPair) ∷ ms) (marks_quoted next m parts q ys)

-- A comment in a comment ends in the outer one.
after_deeper : (n : ℕ) → place_after_comment (suc (suc n)) ≡ Comment (suc n)
after_deeper n =
    let deep : nat_le (suc (suc n)) 1 ≡ false = grind (arith, nat_tests) in
    rw deep (ap Comment (omega arith))

-- The inside of a comment up to its end.
marks_inside : (next : Place → ℕ → Place) → Moves next → (n : ℕ) (inside : CommentInside) → MayStandInComment inside → (ys : List ℕ)
    → marked_by next (Comment (suc n)) (inside_bytes inside ++ 41 ∷ ys) ≡ inside_marks (suc n) inside ++ (41, Comment (suc n)) ∷ marked_by next (place_after_comment (suc n)) ys
marks_inside next m n Empty q ys = ap (λ p. (41, Comment (suc n)) ∷ marked_by next p ys) (m.inner (Comment (suc n)) refl 41)
marks_inside next m n (TextThen b more) q ys =
    ap (λ p. (b, Comment (suc n)) ∷ marked_by next p (inside_bytes more ++ 41 ∷ ys)) (m.inner (Comment (suc n)) refl b ∙ comment_stays (suc n) b q.0)
    ∙ ap (λ ms. (b, Comment (suc n)) ∷ ms) (marks_inside next m n more q.1 ys)
marks_inside next m n (EscapedThen b more) q ys =
    ap (λ p. (92, Comment (suc n)) ∷ marked_by next p (b ∷ (inside_bytes more ++ 41 ∷ ys))) (m.inner (Comment (suc n)) refl 92)
    ∙ ap (λ p. (92, Comment (suc n)) ∷ (b, CommentPair (suc n)) ∷ marked_by next p (inside_bytes more ++ 41 ∷ ys)) (m.inner (CommentPair (suc n)) refl b)
    ∙ ap (λ ms. (92, Comment (suc n)) ∷ (b, CommentPair (suc n)) ∷ ms) (marks_inside next m n more q ys)
marks_inside next m n (CommentThen inner more) q ys =
    let rest = inside_bytes more ++ 41 ∷ ys in
    let later = inside_marks (suc n) more ++ (41, Comment (suc n)) ∷ marked_by next (place_after_comment (suc n)) ys in
    let deeper : next (Comment (suc n)) 40 ≡ Comment (suc (suc n)) = m.inner (Comment (suc n)) refl 40 ∙ ap Comment (omega arith) in
    ap (λ xs. (40, Comment (suc n)) ∷ marked_by next (next (Comment (suc n)) 40) xs) (append_assoc (inside_bytes inner) (41 ∷ inside_bytes more) (41 ∷ ys))
    ∙ ap (λ p. (40, Comment (suc n)) ∷ marked_by next p (inside_bytes inner ++ 41 ∷ rest)) deeper
    ∙ ap (λ ms. (40, Comment (suc n)) ∷ ms) (marks_inside next m (suc n) inner q.0 rest)
    ∙ ap (λ p. (40, Comment (suc n)) ∷ (inside_marks (suc (suc n)) inner ++ (41, Comment (suc (suc n))) ∷ marked_by next p rest)) (after_deeper n)
    ∙ ap (λ ms. (40, Comment (suc n)) ∷ (inside_marks (suc (suc n)) inner ++ (41, Comment (suc (suc n))) ∷ ms)) (marks_inside next m n more q.1 ys)
    ∙ ap (λ ms. (40, Comment (suc n)) ∷ ms)
    (sym (append_assoc (inside_marks (suc (suc n)) inner) ((41, Comment (suc (suc n))) ∷ inside_marks (suc n) more) ((41, Comment (suc n)) ∷ marked_by next (place_after_comment (suc n)) ys)))

-- A piece, and pieces: after each of them nothing is open.
pub marks_piece : (next : Place → ℕ → Place) → Moves next → (p : ℕ → Bool) → ((b : ℕ) → p b ≡ true → next Outside b ≡ Outside)
    → (piece : ValuePiece) → IsPiece p piece → (ys : List ℕ) → marked_by next Outside (piece_bytes piece ++ ys) ≡ piece_marks piece ++ marked_by next Outside ys
marks_piece next m p stays (Byte b) q ys = ap (λ place. (b, Outside) ∷ marked_by next place ys) (stays b q)
marks_piece next m p stays (QuotedString parts) q ys =
    ap (λ xs. (34, Outside) ∷ marked_by next (next Outside 34) xs) (append_assoc (quoted_bytes parts) (34 ∷ []) ys)
    ∙ ap (λ place. (34, Outside) ∷ marked_by next place (quoted_bytes parts ++ 34 ∷ ys)) m.quote
    ∙ ap (λ ms. (34, Outside) ∷ ms) (marks_quoted next m parts q ys)
    ∙ ap (λ ms. (34, Outside) ∷ ms) (sym (append_assoc (quoted_marks parts) ((34, Quoted) ∷ []) (marked_by next Outside ys)))
marks_piece next m p stays (CommentText inside) q ys =
    ap (λ xs. (40, Outside) ∷ marked_by next (next Outside 40) xs) (append_assoc (inside_bytes inside) (41 ∷ []) ys)
    ∙ ap (λ place. (40, Outside) ∷ marked_by next place (inside_bytes inside ++ 41 ∷ ys)) m.paren
    ∙ ap (λ ms. (40, Outside) ∷ ms) (marks_inside next m 0 inside q ys)
    ∙ ap (λ ms. (40, Outside) ∷ ms) (sym (append_assoc (inside_marks 1 inside) ((41, Comment 1) ∷ []) (marked_by next Outside ys)))

pub marks_all : (next : Place → ℕ → Place) → Moves next → (p : ℕ → Bool) → ((b : ℕ) → p b ≡ true → next Outside b ≡ Outside)
    → (pieces : List ValuePiece) → ArePieces p pieces → (ys : List ℕ) → marked_by next Outside (spelled_pieces pieces ++ ys) ≡ all_marks pieces ++ marked_by next Outside ys
marks_all next m p stays [] q ys = refl
marks_all next m p stays (piece ∷ pieces) q ys =
    ap (marked_by next Outside) (append_assoc (piece_bytes piece) (spelled_pieces pieces) ys)
    ∙ marks_piece next m p stays piece q.0 (spelled_pieces pieces ++ ys)
    ∙ ap (λ ms. piece_marks piece ++ ms) (marks_all next m p stays pieces q.1 ys)
    ∙ sym (append_assoc (piece_marks piece) (all_marks pieces) (marked_by next Outside ys))

pub marks_whole : (next : Place → ℕ → Place) → Moves next → (p : ℕ → Bool) → ((b : ℕ) → p b ≡ true → next Outside b ≡ Outside)
    → (pieces : List ValuePiece) → ArePieces p pieces → marked_by next Outside (spelled_pieces pieces) ≡ all_marks pieces
marks_whole next m p stays pieces q =
    ap (marked_by next Outside) (sym (append-nil (spelled_pieces pieces))) ∙ marks_all next m p stays pieces q [] ∙ append-nil (all_marks pieces)

pub outer_stays : (b : ℕ) → is_outer_byte b ≡ true → next_place Outside b ≡ Outside
outer_stays b h =
    let quote : (b == 34) ≡ false = grind (arith, nat_tests) in
    let paren : (b == 40) ≡ false = grind (arith, nat_tests) in
    rw (quote, paren) refl

-- What is outside of quoted strings and comments.

flags_quoted : (parts : List QuotedPart) → map stands_outside (quoted_marks parts ++ (34, Quoted) ∷ []) ≡ map (λ (b : ℕ). false) (quoted_bytes parts ++ 34 ∷ [])
flags_quoted [] = refl
flags_quoted (Literal b ∷ parts) = ap (λ fs. false ∷ fs) (flags_quoted parts)
flags_quoted (Escaped b ∷ parts) = ap (λ fs. false ∷ false ∷ fs) (flags_quoted parts)

flags_inside : (d : ℕ) (inside : CommentInside) (ms : List (ℕ × Place)) (ys : List ℕ) → map stands_outside ms ≡ map (λ (b : ℕ). false) ys
    → map stands_outside (inside_marks d inside ++ ms) ≡ map (λ (b : ℕ). false) (inside_bytes inside ++ ys)
flags_inside d Empty ms ys e = e
flags_inside d (TextThen b more) ms ys e = ap (λ fs. false ∷ fs) (flags_inside d more ms ys e)
flags_inside d (EscapedThen b more) ms ys e = ap (λ fs. false ∷ false ∷ fs) (flags_inside d more ms ys e)
flags_inside d (CommentThen inner more) ms ys e =
    ap (λ ns. false ∷ map stands_outside ns) (append_assoc (inside_marks (suc d) inner) ((41, Comment (suc d)) ∷ inside_marks d more) ms)
    ∙ ap (λ fs. false ∷ fs)
    (flags_inside (suc d) inner ((41, Comment (suc d)) ∷ (inside_marks d more ++ ms)) (41 ∷ (inside_bytes more ++ ys)) (ap (λ fs. false ∷ fs) (flags_inside d more ms ys e)))
    ∙ ap (λ xs. false ∷ map (λ (b : ℕ). false) xs) (sym (append_assoc (inside_bytes inner) (41 ∷ inside_bytes more) ys))

flags_piece : (piece : ValuePiece) → IsPiece is_outer_byte piece → map stands_outside (piece_marks piece) ≡ outside_flags piece
flags_piece (Byte b) q = ap (λ t. t ∷ []) q
flags_piece (QuotedString parts) q = ap (λ fs. false ∷ fs) (flags_quoted parts)
flags_piece (CommentText inside) q = ap (λ fs. false ∷ fs) (flags_inside 1 inside ((41, Comment 1) ∷ []) (41 ∷ []) refl)

map_two : (f : ℕ × Place → Bool) (xs ys : List (ℕ × Place)) → map f (xs ++ ys) ≡ map f xs ++ map f ys
map_two f [] ys = refl
map_two f (x ∷ xs) ys = ap (λ fs. f x ∷ fs) (map_two f xs ys)

flags_all : (pieces : List ValuePiece) → ArePieces is_outer_byte pieces → map stands_outside (all_marks pieces) ≡ flat_map outside_flags pieces
flags_all [] q = refl
flags_all (piece ∷ pieces) q =
    map_two stands_outside (piece_marks piece) (all_marks pieces) ∙ (λ i. flags_piece piece q.0 i ++ flags_all pieces q.1 i)

flags_front : (f : ℕ × Place → Bool) (place : Place) (value more : List ℕ)
    → map f (marked_by next_place place value) ≡ take (length value) (map f (marked_by next_place place (value ++ more)))
flags_front f place [] more = refl
flags_front f place (b ∷ bs) more = ap (λ (fs : List Bool). f (b, place) ∷ fs) (flags_front f (next_place place b) bs more)

pub outside_is_between : OutsideIsBetween
outside_is_between pieces value more q e =
    let whole : map stands_outside (marked (spelled_pieces pieces)) ≡ flat_map outside_flags pieces =
    ap (map stands_outside) (marks_whole next_place moves is_outer_byte outer_stays pieces q) ∙ flags_all pieces q in
    flags_front stands_outside Outside value more
    ∙ ap (λ (xs : List ℕ). take (length value) (map stands_outside (marked xs))) (sym e)
    ∙ ap (take (length value)) whole
