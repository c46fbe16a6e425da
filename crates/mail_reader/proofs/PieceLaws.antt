-- The ids of a value are its pieces that are ids.
use Rattle.std.proofs.Common.{◌≡◌, ◌⊎◌, inl, inr, ℕ, zero, suc, ◌+◌, ◌<◌, ◌≤◌, Bool, true, false, cond, eqb, nat_le, ◌&&◌, List, [], ◌∷◌, ◌++◌, length, take, drop, get_or, refl, sym, ap, ◌∙◌, append_assoc, arith, length-append, subst}
use Rattle.std.specs.List.{Contains}
use Rattle.std.proofs.lemmas.Bool.{eqb-true, and_parts, le-leb, leb-true}
use Rattle.std.proofs.lemmas.List.{take_at, take-append-drop, get_or-take, get_or_at, take_more, get_or_past}
use Rattle.std.proofs.lemmas.List.Elements.{Contains-append_right}
use Rattle.std.proofs.lemmas.List.Folds.{length-prefix_len}
use Rattle.std.proofs.lemmas.List.Sums.{prefix_len_passes, prefix_len-le-length}
use Rattle.mail_reader.specs.Ids.{is_id_byte, id_len, closes_id, ids_of}
use Rattle.mail_reader.specs.Laws.{IsMessageId, IsPieceOf, IdsArePieces, IdsInOrder}
use Rattle.mail_reader.proofs.Trims.{NoByte}
use Rattle.mail_reader.proofs.IdPieces.{ids_of-after}
use Rattle.mail_reader.proofs.IdLines.{passed_id_byte, id_bytes, id_len-at, free_of}

-- An element of a list is its first, or one of the others.
pub contains_cases : {X : Type 0} (x : X) (xs : List X) (y : X) → Contains (x ∷ xs) y → (x ≡ y) ⊎ Contains xs y
contains_cases x xs y (zero, l, e) = inl e
contains_cases x xs y (suc k, l, e) = inr (k, omega arith, e)

-- A piece of bytes with one more byte at their front.
pub lies_after : (piece : List ℕ) (b : ℕ) (bs : List ℕ) → IsPieceOf piece bs → IsPieceOf piece (b ∷ bs)
lies_after piece b bs l = record { before = b ∷ l.before; after = l.after; is = ap (λ t. b ∷ t) l.is }

-- What a bracket closes is an id.
closed_is : (bs : List ℕ) → closes_id bs ≡ true → IsMessageId (60 ∷ take (id_len bs + 1) bs) × IsPieceOf (60 ∷ take (id_len bs + 1) bs) (60 ∷ bs)
closed_is bs e =
    let n = id_len bs in
    let first = and_parts (nat_le 1 n && nat_le n 248) _ e in
    let len = and_parts (nat_le 1 n) (nat_le n 248) first.0 in
    let close : get_or bs n 0 ≡ 62 = eqb-true (get_or bs n 0) 62 first.1 in
    let within : n ≤ length bs = prefix_len-le-length is_id_byte bs in
    let here : n < length bs = grind (arith, get_or_past bs n 0) in
    let piece : take (n + 1) bs ≡ take n bs ++ 62 ∷ [] = take_more bs n 0 here ∙ ap (λ b. take n bs ++ b ∷ []) close in
    let inside_len : length (take n bs) ≡ n = length-prefix_len is_id_byte bs in (
      record {
        inside = take n bs;
        is = ap (λ t. 60 ∷ t) piece;
        some = let low : 1 ≤ n = leb-true 1 n len.0 in omega arith;
        short = let high : n ≤ 248 = leb-true n 248 len.1 in omega arith;
        bytes = λ k d l.
            let below : k < n = omega arith in
            passed_id_byte (get_or (take n bs) k d) (ap is_id_byte (get_or-take n bs k d below) ∙ prefix_len_passes is_id_byte bs k d below);
      },
      record { before = []; after = drop (n + 1) bs; is = ap (λ t. 60 ∷ t) (sym (take-append-drop (n + 1) bs)) },
    )

-- Each id is a piece.
ids_step : (t u : Bool) (b : ℕ) (bs id : List ℕ) → eqb b 60 ≡ t → closes_id bs ≡ u
    → (Contains (ids_of bs) id → IsMessageId id × IsPieceOf id bs)
    → Contains (cond (t && u) ((60 ∷ take (id_len bs + 1) bs) ∷ ids_of bs) (ids_of bs)) id → IsMessageId id × IsPieceOf id (b ∷ bs)
ids_step true true b bs id e f ih h =
    let closed = closed_is bs f in
    let P : List ℕ → Type 0 = λ x. IsMessageId x × IsPieceOf x (b ∷ bs) in
    let same : b ≡ 60 = eqb-true b 60 e in
    let Q : ℕ → Type 0 = λ c. IsPieceOf (60 ∷ take (id_len bs + 1) bs) (c ∷ bs) in
    let here : P (60 ∷ take (id_len bs + 1) bs) = (closed.0, subst Q (sym same) closed.1) in
    elim (contains_cases (60 ∷ take (id_len bs + 1) bs) (ids_of bs) id h) as (λ _. IsMessageId id × IsPieceOf id (b ∷ bs)) [
      | inl is ↦ subst P is here
      | inr later ↦ ((ih later).0, lies_after id b bs (ih later).1)
    ]
ids_step true false b bs id e f ih h = ((ih h).0, lies_after id b bs (ih h).1)
ids_step false u b bs id e f ih h = ((ih h).0, lies_after id b bs (ih h).1)

ids_lie : (value id : List ℕ) → Contains (ids_of value) id → IsMessageId id × IsPieceOf id value
ids_lie [] id (k, l, e) = absurd (omega arith)
ids_lie (b ∷ bs) id h = ids_step (eqb b 60) (closes_id bs) b bs id refl refl (λ later. ids_lie bs id later) h

-- An opening bracket closes nothing that is before it.
id_len-before : (bs rest : List ℕ) → id_len (bs ++ 60 ∷ rest) ≡ id_len bs
id_len-before [] rest = refl
id_len-before (b ∷ bs) rest = ap (λ n. cond (is_id_byte b) (1 + n) 0) (id_len-before bs rest)

at_len : (bs rest : List ℕ) (n : ℕ) → n ≤ length bs → eqb (get_or (bs ++ 60 ∷ rest) n 0) 62 ≡ eqb (get_or bs n 0) 62
at_len [] rest zero l = refl
at_len [] rest (suc n) l = absurd (omega arith)
at_len (b ∷ bs) rest zero l = refl
at_len (b ∷ bs) rest (suc n) l = at_len bs rest n (omega arith)

closes-before : (bs rest : List ℕ) → closes_id (bs ++ 60 ∷ rest) ≡ closes_id bs
closes-before bs rest =
    rw (id_len-before bs rest) (ap (λ t. (nat_le 1 (id_len bs) && nat_le (id_len bs) 248) && t) (at_len bs rest (id_len bs) (prefix_len-le-length is_id_byte bs)))

-- As much of an id as is closed is before the bracket, too.
take-before : (bs rest : List ℕ) → closes_id bs ≡ true → take (id_len bs + 1) (bs ++ 60 ∷ rest) ≡ take (id_len bs + 1) bs
take-before bs rest e =
    let n = id_len bs in
    let first = and_parts (nat_le 1 n && nat_le n 248) _ e in
    let close : get_or bs n 0 ≡ 62 = eqb-true (get_or bs n 0) 62 first.1 in
    let within : n ≤ length bs = prefix_len-le-length is_id_byte bs in
    let here : n < length bs = grind (arith, get_or_past bs n 0) in
    take-le (n + 1) bs (60 ∷ rest) (omega arith)
  where
    take-le : (m : ℕ) (xs ys : List ℕ) → m ≤ length xs → take m (xs ++ ys) ≡ take m xs
    take-le zero xs ys l = refl
    take-le (suc m) [] ys l = absurd (omega arith)
    take-le (suc m) (x ∷ xs) ys l = ap (λ t. x ∷ t) (take-le m xs ys (omega arith))

before_step : (t u : Bool) (bs rest : List ℕ) (later : List (List ℕ)) → closes_id bs ≡ u → ids_of (bs ++ 60 ∷ rest) ≡ ids_of bs ++ later
    → cond (t && u) ((60 ∷ take (id_len bs + 1) (bs ++ 60 ∷ rest)) ∷ ids_of (bs ++ 60 ∷ rest)) (ids_of (bs ++ 60 ∷ rest))
    ≡ cond (t && u) ((60 ∷ take (id_len bs + 1) bs) ∷ ids_of bs) (ids_of bs) ++ later
before_step true true bs rest later f ih = (λ i. (60 ∷ take-before bs rest f i) ∷ ih i)
before_step true false bs rest later f ih = ih
before_step false u bs rest later f ih = ih

-- The ids before a bracket are those of the bytes before it.
ids_before : (bs rest : List ℕ) → ids_of (bs ++ 60 ∷ rest) ≡ ids_of bs ++ ids_of (60 ∷ rest)
ids_before [] rest = refl
ids_before (b ∷ bs) rest =
    rw (closes-before bs rest, id_len-before bs rest) (before_step (eqb b 60) (closes_id bs) bs rest (ids_of (60 ∷ rest)) refl (ids_before bs rest))

-- An id, and the bytes after it.
ids_here : (id after : List ℕ) → IsMessageId id → ids_of (id ++ after) ≡ id ∷ ids_of after
ids_here id after h =
    let inside = h.inside in
    let len : id_len (inside ++ 62 ∷ after) ≡ length inside = id_len-at inside after h.bytes in
    let closed : closes_id (inside ++ 62 ∷ after) ≡ true =
    rw (len, le-leb 1 (length inside) h.some, le-leb (length inside) 248 h.short, get_or_at inside 62 after 0 (length inside) refl) refl in
    let is : id ++ after ≡ 60 ∷ (inside ++ 62 ∷ after) = ap (λ t. t ++ after) h.is ∙ ap (λ t. 60 ∷ t) (append_assoc inside (62 ∷ []) after) in
    let piece : take (id_len (inside ++ 62 ∷ after) + 1) (inside ++ 62 ∷ after) ≡ inside ++ 62 ∷ [] =
    ap (λ n. take (n + 1) (inside ++ 62 ∷ after)) len ∙ ap (take (length inside + 1)) (sym (append_assoc inside (62 ∷ []) after)) ∙ take_at (inside ++ 62 ∷ []) after (length inside + 1) (length-append inside (62 ∷ [])) in
    let free : NoByte 60 inside = free_of 60 refl inside (id_bytes inside h.bytes) in
    let rest : ids_of (inside ++ 62 ∷ after) ≡ ids_of after = ids_of-after inside (62 ∷ after) free in
    ap ids_of is ∙ rw closed ((λ i. (60 ∷ piece i) ∷ rest i) ∙ ap (λ t. t ∷ ids_of after) (sym h.is))

pub in_order : IdsInOrder
in_order before id after h =
    let is : id ++ after ≡ 60 ∷ (h.inside ++ 62 ∷ after) = ap (λ t. t ++ after) h.is ∙ ap (λ t. 60 ∷ t) (append_assoc h.inside (62 ∷ []) after) in
    ap (λ t. ids_of (before ++ t)) is ∙ ids_before before (h.inside ++ 62 ∷ after) ∙ ap (λ t. ids_of before ++ ids_of t) (sym is)
    ∙ ap (λ t. ids_of before ++ t) (ids_here id after h)

pub are_pieces : IdsArePieces
are_pieces value id = (ids_lie value id, λ both. pieces_are value id both)
  where
    pieces_are : (value id : List ℕ) → IsMessageId id × IsPieceOf id value → Contains (ids_of value) id
    pieces_are value id both =
        let l = both.1 in
        let all : ids_of value ≡ ids_of l.before ++ id ∷ ids_of l.after = ap ids_of l.is ∙ in_order l.before id l.after both.0 in
        let P : List (List ℕ) → Type 0 = λ ids. Contains ids id in
        let first : Contains (id ∷ ids_of l.after) id = (0, omega arith, refl) in
        subst P (sym all) (Contains-append_right (ids_of l.before) (id ∷ ids_of l.after) id first)
