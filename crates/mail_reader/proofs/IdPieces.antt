-- The ids of a value, piece by piece.
use Rattle.std.proofs.Common.{◌≡◌, ℕ, ◌+◌, ◌<◌, ◌≤◌, suc, Bool, true, false, cond, eqb, ◌&&◌, List, [], ◌∷◌, ◌++◌, length, take, drop, get_or, Option, None, Some, MatchOption, refl, sym, ap, ◌∙◌, arith, length-drop}
use Rattle.std.specs.Borrow.{Bor}
use Rattle.std.specs.Prelude.{option_copied}
use Rattle.mail_reader.specs.Ids.{id_len, closes_id, ids_of, first_of, OpensId}
use Rattle.mail_reader.proofs.Trims.{NoByte}

-- Bytes without an opening bracket have no ids.
pub ids_of-none : (xs : List ℕ) → NoByte 60 xs → ids_of xs ≡ []
ids_of-none [] h = refl
ids_of-none (x ∷ xs) h = rw h.0 (ids_of-none xs h.1)

-- They hide no ids after them.
pub ids_of-after : (xs rest : List ℕ) → NoByte 60 xs → ids_of (xs ++ rest) ≡ ids_of rest
ids_of-after [] rest h = refl
ids_of-after (x ∷ xs) rest h = rw h.0 (ids_of-after xs rest h.1)

-- The value from the first bracket on.
pub opens_id : (xs : List ℕ) (k : ℕ) → k < length xs → NoByte 60 (take k xs) → get_or xs k 0 ≡ 60 → drop k xs ≡ 60 ∷ drop (k + 1) xs
    → xs ≡ take k xs ++ 60 ∷ drop (k + 1) xs → OpensId xs (drop k xs)
opens_id xs k h free here rest split = record {
  ids = ap ids_of split ∙ ids_of-after (take k xs) (60 ∷ drop (k + 1) xs) free ∙ ap ids_of (sym rest);
  bracket = ap (λ t. get_or t 0 0) rest;
  some = omega (arith, length-drop k xs);
  within = omega (arith, length-drop k xs);
}

-- There are no more ids than bytes.
pub length-ids_of : (xs : List ℕ) → length (ids_of xs) ≤ length xs
length-ids_of [] = omega arith
length-ids_of (x ∷ xs) = step (eqb x 60 && closes_id xs) (60 ∷ take (id_len xs + 1) xs) (ids_of xs) (length xs) (length-ids_of xs)
  where
    step : (t : Bool) (id : List ℕ) (ids : List (List ℕ)) (n : ℕ) → length ids ≤ n → length (cond t (id ∷ ids) ids) ≤ suc n
    step true id ids n h = omega arith
    step false id ids n h = omega arith

-- The next id of the iterator is the first of its list.
pub first_is : (r : Option (Bor (List ℕ))) (ids rest : List (List ℕ)) → MatchOption r ((ids ≡ []) × (rest ≡ [])) (λ (id : Bor (List ℕ)). ids ≡ id.now ∷ rest) → option_copied r ≡ first_of ids
first_is None ids rest h = sym (ap first_of h.0)
first_is (Some id) ids rest h = sym (ap first_of h)
