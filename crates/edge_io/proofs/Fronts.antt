-- What a read removes from a source in memory.
use Rattle.std.proofs.Common.{◌≡◌, ◌<◌, ◌≤◌, ◌+◌, ◌-◌, ℕ, List, [], ◌∷◌, ◌++◌, length, take, drop, min, Some, refl, sym, ◌∙◌, ap, arith}
use Rattle.std.proofs.lemmas.Grind.{common_steps}
use Rattle.std.proofs.lemmas.List.{take-append-drop, length-take-le}
use Rattle.std.proofs.Math.Seq.{take-append_seam}
use Rattle.edge_io.specs.Left.{GaveBytes}

-- A list of length 0 is empty.
pub nil_from_length : {A : Type 0} (xs : List A) → length xs ≡ 0 → xs ≡ []
nil_from_length [] h = refl
nil_from_length (x ∷ xs) h = absurd (omega arith)

-- The rest after an offset, as the code slices it.
pub take_rest : (xs : List ℕ) (k : ℕ) → take (length xs - k) (drop k xs) ≡ drop k xs
take_rest xs k = grind (arith, common_steps)

-- The rest after an offset and a count.
drop-further : (bytes : List ℕ) (at count : ℕ) → drop (at + count) bytes ≡ drop count (drop at bytes)
drop-further bytes at count = grind (arith, common_steps)

-- The front of a list that more bytes follow.
take-front : (left copied more : List ℕ) (count : ℕ) → count ≤ length left → copied ≡ take count left → take count (copied ++ more) ≡ take count left
take-front left copied more count within front =
    let len : length copied ≡ count = ap length front ∙ length-take-le count left within in
    ap (λ n. take n (copied ++ more)) (sym len) ∙ take-append_seam copied more ∙ front

-- A list is its front followed by the rest.
front-after : (bytes copied more : List ℕ) (at count : ℕ) → count ≤ length (drop at bytes) → copied ≡ take count (drop at bytes)
    → drop at bytes ≡ take count (copied ++ more) ++ drop (at + count) bytes
front-after bytes copied more at count within front =
    rw (take-front (drop at bytes) copied more count within front, drop-further bytes at count) (sym (take-append-drop count (drop at bytes)))

-- A read of `count` bytes into the front of a buffer removes them from the remaining bytes.
pub gave-front : (bytes into copied : List ℕ) (at count : ℕ) → 0 < length into → count ≡ min (length (drop at bytes)) (length into)
    → copied ≡ take count (drop at bytes) → GaveBytes count (copied ++ drop count into) (Some (drop at bytes)) (Some (drop (at + count) bytes))
gave-front bytes into copied at count some is front = record {
  taken = ap Some (front-after bytes copied (drop count into) at count (omega arith) front);
  end = λ none. nil_from_length (drop at bytes) (omega arith);
}
