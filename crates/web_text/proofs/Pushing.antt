-- Pieces that are appended one after another.
use Rattle.std.proofs.Common.{◌≡◌, ℕ, ◌≤◌, cond, List, ◌++◌, length, take, Result, Ok, Err, OnOk, is_ok, sym, ap, ◌∙◌, arith, append_assoc, length-take}
use Rattle.std.proofs.lemmas.List.{take-take, take-append-le, take_all}

-- One piece more.
pub grown : (first old new front piece : List ℕ) → old ≡ first ++ front → new ≡ old ++ piece → new ≡ first ++ (front ++ piece)
grown first old new front piece so_far e = e ∙ ap (λ t. t ++ piece) so_far ∙ append_assoc first front piece

-- The last piece.
pub last_grown : {E : Type 0} (r : Result Unit E) (first old new front piece : List ℕ) → old ≡ first ++ front → new ≡ cond (is_ok r) (old ++ piece) old
    → OnOk r (new ≡ first ++ (front ++ piece))
last_grown (Ok done) first old new front piece so_far e = grown first old new front piece so_far e
last_grown (Err why) first old new front piece so_far e = tt

-- The last piece, of a call that says nothing of a failure.
pub last_ok : {E : Type 0} {A B : Type 0} (r : Result Unit E) → (A → B) → OnOk r A → OnOk r B
last_ok (Ok done) f a = f a
last_ok (Err why) f a = tt

-- What stood there at first stays in front, step by step.
pub kept-on : (old now new : List ℕ) → take (length old) now ≡ old → take (length now) new ≡ now → take (length old) new ≡ old
kept-on old now new first second =
    let within : length old ≤ length now = omega (arith, length-take (length old) now, ap length first) in
    let shorter : take (length old) (take (length now) new) ≡ take (length old) new = take-take (length old) (length now) new within in
    sym shorter ∙ ap (take (length old)) second ∙ first

-- It stays in front where a piece is appended.
pub kept-more : (old now new piece : List ℕ) → take (length old) now ≡ old → new ≡ now ++ piece → take (length old) new ≡ old
kept-more old now new piece kept e =
    let within : length now ≤ length now = omega arith in
    kept-on old now new kept (ap (take (length now)) e ∙ take-append-le (length now) now piece within ∙ take_all (length now) now within)
