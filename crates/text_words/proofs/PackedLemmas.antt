-- Words in one list of bytes: one of them, and one more.
use Rattle.std.proofs.Common.{◌≡◌, ◌+◌, ◌-◌, ◌<◌, ◌≤◌, ℕ, zero, suc, List, [], ◌∷◌, ◌++◌, length, take, drop, get_or, refl, sym, ap, ◌∙◌, arith}
use Rattle.std.proofs.lemmas.List.{take_all, take-append-le, drop_at}
use Rattle.std.proofs.lemmas.Slice.{between_is}
use Rattle.std.specs.List.{between}
use Rattle.text_words.specs.Packed.{cut_at, RisesTo, start_at}

-- There are as many words as ends.
pub length-cut : (bytes : List ℕ) (start : ℕ) (ends : List ℕ) → length (cut_at bytes start ends) ≡ length ends
length-cut bytes start [] = refl
length-cut bytes start (end ∷ ends) = ap suc (length-cut bytes end ends)

-- The last place isn't before the first one.
first-le : (start : ℕ) (ends : List ℕ) (last : ℕ) → RisesTo start ends last → start ≤ last
first-le start [] last h = omega (arith, h)
first-le start (end ∷ ends) last h = let more = first-le end ends last h.1 in let here = h.0 in omega (arith, more, here)

-- A word ends no earlier than it starts.
start-le : (start : ℕ) (ends : List ℕ) (last i : ℕ) → RisesTo start ends last → i < length ends → get_or (start ∷ ends) i 0 ≤ get_or ends i 0
start-le start [] last i h within = absurd (omega arith)
start-le start (end ∷ ends) last zero h within = h.0
start-le start (end ∷ ends) last (suc i) h within = start-le end ends last i h.1 (omega arith)

pub starts-within : (ends : List ℕ) (last i : ℕ) → RisesTo 0 ends last → i < length ends → start_at ends i ≤ get_or ends i 0
starts-within ends last i h within = start-le 0 ends last i h within

-- A word ends within the bytes.
pub end-le : (start : ℕ) (ends : List ℕ) (last i : ℕ) → RisesTo start ends last → i < length ends → get_or ends i 0 ≤ last
end-le start [] last i h within = absurd (omega arith)
end-le start (end ∷ ends) last zero h within = first-le end ends last h.1
end-le start (end ∷ ends) last (suc i) h within = end-le end ends last i h.1 (omega arith)

-- A word lies between its start and its end.
pub get-cut : (bytes : List ℕ) (start : ℕ) (ends : List ℕ) (i : ℕ) → i < length ends → get_or (cut_at bytes start ends) i [] ≡ between (get_or (start ∷ ends) i 0) (get_or ends i 0) bytes
get-cut bytes start [] i within = absurd (omega arith)
get-cut bytes start (end ∷ ends) zero within = refl
get-cut bytes start (end ∷ ends) (suc i) within = get-cut bytes end ends i (omega arith)

-- A place that isn't before the last one goes on.
pub rises-more : (start : ℕ) (ends : List ℕ) (last more : ℕ) → RisesTo start ends last → last ≤ more → RisesTo start (ends ++ more ∷ []) more
rises-more start [] last more h on = ((omega (arith, h)), refl)
rises-more start (end ∷ ends) last more h on = (h.0, rises-more end ends last more h.1 on)

-- Bytes that are put at the end leave a word.
between-kept : (bytes more : List ℕ) (start end : ℕ) → end ≤ length bytes → between start end (bytes ++ more) ≡ between start end bytes
between-kept bytes more start end within =
    between_is (bytes ++ more) start end ∙ ap (drop start) (take-append-le end bytes more within) ∙ sym (between_is bytes start end)

-- They are the bytes from where the others end.
between-last : (bytes more : List ℕ) (start end : ℕ) → start ≡ length bytes → end ≡ length bytes + length more → between start end (bytes ++ more) ≡ more
between-last bytes more start end is_start is_end =
    let all : length more ≤ end - start = omega (arith, is_start, is_end) in
    ap (take (end - start)) (drop_at bytes more start (sym is_start)) ∙ take_all (end - start) more all

-- One word more.
pub cut-more : (bytes more : List ℕ) (start : ℕ) (ends : List ℕ) (end : ℕ) → RisesTo start ends (length bytes) → end ≡ length bytes + length more → cut_at (bytes ++ more) start (ends ++ end ∷ []) ≡ cut_at bytes start ends ++ more ∷ []
cut-more bytes more start [] end h is = ap (λ (w : List ℕ). w ∷ []) (between-last bytes more start end h is)
cut-more bytes more start (first ∷ ends) end h is =
    ap (λ (w : List ℕ). w ∷ cut_at (bytes ++ more) first (ends ++ end ∷ [])) (between-kept bytes more start first (first-le first ends (length bytes) h.1))
    ∙ ap (λ (ws : List (List ℕ)). between start first bytes ∷ ws) (cut-more bytes more first ends end h.1 is)

-- A word that is there has an end.
pub has-end : (bytes ends : List ℕ) (words : List (List ℕ)) (i : ℕ) → cut_at bytes 0 ends ≡ words → i < length words → i < length ends
has-end bytes ends words i is within = omega (arith, length-cut bytes 0 ends, ap length is)
