-- A value without `=?` is text.
use Rattle.std.proofs.Common.{◌≡◌, ◌+◌, ◌∙◌, ℕ, suc, Bool, true, false, cond, ◌&&◌, nat_eq, List, [], ◌∷◌, drop, get_or, Some, None, option_and_then, refl, ap, sym, append-nil, arith, eqb-true}
use Rattle.std.specs.List.{flat_map}
use Rattle.std.specs.Str.Lossy.{utf8_lossy}
use Rattle.std.proofs.lemmas.Str.{utf8_lossy_empty}
use Rattle.mime_words.specs.Words.{word_at, opened_word, pieces, plain}
use Rattle.mime_words.specs.Decoding.{text_of, joined, without_gaps, decoded}
use Rattle.mime_words.specs.Laws.{HasNoOpening}
use Rattle.mime_words.proofs.Cutting.{pieces-no_word}
use Rattle.mime_words.proofs.Joining.{piece, joined_plain}
use Rattle.mime_words.proofs.Gaps.{without_gaps-end}

not_both : (x y : Bool) → (x ≡ true → y ≡ true → ⊥) → (x && y) ≡ false
not_both true true h = absurd (h refl refl)
not_both true false h = refl
not_both false y h = refl

pub no_word : (b : ℕ) (bs : List ℕ) → (b ≡ 61 → get_or bs 0 0 ≡ 63 → ⊥) → word_at (b ∷ bs) ≡ None
no_word b bs h =
    ap (λ t. option_and_then opened_word (cond t (Some (drop 2 (b ∷ bs))) None))
    (not_both (nat_eq b 61) (nat_eq (get_or bs 0 0) 63) (λ x y. h (eqb-true b 61 x) (eqb-true (get_or bs 0 0) 63 y)))

-- All of the value is text.
pub pieces-plain : (value : List ℕ) → HasNoOpening value → pieces value ≡ plain value
pieces-plain [] h = refl
pieces-plain (b ∷ bs) h =
    let later : HasNoOpening bs = λ k x y. h (suc k) x (let e : suc k + 1 ≡ suc (k + 1) = omega arith in rw e y) in
    pieces-no_word (b ∷ bs) (omega arith) (no_word b bs (h 0)) ∙ ap (λ ps. piece None (b ∷ []) ∷ ps) (pieces-plain bs later)

-- Text alone is read as UTF-8.
text-plain : (value : List ℕ) → flat_map text_of (joined (plain value)) ≡ utf8_lossy value
text-plain [] = sym (utf8_lossy_empty [] refl)
text-plain (b ∷ bs) =
    ap (λ ps. flat_map text_of (joined ps)) (sym (append-nil (plain (b ∷ bs)))) ∙ ap (flat_map text_of) (joined_plain b bs [])
    ∙ append-nil (utf8_lossy (b ∷ bs))

pub decoded-plain : (value : List ℕ) → HasNoOpening value → decoded value ≡ utf8_lossy value
unfolding decoded
decoded-plain value h =
    ap (λ ps. flat_map text_of (joined (without_gaps false ps))) (pieces-plain value h)
    ∙ ap (λ ps. flat_map text_of (joined ps)) (without_gaps-end false value) ∙ text-plain value
