-- The least live number of a range, and the others.
use Rattle.std.proofs.Common.{◌≡◌, ◌+◌, ◌-◌, ◌<◌, ◌≤◌, ℕ, zero, suc, Bool, true, false, [], ◌∷◌, Some, None, is_some, refl, sym, ap, subst, ◌∙◌, arith}
use Rattle.std.specs.List.{filter, range_with_len}
use Rattle.arch_model.specs.Archives.{Archive, live, text_of}
use Rattle.arch_model.specs.Standing.{IsLeastLive}
use Rattle.known_uids.specs.Told.{is_live, passing, live_in}
use Rattle.known_uids.proofs.Passing.{filter-yes, filter-no}

range-none : (test : ℕ → Bool) (first count : ℕ) → ((n : ℕ) → first ≤ n → n < first + count → test n ≡ false) → filter test (range_with_len first count) ≡ []
range-none test first zero none = refl
range-none test first (suc count) none =
    filter-no test first (range_with_len (first + 1) count) (none first (omega arith) (omega arith))
    ∙ range-none test (first + 1) count (λ n low high. none n (omega (arith, low)) (omega (arith, high)))

range-first : (test : ℕ → Bool) (first before after : ℕ) → ((n : ℕ) → first ≤ n → n < first + before → test n ≡ false) → test (first + before) ≡ true
    → filter test (range_with_len first (before + suc after)) ≡ (first + before) ∷ filter test (range_with_len (first + before + 1) after)
range-first test first zero after none hit =
    let here : first ≡ first + 0 = omega arith in
    let size : 0 + suc after ≡ suc after = omega arith in
    ap (λ n. filter test (range_with_len first n)) size
    ∙ subst (λ k. test k ≡ true → filter test (range_with_len first (suc after)) ≡ k ∷ filter test (range_with_len (k + 1) after)) here (λ hit'. filter-yes test first (range_with_len (first + 1) after) hit') hit
range-first test first (suc before) after none hit =
    let here : first + 1 + before ≡ first + suc before = omega arith in
    let size : suc before + suc after ≡ suc (before + suc after) = omega arith in
    ap (λ n. filter test (range_with_len first n)) size
    ∙ filter-no test first (range_with_len (first + 1) (before + suc after)) (none first (omega arith) (omega arith))
    ∙ range-first test (first + 1) before after (λ n low high. none n (omega (arith, low)) (omega (arith, high))) (subst (λ k. test k ≡ true) (sym here) hit)
    ∙ ap (λ k. k ∷ filter test (range_with_len (k + 1) after)) here

pub passing-none : (test : ℕ → Bool) (first last : ℕ) → ((n : ℕ) → first ≤ n → n ≤ last → test n ≡ false) → passing test first last ≡ []
unfolding passing
passing-none test first last none = range-none test first (last + 1 - first) (λ n low high. none n low (omega (arith, low, high)))

pub passing-first : (test : ℕ → Bool) (first last found : ℕ) → first ≤ found → found ≤ last → ((n : ℕ) → first ≤ n → n < found → test n ≡ false) → test found ≡ true
    → passing test first last ≡ found ∷ passing test (found + 1) last
unfolding passing
passing-first test first last found low high none hit =
    let at : first + (found - first) ≡ found = omega (arith, low) in
    let size : last + 1 - first ≡ (found - first) + suc (last - found) = omega (arith, low, high) in
    let rest : last - found ≡ last + 1 - (found + 1) = omega arith in
    ap (λ n. filter test (range_with_len first n)) size
    ∙ range-first test first (found - first) (last - found) (λ n above below. none n above (omega (arith, below, low))) (subst (λ k. test k ≡ true) (sym at) hit)
    ∙ ap (λ k. k ∷ filter test (range_with_len (k + 1) (last - found))) at ∙ ap (λ n. found ∷ filter test (range_with_len (found + 1) n)) rest

dead : (a : Archive) (n : ℕ) → text_of (live a.entries) n ≡ None → is_live a n ≡ false
dead a n none = ap is_some none

pub least-within : (a : Archive) (first last found : ℕ) → IsLeastLive (live a.entries) first (Some found) → found ≤ last → live_in a first last ≡ found ∷ live_in a (found + 1) last
least-within a first last found least high = passing-first (is_live a) first last found least.0 high (λ n low less. dead a n (least.2 n low less)) least.1

pub least-beyond : (a : Archive) (first last found : ℕ) → IsLeastLive (live a.entries) first (Some found) → last < found → live_in a first last ≡ []
least-beyond a first last found least beyond = passing-none (is_live a) first last (λ n low le. dead a n (least.2 n low (omega (arith, le, beyond))))

pub least-none : (a : Archive) (first last : ℕ) → IsLeastLive (live a.entries) first None → live_in a first last ≡ []
least-none a first last least = passing-none (is_live a) first last (λ n low le. dead a n (least n low))

-- A range whose first number is after its last has none.
pub range-empty : (a : Archive) (first last : ℕ) → last < first → live_in a first last ≡ []
range-empty a first last less = passing-none (is_live a) first last (λ n low le. absurd (omega (arith, low, le, less)))
