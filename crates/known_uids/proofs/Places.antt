-- Sequence numbers of UIDs.
use Rattle.std.proofs.Common.{◌≡◌, ◌≢◌, ◌+◌, ◌<◌, ◌≤◌, ◌==◌, ℕ, zero, suc, List, [], ◌∷◌, length, get_or, Some, None, refl, ap, ◌∙◌, arith, if◌then◌else◌}
use Rattle.known_uids.specs.Told.{RisesBelow, sequence_from}
use Rattle.known_uids.proofs.Rising.{apart, same}

-- Later numbers aren't less.
pub rising-at : (first : ℕ) (ns : List ℕ) (bound i : ℕ) → RisesBelow first ns bound → i < length ns → first ≤ get_or ns i 0
rising-at first [] bound i rises within = absurd (omega (arith, within))
rising-at first (n ∷ ns) bound zero rises within = rises.0
rising-at first (n ∷ ns) bound (suc i) rises within = let more : n + 1 ≤ get_or ns i 0 = rising-at (n + 1) ns bound i rises.1 (omega (arith, within)) in omega (arith, rises.0, more)

pub rising-sorted : (first : ℕ) (ns : List ℕ) (bound : ℕ) → RisesBelow first ns bound → (i j : ℕ) → i ≤ j → j < length ns → get_or ns i 0 ≤ get_or ns j 0
rising-sorted first [] bound rises i j le within = absurd (omega (arith, within))
rising-sorted first (n ∷ ns) bound rises zero zero le within = omega arith
rising-sorted first (n ∷ ns) bound rises zero (suc j) le within = let more : n + 1 ≤ get_or ns j 0 = rising-at (n + 1) ns bound j rises.1 (omega (arith, within)) in omega (arith, more)
rising-sorted first (n ∷ ns) bound rises (suc i) zero le within = absurd (omega (arith, le))
rising-sorted first (n ∷ ns) bound rises (suc i) (suc j) le within = rising-sorted (n + 1) ns bound rises.1 i j (omega (arith, le)) (omega (arith, within))

-- The sequence number of the UID at a place.
pub sequence-at : (first : ℕ) (ns : List ℕ) (bound sequence i uid : ℕ) → RisesBelow first ns bound → i < length ns → get_or ns i 0 ≡ uid → sequence_from sequence ns uid ≡ Some (sequence + i)
sequence-at first [] bound sequence i uid rises within is = absurd (omega (arith, within))
sequence-at first (n ∷ ns) bound sequence zero uid rises within is =
    let at : sequence ≡ sequence + 0 = omega arith in
    ap (λ t. if t then Some sequence else sequence_from (sequence + 1) ns uid) (ap (λ k. k == uid) is ∙ same uid) ∙ ap (λ k. Some k) at
sequence-at first (n ∷ ns) bound sequence (suc i) uid rises within is =
    let more : n + 1 ≤ get_or ns i 0 = rising-at (n + 1) ns bound i rises.1 (omega (arith, within)) in
    let at : sequence + 1 + i ≡ sequence + suc i = omega arith in
    ap (λ t. if t then Some sequence else sequence_from (sequence + 1) ns uid) (apart n uid (λ e. omega (arith, e, is, more)))
    ∙ sequence-at (n + 1) ns bound (sequence + 1) i uid rises.1 (omega (arith, within)) is ∙ ap (λ k. Some k) at

-- None has a UID that none is.
pub sequence-none : (ns : List ℕ) (sequence uid : ℕ) → ((i : ℕ) → i < length ns → get_or ns i 0 ≢ uid) → sequence_from sequence ns uid ≡ None
sequence-none [] sequence uid none = refl
sequence-none (n ∷ ns) sequence uid none =
    ap (λ t. if t then Some sequence else sequence_from (sequence + 1) ns uid) (apart n uid (none 0 (omega arith)))
    ∙ sequence-none ns (sequence + 1) uid (λ i within. none (suc i) (omega (arith, within)))
