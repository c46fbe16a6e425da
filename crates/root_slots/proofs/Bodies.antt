-- The body of a slot, as a part of the file.
use Rattle.std.specs.Prelude.{◌≡◌, ◌⊎◌, ℕ, ◌+◌, ◌-◌, ◌<◌, List, take, drop}
use Rattle.std.specs.Int.{from_be_bytes, w64}
use Rattle.std.proofs.Common.{◌∙◌, ap, sym, subst, inl, inr, arith}
use Rattle.std.proofs.lemmas.Bool.{cases_eq}
use Rattle.root_slots.specs.Spelling.{body_size}
use Rattle.root_slots.specs.Slots.{gate, body_offset, body_at, sequence_of, Precedes, Current}

-- The part of the file, cut at an offset that a call gave.
pub body_slice : (file : List ℕ) (slot start : ℕ) → start ≡ body_offset slot → take (start + body_size - start) (drop start file) ≡ body_at file slot
unfolding body_at
body_slice file slot start is =
    let size : body_offset slot + body_size - body_offset slot ≡ body_size = omega arith in
    ap (λ (k : ℕ). take (k + body_size - k) (drop k file)) is ∙ ap (λ (n : ℕ). take n (drop (body_offset slot) file)) size

-- The sequence of the body.
pub sequence_slice : (file : List ℕ) (slot start value : ℕ) → start ≡ body_offset slot → value ≡ from_be_bytes w64 (take 8 (take (start + body_size - start) (drop start file))) → value ≡ sequence_of (body_at file slot)
unfolding sequence_of
sequence_slice file slot start value is gives = gives ∙ ap (λ (b : List ℕ). from_be_bytes w64 (take 8 b)) (body_slice file slot start is)

-- Two slots whose bodies precede each other's are both slot 0.
precede_both : (m n s t : ℕ) → (m < n) ⊎ ((m ≡ n) × (s ≡ 0)) → (n < m) ⊎ ((n ≡ m) × (t ≡ 0)) → s ≡ t
precede_both m n s t left right = grind arith

-- A file has one current root.
pub same_slot : (s t : ℕ) (a b file : List ℕ) → Current s a file → Current t b file → s ≡ t
same_slot s t a b file p q = elim (cases_eq s t) [
  | inl same ↦ same
  | inr apart ↦
      let low = p.in_range in
      let under = q.in_range in
      precede_both (sequence_of b) (sequence_of a) s t (older s t a b p q (omega (arith, apart, low, under))) (older t s b a q p (omega (arith, apart, low, under)))
] where
  older : (m n : ℕ) (c d : List ℕ) → Current m c file → Current n d file → 1 - m ≡ n → Precedes d c m
  older m n c d here there is =
      let before = here.newest (subst (λ (k : ℕ). gate file k ≡ 1) (sym is) there.opened) in
      subst (λ (body : List ℕ). Precedes body c m) (ap (body_at file) is ∙ there.holds) before
