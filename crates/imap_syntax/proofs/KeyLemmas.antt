-- Keys by their first octet, and keys read one after another.
use Rattle.std.proofs.Common.{◌≡◌, ◌-◌, ◌==◌, ℕ, suc, false, List, slice_index, refl, sym, ap, ◌∙◌, ne_eqb, arith}
use Rattle.imap_words.specs.Kinds.{is_digit}
use Rattle.imap_syntax.specs.Keys.{named_at, key_by, key_at}

-- A key that begins with no digit, `*` or `(` begins with a keyword.
pub key_named : (depth first : ℕ) (octets : List ℕ) → (depth ≡ 0 → ⊥) → first ≡ slice_index octets 0
    → is_digit first ≡ false → (first ≡ 42 → ⊥) → (first ≡ 40 → ⊥)
    → key_at depth octets ≡ named_at (key_at (depth - 1)) octets
unfolding key_by
key_named depth first octets some f d s p =
    let n : depth ≡ suc (depth - 1) = omega arith in
    let d' : is_digit (slice_index octets 0) ≡ false = ap is_digit (sym f) ∙ d in
    let s' : (slice_index octets 0 == 42) ≡ false = ap (λ k. k == 42) (sym f) ∙ ne_eqb first 42 s in
    let p' : (slice_index octets 0 == 40) ≡ false = ap (λ k. k == 40) (sym f) ∙ ne_eqb first 40 p in
    ap (λ k. key_at k octets) n ∙ rw d' (rw s' (rw p' refl))
