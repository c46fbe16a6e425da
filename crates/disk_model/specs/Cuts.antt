-- Lemmas for proofs: what a crash may leave of a file that was cut: a file with the same prefix as
-- one from before.
use Rattle.std.specs.Prelude.{◌≡◌, ℕ, ◌<◌, ◌≤◌, Some, List, ◌++◌, length, get_or, take, drop, refl}
use Rattle.std.proofs.Common.{◌∙◌, sym, inl, inr, arith, length-take, length-drop, length-append}
use Rattle.std.proofs.lemmas.Bool.{cases_lt}
use Rattle.std.proofs.lemmas.Grind.{common_steps}
use Rattle.disk_model.specs.Disk.{Survival, MayHold, cut_sure}
use Rattle.disk_model.specs.Laws.{FrontOrigin}

-- The bytes of a file that a crash left after a cut, followed by the old ones.
abbrev spliced : ℕ → List ℕ → List ℕ → List ℕ
spliced n bytes seen = take n bytes ++ drop n seen

-- The first bytes are those of the image.
spliced_front : (n : ℕ) (bytes seen : List ℕ) (i : ℕ) → n ≤ length bytes → i < n
    → get_or (spliced n bytes seen) i 0 ≡ get_or bytes i 0
spliced_front n bytes seen i long below = grind (arith, common_steps)

-- The rest are the old bytes.
spliced_after : (n : ℕ) (bytes seen : List ℕ) (i : ℕ) → n ≤ length bytes → n ≤ i
    → get_or (spliced n bytes seen) i 0 ≡ get_or seen i 0
spliced_after n bytes seen i long above = grind (arith, common_steps)

-- Their number.
spliced_length : (n : ℕ) (bytes seen : List ℕ) → n ≤ length bytes → n ≤ length seen
    → length (spliced n bytes seen) ≡ length seen
spliced_length n bytes seen long inside = omega (
  arith,
  length-append {A = ℕ} (take n bytes) (drop n seen),
  length-take {A = ℕ} n bytes,
  length-drop {A = ℕ} n seen,
)

-- Their prefix is that of the image.
spliced_take : (n : ℕ) (bytes seen : List ℕ) → n ≤ length bytes
    → take n (spliced n bytes seen) ≡ take n bytes
spliced_take n bytes seen long = grind (arith, common_steps)

-- A file that a crash leaves after a cut below the least length has the prefix of one from before.
front_below : (n : ℕ) (s : Survival) (seen bytes : List ℕ) → n ≤ s.least → MayHold s seen
    → MayHold (cut_sure n s) bytes → FrontOrigin n s (Some bytes)
front_below n s seen bytes below h left =
    let least = left.no_shorter in
    let low = h.no_shorter in
    let high = h.no_longer in
    let long : n ≤ length bytes = omega (arith, below, least) in
    let inside : n ≤ length seen = omega (arith, below, low) in
    let size = spliced_length n bytes seen long inside in
    record {
      file = Some (spliced n bytes seen);
      fits = record {
        there = left.there;
        no_shorter = omega (arith, size, low);
        no_longer = omega (arith, size, high);
        outside = λ i under out.
            elim (cases_lt i n) [
              | inl front ↦
                  spliced_front n bytes seen i long front
                  ∙ left.outside i (omega (arith, under, front)) out
              | inr after ↦ spliced_after n bytes seen i long after ∙ h.outside i under out
            ];
      };
      same = sym (spliced_take n bytes seen long);
      long = λ l. long;
    }

-- A file that a crash leaves after a cut has the prefix of one from before.
pub cut_front : (n : ℕ) (s : Survival) (seen bytes : List ℕ) → MayHold s seen → MayHold (cut_sure n s) bytes
    → FrontOrigin n s (Some bytes)
cut_front n s seen bytes h left = elim (cases_lt s.least n) [
  | inl above ↦
      let least = left.no_shorter in
      record {
        file = Some bytes;
        fits = record {
          there = left.there;
          no_shorter = omega (arith, least, above);
          no_longer = left.no_longer;
          outside = λ i under out. left.outside i (omega (arith, under, above)) out;
        };
        same = refl;
        long = λ l. l;
      }
  | inr below ↦ front_below n s seen bytes below h left
]
