-- What lines cost, one after another.
use Rattle.std.proofs.Common.{◌≡◌, ◌<◌, ◌+◌, ◌==◌, ◌≤◌, ℕ, Bool, true, false, List, [], ◌∷◌, length, Option, Some, None, refl, sym, ap, ◌∙◌, arith, if◌then◌else◌}
use Rattle.std.specs.List.{sum_by}
use Rattle.std.proofs.lemmas.Bool.{lt-ltb, le-ltb}
use Rattle.std.proofs.lemmas.List.Sums.{sum_by-cons}
use Rattle.line_door.specs.Costs.{before_first, ended_lines, line_cost, lines_cost, LinesCostLaw}
use Rattle.line_door.specs.Lines.{content, first_line, put_before}
use Rattle.line_door.specs.Skipping.{Taken, Skipped, Unended, skipping_front}
use Rattle.line_door.proofs.Passages.{passed-taken, passed-skipped, passed-none}

-- The first line that has ended, and the others.
lines-first : (bytes line rest : List ℕ) → first_line bytes ≡ Some (line, rest) → ended_lines bytes ≡ line ∷ ended_lines rest
lines-first [] line rest is = absurd (cc is)
lines-first (b ∷ bs) line rest is = by (b == 10) (first_line bs) refl refl (λ l r e. lines-first bs l r e)
  where
    by : (t : Bool) (o : Option (List ℕ × List ℕ)) → (b == 10) ≡ t → first_line bs ≡ o → ((l r : List ℕ) → first_line bs ≡ Some (l, r) → ended_lines bs ≡ l ∷ ended_lines r) → ended_lines (b ∷ bs) ≡ line ∷ ended_lines rest
    by true o feed first more =
        let found : Some ([], bs) ≡ Some (line, rest) = sym (rw feed refl) ∙ is in
        let both : ([], bs) ≡ (line, rest) = cc found in
        let none : [] ≡ line = ap (λ (p : List ℕ × List ℕ). p.0) both in
        let same : bs ≡ rest = ap (λ (p : List ℕ × List ℕ). p.1) both in
        rw (feed, sym none, sym same) refl
    by false None feed first more =
        let found : put_before b None ≡ Some (line, rest) = sym (rw (feed, first) refl) ∙ is in
        absurd (cc found)
    by false (Some p) feed first more =
        let found : Some (b ∷ p.0, p.1) ≡ Some (line, rest) = sym (rw (feed, first) refl) ∙ is in
        let both : (b ∷ p.0, p.1) ≡ (line, rest) = cc found in
        let start : b ∷ p.0 ≡ line = ap (λ (q : List ℕ × List ℕ). q.0) both in
        let same : p.1 ≡ rest = ap (λ (q : List ℕ × List ℕ). q.1) both in
        rw (feed, more p.0 p.1 first, sym start, sym same) refl

-- Without a line feed no line has ended.
lines-none : (bytes : List ℕ) → first_line bytes ≡ None → ended_lines bytes ≡ []
lines-none [] is = refl
lines-none (b ∷ bs) is = by (b == 10) (first_line bs) refl refl (λ e. lines-none bs e)
  where
    by : (t : Bool) (o : Option (List ℕ × List ℕ)) → (b == 10) ≡ t → first_line bs ≡ o → (first_line bs ≡ None → ended_lines bs ≡ []) → ended_lines (b ∷ bs) ≡ []
    by true o feed first more =
        let found : Some ([], bs) ≡ None = sym (rw feed refl) ∙ is in
        absurd (cc found)
    by false None feed first more = rw (feed, more first) refl
    by false (Some p) feed first more =
        let found : Some (b ∷ p.0, p.1) ≡ None = sym (rw (feed, first) refl) ∙ is in
        absurd (cc found)

cost-first : (limit : ℕ) (cost : List ℕ → ℕ) (bytes line rest : List ℕ) → first_line bytes ≡ Some (line, rest) → lines_cost limit cost bytes ≡ line_cost limit cost line + lines_cost limit cost rest
cost-first limit cost bytes line rest is = ap (sum_by (line_cost limit cost)) (lines-first bytes line rest is) ∙ sum_by-cons (line_cost limit cost) line (ended_lines rest)

short-cost : (limit : ℕ) (cost : List ℕ → ℕ) (line : List ℕ) → length line < limit → line_cost limit cost line ≡ cost (content line)
short-cost limit cost line short = ap (λ (t : Bool). if t then cost (content line) else 0) (lt-ltb (length line) limit short)

pub cost-taken : (limit : ℕ) (cost : List ℕ → ℕ) (bytes line rest : List ℕ) → skipping_front limit bytes ≡ Taken line rest → lines_cost limit cost bytes ≡ cost (content line) + lines_cost limit cost rest
cost-taken limit cost bytes line rest is =
    let taken = passed-taken limit (first_line bytes) line rest is in
    cost-first limit cost bytes line rest taken.0 ∙ ap (λ (n : ℕ). n + lines_cost limit cost rest) (short-cost limit cost line taken.1)

-- A line that is too long costs nothing.
long-cost : (limit : ℕ) (cost : List ℕ → ℕ) (line : List ℕ) → limit ≤ length line → line_cost limit cost line ≡ 0
long-cost limit cost line long = ap (λ (t : Bool). if t then cost (content line) else 0) (le-ltb (length line) limit long)

pub cost-skipped : (limit : ℕ) (cost : List ℕ → ℕ) (bytes rest : List ℕ) → skipping_front limit bytes ≡ Skipped rest → lines_cost limit cost bytes ≡ lines_cost limit cost rest
cost-skipped limit cost bytes rest is =
    let skipped = passed-skipped limit (first_line bytes) rest is in
    let all : 0 + lines_cost limit cost rest ≡ lines_cost limit cost rest = omega arith in
    cost-first limit cost bytes skipped.0 rest skipped.1 ∙ ap (λ (n : ℕ). n + lines_cost limit cost rest) (long-cost limit cost skipped.0 skipped.2) ∙ all

pub cost-none : (limit : ℕ) (cost : List ℕ → ℕ) (bytes : List ℕ) → skipping_front limit bytes ≡ Unended → lines_cost limit cost bytes ≡ 0
cost-none limit cost bytes is = ap (sum_by (line_cost limit cost)) (lines-none bytes (passed-none limit (first_line bytes) is))

pub cost_laws : LinesCostLaw
cost_laws = record {
  none = λ limit cost bytes is. cost-none limit cost bytes is;
  taken = λ limit cost bytes line rest is. cost-taken limit cost bytes line rest is;
  skipped = λ limit cost bytes rest is. cost-skipped limit cost bytes rest is;
}
