use Rattle.std.proofs.Common.{◌≡◌, ℕ, ◌+◌, ◌<◌, ◌≤◌, ◌||◌, false, get_or}
use Rattle.imap_states.proofs.patterns.after_any.Given as goal

abbrev pub invariant-loop-index : goal.invariant-loop-index
invariant-loop-index l = record {
  within : l.index ≤ l.len;
  later : (i : ℕ) → l.index ≤ i → i < l.len → get_or l.made i false ≡ (get_or l.rests i false || get_or l.made (i + 1) false);
  before : (i : ℕ) → i < l.index → get_or l.made i false ≡ get_or l.rests i false;
  past : (i : ℕ) → l.len ≤ i → get_or l.made i false ≡ get_or l.rests i false;
}

abbrev pub decreases-loop-index : goal.decreases-loop-index
decreases-loop-index l = l.index
