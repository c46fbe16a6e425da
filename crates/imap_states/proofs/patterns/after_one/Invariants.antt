use Rattle.std.proofs.Common.{◌≡◌, ℕ, ◌+◌, ◌<◌, ◌≤◌, ◌&&◌, ◌==◌, false, length, get_or}
use Rattle.imap_states.proofs.patterns.after_one.Given as goal

abbrev pub invariant-loop-index : goal.invariant-loop-index
invariant-loop-index l = record {
  room : length l.made ≡ 86;
  here : (i : ℕ) → i < l.index → get_or l.made i false ≡ ((l.byte == get_or l.name i 0) && get_or l.rests (i + 1) false);
  past : (i : ℕ) → l.index ≤ i → get_or l.made i false ≡ false;
}
