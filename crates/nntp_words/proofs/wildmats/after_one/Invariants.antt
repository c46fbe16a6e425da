use Rattle.std.proofs.Common.{◌≡◌, ℕ, ◌+◌, ◌<◌, ◌≤◌, ◌&&◌, false, length, get_or}
use Rattle.nntp_words.specs.Wildmats.{fits}
use Rattle.nntp_words.proofs.wildmats.after_one.Given as goal

abbrev pub invariant-loop-index : goal.invariant-loop-index
invariant-loop-index l = record {
  room : length l.made ≡ 65;
  here : (i : ℕ) → i < l.index → get_or l.made i false ≡ (fits l.byte (get_or l.name i 0) && get_or l.ends (i + 1) false);
  past : (i : ℕ) → l.index ≤ i → get_or l.made i false ≡ false;
}
