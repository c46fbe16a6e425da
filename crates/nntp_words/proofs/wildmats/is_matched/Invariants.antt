use Rattle.std.proofs.Common.{◌≡◌, ◌≤◌, false, length}
use Rattle.nntp_words.specs.Wildmats.{decided, last_said, parts_of}
use Rattle.nntp_words.proofs.wildmats.is_matched.Given as goal

abbrev pub invariant-loop-comma : goal.invariant-loop-comma
invariant-loop-comma l = record {
  within : length l.left ≤ length l.wildmat;
  said : last_said false (parts_of l.left) l.name ≡ decided l.wildmat l.name;
}

abbrev pub decreases-loop-comma : goal.decreases-loop-comma
decreases-loop-comma l = length l.left
