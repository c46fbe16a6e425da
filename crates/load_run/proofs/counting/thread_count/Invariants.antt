use Rattle.std.proofs.Common.{◌≡◌, ◌≤◌}
use Rattle.arch_model.specs.Archives.{Archive, live}
use Rattle.load_run.proofs.Firsts.{tally, first_at}
use Rattle.load_run.proofs.counting.thread_count.Given as goal

abbrev pub invariant-loop-n : goal.invariant-loop-n
invariant-loop-n g l = record {
  few : l.count ≤ l.n;
  counted : (a : Archive) → g.S.Shelf.holds l.shelf a → l.count ≡ tally (first_at (live a.entries)) l.n;
}
