use Rattle.std.proofs.Common.{◌≡◌, take}
use Rattle.std.specs.List.{flat_map}
use Rattle.arch_model.specs.Archives.{Archive}
use Rattle.html_pages.specs.Lines.{thread_line}
use Rattle.http_front.specs.Threads.{tree_line}
use Rattle.http_front.proofs.thread.lines_of.Given as goal

abbrev pub invariant-loop-line : goal.invariant-loop-line
invariant-loop-line g l = (a : Archive) → g.S.Shelf.holds l.shelf a
    → flat_map (thread_line a.config.name) l.lines.items ≡ flat_map (tree_line a) (take l.line-index l.tree)
