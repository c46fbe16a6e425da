use Rattle.std.proofs.Common.{◌≡◌, ◌++◌, take}
use Rattle.std.specs.List.{flat_map}
use Rattle.html_pages.specs.Lines.{thread_line}
use Rattle.html_pages.proofs.thread.push_lines.Given as goal

abbrev pub invariant-loop-line : goal.invariant-loop-line
invariant-loop-line l = l.into ≡ l.fn.into ++ flat_map (thread_line l.name) (take l.line-index l.lines)
