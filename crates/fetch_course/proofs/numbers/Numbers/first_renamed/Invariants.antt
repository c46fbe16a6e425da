use Rattle.std.proofs.Common.{◌≡◌, drop}
use Rattle.arch_model.specs.Archives.{Archive}
use Rattle.fetch_course.specs.Courses.{first_renamed}
use Rattle.fetch_course.specs.Numbers.{NamesMessages}
use Rattle.fetch_course.proofs.numbers.Numbers.first_renamed.Given as goal

-- with the lines so far nothing is wrong
abbrev pub invariant-loop-line : goal.invariant-loop-line
invariant-loop-line l = record {
  passed : (a : Archive) → NamesMessages a l.self.blobs → a.next ≡ l.next
      → first_renamed a l.lines ≡ first_renamed a (drop l.line-index l.lines);
}
