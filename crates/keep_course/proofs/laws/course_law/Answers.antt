-- The law of crashes in a course, at the small keeper.
use Rattle.keep_course.specs.Laws.{history}
use Rattle.keep_course.proofs.Courses.{crash-in, kept-left}
use Rattle.std.proofs.Common.{[], ◌∷◌, ◌++◌}
use Rattle.keep_course.proofs.laws.course_law.Goals as goal

pub returns : goal.returns
returns c = λ door old new w v fits course.
    crash-in history door old new w (course.acts ++ v ∷ []) fits (kept-left history door old new w course.states (course.acts ++ v ∷ []) course.kept)
