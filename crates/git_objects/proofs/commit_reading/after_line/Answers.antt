use Rattle.std.proofs.Common.{sym, subst, ◌∙◌}
use Rattle.git_objects.specs.Fronts.{NoByte}
use Rattle.git_objects.proofs.Splitting.{NoByte-at, parted-once}
use Rattle.git_objects.proofs.commit_reading.after_line.Goals as goal

pub returns-in_err-parted : goal.returns-in_err-parted
returns-in_err-parted c = λ line rest free is. absurd (NoByte-at 10 line rest (subst (NoByte 10) is c.in_err-parted.ensures))

pub returns : goal.returns
returns c = λ line rest free is.
    (parted-once 10 c.in_ok-parted.parted.0.now line c.in_ok-parted.parted.1.now rest c.in_ok-parted.ensures.0 free (sym c.in_ok-parted.ensures.1 ∙ is)).1
