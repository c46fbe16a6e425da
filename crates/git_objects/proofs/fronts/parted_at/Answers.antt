use Rattle.std.proofs.Common.{◌+◌}
use Rattle.std.proofs.lemmas.List.{take_rest}
use Rattle.git_objects.proofs.Splitting.{parted-at}
use Rattle.git_objects.proofs.fronts.parted_at.Goals as goal

pub returns-in_err-at : goal.returns-in_err-at
returns-in_err-at c = rw c.from_residual.ensures (rw c.in_err-at.was at (parted-at c.args.byte c.args.bytes.now c.memchr.result c.memchr.ensures))

pub returns : goal.returns
returns c =
    let parts = rw c.in_ok-at.was at (parted-at c.args.byte c.args.bytes.now c.memchr.result c.memchr.ensures) in
    (parts.1, rw (take_rest c.args.bytes.now (c.in_ok-at.at + 1)) parts.2)
