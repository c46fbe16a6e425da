use Rattle.std.proofs.Common.{arith}
use Rattle.std.specs.Fmt.{decimal}
use Rattle.edge_io.specs.Events.{words_of}
use Rattle.edge_io.proofs.Dividing.{LacksByte-divided, same_parts}
use Rattle.edge_io.proofs.Numerals.{decimal-lacks}
use Rattle.edge_io.proofs.reading.read_line.Goals as goal

pub returns-in_err-parts : goal.returns-in_err-parts
returns-in_err-parts c = rw c.from_residual.ensures (λ x is e. LacksByte-divided 32 c.args.line.now (decimal x.moment) (words_of x.what) c.in_err-parts.ensures e)

pub returns-in_err-moment : goal.returns-in_err-moment
returns-in_err-moment c = rw c.from_residual-in_err-moment.ensures (λ x is e. c.in_err-moment.ensures (x.moment) (is.moment)
    (same_parts 32 c.args.line.now c.in_ok-parts.parts.before.now c.in_ok-parts.parts.after.now (decimal x.moment) (words_of x.what) c.in_ok-parts.ensures.0 c.in_ok-parts.ensures.1 (decimal-lacks 32 x.moment (omega arith) (omega (arith, is.moment))) e).0)

pub returns-in_err-what : goal.returns-in_err-what
returns-in_err-what c = rw c.from_residual-in_err-what.ensures (λ x is e. c.in_err-what.ensures (x.what) (is.what)
    (same_parts 32 c.args.line.now c.in_ok-parts.parts.before.now c.in_ok-parts.parts.after.now (decimal x.moment) (words_of x.what) c.in_ok-parts.ensures.0 c.in_ok-parts.ensures.1 (decimal-lacks 32 x.moment (omega arith) (omega (arith, is.moment))) e).1)
