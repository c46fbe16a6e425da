use Rattle.std.proofs.Common.{arith}
use Rattle.std.specs.Fmt.{decimal}
use Rattle.edge_io.specs.Events.{door_word}
use Rattle.edge_io.proofs.Dividing.{LacksByte-divided, same_parts}
use Rattle.edge_io.proofs.Numerals.{decimal-lacks}
use Rattle.edge_io.proofs.reading.read_opening.Goals as goal

pub returns-in_err-parts : goal.returns-in_err-parts
returns-in_err-parts c = rw c.from_residual.ensures (λ x is e. LacksByte-divided 32 c.args.words.now (decimal x.0) (door_word x.1) c.in_err-parts.ensures e)

pub returns-in_err-conn : goal.returns-in_err-conn
returns-in_err-conn c = rw c.from_residual-in_err-conn.ensures (λ x is e. c.in_err-conn.ensures (x.0) (is.0)
    (same_parts 32 c.args.words.now c.in_ok-parts.parts.before.now c.in_ok-parts.parts.after.now (decimal x.0) (door_word x.1) c.in_ok-parts.ensures.0 c.in_ok-parts.ensures.1 (decimal-lacks 32 x.0 (omega arith) (omega (arith, is.0))) e).0)

pub returns-in_err-door : goal.returns-in_err-door
returns-in_err-door c = rw c.from_residual-in_err-door.ensures (λ x is e. c.in_err-door.ensures (x.1) (is.1)
    (same_parts 32 c.args.words.now c.in_ok-parts.parts.before.now c.in_ok-parts.parts.after.now (decimal x.0) (door_word x.1) c.in_ok-parts.ensures.0 c.in_ok-parts.ensures.1 (decimal-lacks 32 x.0 (omega arith) (omega (arith, is.0))) e).1)
