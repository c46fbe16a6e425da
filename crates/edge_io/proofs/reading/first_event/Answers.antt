use Rattle.edge_io.proofs.Unambiguous.{no_line, no_event, no_piece}
use Rattle.edge_io.proofs.reading.first_event.Goals as goal

pub returns-in_err-line : goal.returns-in_err-line
returns-in_err-line c = rw c.from_residual.ensures (no_line c.args.bytes.now c.in_err-line.ensures)

pub returns-in_err-event : goal.returns-in_err-event
returns-in_err-event c = rw c.from_residual-in_err-event.ensures (no_event c.args.bytes.now c.in_ok-line.line.before.now c.in_ok-line.line.after.now
    c.in_ok-line.ensures.0 c.in_ok-line.ensures.1 c.in_err-event.ensures)

pub returns-in_err-parts : goal.returns-in_err-parts
returns-in_err-parts c = rw c.from_residual-in_err-parts.ensures (no_piece c.args.bytes.now c.in_ok-line.line.before.now c.in_ok-line.line.after.now c.in_ok-event.event c.in-Bytes.conn c.in-Bytes.len
    c.in_ok-line.ensures.0 c.in_ok-line.ensures.1 c.in_ok-event.ensures.0 c.in_ok-event.ensures.1 c.in-Bytes.is c.in_err-parts.ensures)
