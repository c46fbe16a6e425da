use Rattle.mirror_wire.proofs.LineParts.{name-none, name-other, name-found}
use Rattle.mirror_wire.proofs.line_reading.read_name.Goals as goal

pub returns-in_err-name : goal.returns-in_err-name
returns-in_err-name c = rw c.from_residual.ensures (name-none c.args.bytes.now c.in_err-name.ensures)

pub returns-in_err-read : goal.returns-in_err-read
returns-in_err-read c = rw c.from_residual-in_err-read.ensures
    (name-other c.args.bytes.now c.in_ok-name.name.now c.in_ok-name.rest.now c.in_ok-name.ensures.0 c.in_ok-name.ensures.1 c.in_err-read.ensures.none)

pub returns : goal.returns
returns c =
    name-found c.args.bytes.now c.in_ok-name.name.now c.in_ok-name.rest.now c.in_ok-read.field-0 c.in_ok-name.ensures.0 c.in_ok-name.ensures.1
    c.in_ok-read.ensures.found.0 c.in_ok-read.ensures.found.1
