use Rattle.git_objects.proofs.HexLines.{hex-none, hex-other, hex-found}
use Rattle.git_objects.proofs.fronts.read_id.Goals as goal

pub returns-in_err-digits : goal.returns-in_err-digits
returns-in_err-digits c = rw c.from_residual.ensures (hex-none c.args.form c.args.end c.args.bytes.now c.in_err-digits.ensures)

pub returns-in_err-id : goal.returns-in_err-id
returns-in_err-id c = rw c.from_residual-in_err-id.ensures
    (hex-other c.args.form c.args.end c.args.bytes.now c.in_ok-digits.digits.now c.in_ok-digits.rest.now c.requires.least c.requires.most
    c.in_ok-digits.ensures.0 c.in_ok-digits.ensures.1 c.in_err-id.ensures.none)

pub returns : goal.returns
returns c =
    hex-found c.args.end c.args.bytes.now c.in_ok-digits.digits.now c.in_ok-digits.rest.now c.in_ok-id.id c.requires.least c.requires.most
    c.in_ok-digits.ensures.0 c.in_ok-digits.ensures.1 c.in_ok-id.ensures.found.0 c.in_ok-id.ensures.found.1
