use Rattle.std.proofs.Common.{◌<◌, ◌^◌, rules}
use Rattle.git_objects.proofs.Numbers.{number-none, number-other, number-found}
use Rattle.git_objects.proofs.fronts.read_number.Goals as goal

pub returns-in_err-digits : goal.returns-in_err-digits
returns-in_err-digits c = rw c.from_residual.ensures (number-none c.args.end c.args.bytes.now c.in_err-digits.ensures)

pub returns-in_err-read_decimal : goal.returns-in_err-read_decimal
returns-in_err-read_decimal c = rw c.from_residual-in_err-read_decimal.ensures
    (number-other c.args.end c.args.bytes.now c.in_ok-digits.digits.now c.in_ok-digits.rest.now c.requires
    c.in_ok-digits.ensures.0 c.in_ok-digits.ensures.1 c.in_err-read_decimal.ensures.none)

pub returns : goal.returns
returns c =
    let small : c.in_ok-read_decimal.field-0 < 2 ^ 64 = search rules in
    number-found c.args.end c.args.bytes.now c.in_ok-digits.digits.now c.in_ok-digits.rest.now c.in_ok-read_decimal.field-0 c.requires
    c.in_ok-digits.ensures.0 c.in_ok-digits.ensures.1 small c.in_ok-read_decimal.ensures.found
