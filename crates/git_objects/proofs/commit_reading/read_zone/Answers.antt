use Rattle.std.proofs.Common.{◌<◌, ◌+◌, ◌*◌, arith}
use Rattle.std.proofs.lemmas.Int.{ints}
use Rattle.git_objects.proofs.Zones.{zone-hour, zone-minute, zone-west_found}
use Rattle.git_objects.proofs.commit_reading.read_zone.Goals as goal

pub returns-in_err-hour : goal.returns-in_err-hour
returns-in_err-hour c = rw c.from_residual-in_err-hour.ensures
    (zone-hour c.args.bytes.now c.in_ok-sign.sign.now c.in_ok-sign.rest.now c.in_ok-sign.ensures.cases.0 c.in_err-hour.ensures)

pub returns-in_err-minute : goal.returns-in_err-minute
returns-in_err-minute c = rw c.from_residual-in_err-minute.ensures
    (zone-minute c.args.bytes.now c.in_ok-sign.sign.now c.in_ok-sign.rest.now c.in_ok-hour.hour c.in_ok-hour.rest.now c.in_ok-sign.ensures.cases.0
    c.in_ok-hour.ensures c.in_err-minute.ensures)

pub returns-in-45 : goal.returns-in-45
returns-in-45 c =
    let some : 0 < 60 * c.in_ok-hour.hour + c.in_ok-minute.minute = omega (arith, ints) in
    zone-west_found c.args.bytes.now c.in_ok-sign.rest.now c.in_ok-hour.hour c.in_ok-hour.rest.now c.in_ok-minute.minute c.in_ok-minute.rest.now _
    (rw c.in-45.is at c.in_ok-sign.ensures.cases.0) c.in_ok-hour.ensures c.in_ok-minute.ensures (omega arith) (omega arith) some (omega (arith, ints))
