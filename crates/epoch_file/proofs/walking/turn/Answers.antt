use Rattle.std.proofs.Common.{◌≡◌, true, rules, tests}
use Rattle.epoch_file.proofs.Turning.{turns-either, moves-either}
use Rattle.epoch_file.proofs.walking.turn.Goals as goal

pub returns-clause-turns : goal.returns-clause-turns
returns-clause-turns g c =
    let s = c.args.state.now in
    let came : c.in_ok-bring.field-0 ≡ true = search (rules, tests) in
    turns-either (g.D.Disk.content c.args.disk.now) s c.bring.new.window c.take_one.new.state c.in_ok-bring.field-0 c.in_ok-take_one.field-0 came c.in_ok-bring.ensures.brings c.in_ok-take_one.ensures.takes

pub returns-clause-moves : goal.returns-clause-moves
returns-clause-moves g c =
    let s = c.args.state.now in
    moves-either s c.bring.new.window c.take_one.new.state c.in_ok-take_one.field-0 c.in_ok-bring.ensures.inside c.in_ok-take_one.ensures.takes
