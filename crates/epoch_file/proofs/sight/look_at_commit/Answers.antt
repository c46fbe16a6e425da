use Rattle.epoch_file.proofs.Looks.{sees-by_length, sees-no_length}
use Rattle.std.proofs.Common.{◌<◌, ◌^◌, rules}
use Rattle.epoch_file.proofs.sight.look_at_commit.Goals as goal

pub returns-in-Some : goal.returns-in-Some
returns-in-Some c = λ form.
    let small : c.args.left < 2 ^ 64 = search rules in
    sees-by_length form c.args.at c.args.held.now c.args.left c.in-Some.len c.look_at_all.result small c.if-is_short.ensures c.in-Some.ensures (c.look_at_all.ensures form)

pub returns-in-None : goal.returns-in-None
returns-in-None c = λ form.
    let small : c.args.left < 2 ^ 64 = search rules in
    sees-no_length form c.args.at c.args.held.now c.args.left small c.if-is_short.ensures c.in-None.ensures
