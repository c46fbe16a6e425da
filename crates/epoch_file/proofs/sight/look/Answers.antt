use Rattle.epoch_file.proofs.Looks.{sees-by_place, sees-no_place}
use Rattle.epoch_file.proofs.sight.look.Goals as goal

pub returns-in-Some : goal.returns-in-Some
returns-in-Some c = sees-by_place c.args.form c.args.held.now c.args.left c.in-Some.at c.look_at_commit.result c.if-is_short.ensures c.in-Some.ensures.again (c.look_at_commit.ensures c.args.form)

pub returns-in-None : goal.returns-in-None
returns-in-None c = sees-no_place c.args.form c.args.held.now c.args.left c.if-is_short.ensures c.in-None.ensures.again
