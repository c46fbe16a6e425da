use Rattle.std.proofs.Common.{None, rules}
use Rattle.arch_model.specs.Standing.{standing}
use Rattle.node_serve.specs.Updates.{said_update}
use Rattle.node_serve.proofs.Turning.{act-at_host}
use Rattle.node_serve.proofs.session.update_one.Goals as goal

pub returns-clause-told : goal.returns-clause-told
returns-clause-told g c = λ a disk held suits.
    act-at_host g.H.Host (said_update (standing a None) c.args.session.now) c.args.conn c.tell_session.new.out.conn _ _ (standing a None) disk c.tell_session.new.out.host.now _ (search rules) (search rules) (c.tell_session.ensures.told a disk held suits)
