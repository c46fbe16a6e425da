use Rattle.std.proofs.Common.{rules}
use Rattle.line_door.specs.Acts.{Departure}
use Rattle.node_serve.specs.Doors.{greets}
use Rattle.node_serve.proofs.Turning.{act-at_host}
use Rattle.node_serve.proofs.welcome.greet_client.Goals as goal

pub returns-clause-greeted : goal.returns-clause-greeted
returns-clause-greeted g c = λ s disk.
    act-at_host g.H.Host (λ (way : Departure). greets c.args.door s) c.args.conn c.greet_at.new.out.conn _ _ s disk c.greet_at.new.out.host.now _ (search rules) (search rules) (c.greet_at.ensures.greeted s disk)
