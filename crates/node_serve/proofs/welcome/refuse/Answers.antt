use Rattle.std.proofs.Common.{refl}
use Rattle.node_serve.specs.Doors.{refusal_words}
use Rattle.node_serve.specs.World.{outer}
use Rattle.node_serve.proofs.Turning.{refused-closed}
use Rattle.node_serve.proofs.welcome.refuse.Goals as goal

pub returns-clause-refused : goal.returns-clause-refused
returns-clause-refused g c = λ disk.
    refused-closed c.args.conn (refusal_words c.args.moment c.args.door c.args.refusal) c.write_refusal.result _ (outer (g.H.Host.taken c.write_refusal.new.host) (g.H.Host.closings c.write_refusal.new.host) disk (g.H.Host.lost c.write_refusal.new.host) (g.H.Host.closed_at c.write_refusal.new.host)) _
    c.write_refusal.ensures.said c.write_refusal.ensures.host.others c.write_refusal.ensures.host.closings_same c.close.ensures.taken c.close.ensures.others c.close.ensures.closed c.close.ensures.lost refl c.write_refusal.ensures.host.closed_at_same c.close.ensures.closed_at_others c.close.ensures.closed_at
