use Rattle.real_edges.proofs.SocketEvents.{gave_untold}
use Rattle.real_edges.proofs.socket_host.SocketHostHost.next.Goals as goal

pub returns-in-Ok-clause-gave : goal.returns-in-Ok-clause-gave
returns-in-Ok-clause-gave c = gave_untold c.in-Ok.event c.event_of.new.into c.in-Ok.ensures.moment c.in-Ok.ensures.what
