-- What is held after a part that announces octets.
use Rattle.std.proofs.Common.{◌∙◌, ap}
use Rattle.imap_framer.specs.Feeding.{holding}
use Rattle.imap_framer.proofs.Fronting.{held-begun}
use Rattle.imap_framer.proofs.framer.Framer.begin.Goals as goal

pub returns-in-Ok : goal.returns-in-Ok
returns-in-Ok c =
    held-begun c.self.inside.held c.self.inside.owed c.args.owed c.self.inside.octets c.args.octets.now c.push_slice.new.self c.as_slice.result.now c.in-Ok.ensures c.as_slice.ensures
    ∙ ap (λ f. holding f c.args.octets.now c.args.owed) c.self.view_is
