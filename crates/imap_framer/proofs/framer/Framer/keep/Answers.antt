-- Octets that end no part are held within the limit.
use Rattle.std.proofs.Common.{is_ok}
use Rattle.imap_framer.proofs.Fronting.{kept-sound}
use Rattle.imap_framer.proofs.framer.Framer.keep.Goals as goal

pub invariant_of-self : goal.invariant_of-self
invariant_of-self c =
    kept-sound (is_ok c.push_slice.result) c.self.inside.held c.self.inside.owed c.self.inside.octets c.args.octets.now c.push_slice.new.self c.args.self.now
    c.self.view_is c.self.invariant c.requires c.push_slice.ensures
