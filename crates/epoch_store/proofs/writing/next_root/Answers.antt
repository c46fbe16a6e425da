-- The root goes on from the one before.
use Rattle.std.proofs.Common.{rules, subst}
use Rattle.root_slots.specs.declared.root.Root.{Root}
use Rattle.epoch_store.specs.Commands.{RootGoesOn}
use Rattle.epoch_store.proofs.Entering.{goes_on_after}
use Rattle.epoch_store.proofs.writing.next_root.Goals as goal

pub returns-clause-goes_on : goal.returns-clause-goes_on
returns-clause-goes_on c =
    subst (λ (r : Root). RootGoesOn c.args.root.now r) (search rules) (goes_on_after c.args.root.now c.args.place.now c.requires.place c.requires.small c.args.kind c.args.end c.root_fits.ensures.count)
