use Rattle.std.proofs.Common.{refl, sym}
use Rattle.imap_commands.proofs.Acting.{acts-starved, acts-bye}
use Rattle.imap_commands.proofs.starving.say_starved.Goals as goal

pub returns-in-Some-clause-acts : goal.returns-in-Some-clause-acts
returns-in-Some-clause-acts g c = λ a disk.
    rw c.after.ensures (acts-starved a c.args.state.now _ _ c.say_no_memory.result refl c.args.octets.now c.in-Some.tag.now (sym c.in-Some.ensures) c.say_no_memory.ensures.said)

pub returns-in-None-clause-acts : goal.returns-in-None-clause-acts
returns-in-None-clause-acts g c = λ a disk.
    acts-bye a c.args.state.now _ _ c.say_bye_memory.result refl c.args.octets.now (sym c.in-None.ensures) c.say_bye_memory.ensures.said
