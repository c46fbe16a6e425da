use Rattle.arch_model.specs.Next.{continues}
use Rattle.imap_messages.specs.Seeking.{asked_search}
use Rattle.imap_commands.proofs.Acting.{acts-sought}
use Rattle.imap_commands.proofs.messages.say_sought.Goals as goal

pub returns-in-Selected-clause-acts : goal.returns-in-Selected-clause-acts
returns-in-Selected-clause-acts g c = λ a held.
    acts-sought a c.args.state.now (asked_search c.args.command.now) _ _ _ (continues c.say_search.result) c.in-Selected.is (c.say_search.ensures.acts a held)

pub returns-in-Selected-clause-unused : goal.returns-in-Selected-clause-unused
returns-in-Selected-clause-unused g c = λ a held none. c.say_search.ensures.spared a held (rw c.in-Selected.is at none)
