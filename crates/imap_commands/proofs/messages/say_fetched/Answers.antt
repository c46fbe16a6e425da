use Rattle.arch_model.specs.Next.{continues}
use Rattle.imap_messages.specs.Fetching.{asked_fetch}
use Rattle.imap_commands.proofs.Acting.{acts-fetched}
use Rattle.imap_commands.proofs.messages.say_fetched.Goals as goal

pub returns-in-Selected-clause-acts : goal.returns-in-Selected-clause-acts
returns-in-Selected-clause-acts g c = λ a held.
    acts-fetched a c.args.state.now (asked_fetch c.args.command.now) _ _ _ (continues c.say_fetch.result) c.in-Selected.is (c.say_fetch.ensures.acts a held)

pub returns-in-Selected-clause-unused : goal.returns-in-Selected-clause-unused
returns-in-Selected-clause-unused g c = λ a held none. c.say_fetch.ensures.spared a held (rw c.in-Selected.is at none)
