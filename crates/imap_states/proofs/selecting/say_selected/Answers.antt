use Rattle.std.proofs.Common.{◌∙◌, ap}
use Rattle.arch_base.specs.declared.config.Config.{Config}
use Rattle.imap_states.proofs.selecting.say_selected.Goals as goal

pub returns-clause-said : goal.returns-clause-said
returns-clause-said g c = λ a held is.
    rw (c.from.ensures ∙ is, c.from-2.ensures ∙ ap (λ (k : Config). k.born) (c.config.ensures a held), c.uid_next.ensures a held) at c.send.ensures.said
