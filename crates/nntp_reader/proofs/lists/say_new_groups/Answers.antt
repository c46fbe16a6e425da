use Rattle.std.proofs.Common.{◌≡◌, ◌∙◌, ap}
use Rattle.arch_base.specs.declared.config.Config.{Config}
use Rattle.nntp_reader.proofs.lists.say_new_groups.Goals as goal

pub returns-clause-said : goal.returns-clause-said
returns-clause-said g c = λ a held.
    let born : c.from.result ≡ a.config.born = c.from.ensures ∙ ap (λ (k : Config). k.born) (c.config.ensures a held) in
    rw born at (c.say_active.ensures.said a held)
