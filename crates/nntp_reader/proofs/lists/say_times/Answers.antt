use Rattle.std.proofs.Common.{◌≡◌, ◌∙◌, ap, append_assoc}
use Rattle.arch_base.specs.declared.config.Config.{Config}
use Rattle.nntp_reader.proofs.lists.say_times.Goals as goal

pub returns-then-not-listed-clause-said : goal.returns-then-not-listed-clause-said
returns-then-not-listed-clause-said g c = λ a held. rw c.if-not-listed.true c.say.ensures.said

pub returns-clause-said : goal.returns-clause-said
returns-clause-said g c = λ a held.
    let name : c.as_slice.result.now ≡ a.config.name = c.as_slice.ensures.value ∙ ap (λ (k : Config). k.name) (c.config.ensures a held) in
    let born : c.from.result ≡ a.config.born = c.from.ensures ∙ ap (λ (k : Config). k.born) (c.config-2.ensures a held) in
    rw c.if-not-listed.false (simp append_assoc (rw (name, born) at c.send.ensures.said))
