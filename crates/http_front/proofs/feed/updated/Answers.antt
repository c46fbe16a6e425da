use Rattle.std.proofs.Common.{◌∙◌, ap, sym}
use Rattle.arch_base.specs.declared.config.Config.{Config}
use Rattle.http_front.specs.Views.{shown_all}
use Rattle.http_front.proofs.Arrivals.{updated-none, updated-some}
use Rattle.http_front.proofs.feed.updated.Goals as goal

pub returns-in-Some-clause-value : goal.returns-in-Some-clause-value
returns-in-Some-clause-value g c = λ a held. sym (updated-some a.config.born c.in-Some.last (shown_all a c.args.numbers.now) (sym (c.in-Some.ensures.value a held)))

pub returns-in-None-clause-value : goal.returns-in-None-clause-value
returns-in-None-clause-value g c = λ a held.
    c.from.ensures ∙ ap (λ (k : Config). k.born) (c.config.ensures a held) ∙ sym (updated-none a.config.born (shown_all a c.args.numbers.now) (sym (c.in-None.ensures.value a held)))
