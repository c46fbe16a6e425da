-- Nothing was taken yet.
use Rattle.std.proofs.Common.{◌∙◌, sym, ap, subst}
use Rattle.arch_base.specs.declared.config.Config.{Config}
use Rattle.store_planning.specs.Planning.{Planning, no_planning}
use Rattle.epoch_store.specs.Adopting.{IsAdoptionOf}
use Rattle.epoch_store.proofs.AdoptedEpochs.{starts_adoption}
use Rattle.epoch_store.proofs.adopting.Adoption.new.Goals as goal

pub returns-clause-of : goal.returns-clause-of
returns-clause-of c =
    let v = c.args.store.now in
    let is = c.new.ensures ∙ ap (λ (k : Config). no_planning k.form) c.config.ensures in
    subst (λ (p : Planning). IsAdoptionOf v (record { planned = p; taken = 0 })) (sym is) (starts_adoption v c.law_of_named.ensures.named)
