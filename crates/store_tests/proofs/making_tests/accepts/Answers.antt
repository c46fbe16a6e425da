use Rattle.std.proofs.Common.{◌≡◌, arith, ap, subst}
use Rattle.arch_base.specs.declared.config.Config.{Config}
use Rattle.store_tests.proofs.Free.{Apart, accepted, of_none, of_one}
use Rattle.store_tests.proofs.making_tests.accepts.Goals as goal

pub returns-in-empty : goal.returns-in-empty
returns-in-empty c = λ yes. accepted c.args.store.now c.args.text.now (search) (let max : c.config-config.result.now.max ≡ c.args.store.now.root.config.max = ap (λ (k : Config). k.max) c.config-config.ensures in omega (arith, max)) (c.is_stored.ensures.0 c.if-not-is_stored.false) (subst (Apart c.args.text.now) c.stored.ensures (of_none c.args.text.now c.stored.result.now c.in-empty.len_below))

pub returns-in-len1 : goal.returns-in-len1
returns-in-len1 c = λ yes. accepted c.args.store.now c.args.text.now (search) (let max : c.config-config.result.now.max ≡ c.args.store.now.root.config.max = ap (λ (k : Config). k.max) c.config-config.ensures in omega (arith, max)) (c.is_stored.ensures.0 c.if-not-is_stored.false) (subst (Apart c.args.text.now) c.stored.ensures (of_one c.args.text.now c.stored.result.now c.one-item.result c.in-len1.len_below c.one-item.is (c.is_apart.ensures.id yes)))
