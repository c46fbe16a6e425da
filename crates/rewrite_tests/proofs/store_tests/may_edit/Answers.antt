-- Both entries have another own id than the text.
use Rattle.std.proofs.Common.{◌≡◌, arith, ap, subst}
use Rattle.arch_base.specs.declared.config.Config.{Config}
use Rattle.rewrite_tests.proofs.Editing.{Apart, editable, of_two}
use Rattle.rewrite_tests.proofs.store_tests.may_edit.Goals as goal

pub returns-then-is_apart : goal.returns-then-is_apart
returns-then-is_apart c = λ yes. editable c.args.store.now 1 c.args.blob.now c.args.text.now (c.may_purge.ensures c.if-not-may_purge.false) (let max : c.config.result.now.max ≡ c.args.store.now.root.config.max = ap (λ (k : Config). k.max) c.config.ensures in omega (arith, max)) (c.is_stored.ensures.0 c.if-not-is_stored.false) (subst (Apart c.args.text.now) c.stored.ensures (of_two c.args.text.now c.stored.result.now c.one-item.result c.other-item.result c.in-len2.len_below c.one-item.is c.other-item.is (c.is_apart.ensures c.if-is_apart.true) (c.is_apart-then-is_apart.ensures yes)))
