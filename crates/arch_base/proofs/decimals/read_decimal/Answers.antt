use Rattle.arch_base.proofs.Digits.{printed-value, printed-none, printed-padded, decimal_of-padded, decimal_of-value}
use Rattle.std.proofs.Common.{subst, sym}
use Rattle.arch_base.specs.Decimals.{IsPadded}
use Rattle.arch_base.proofs.decimals.read_decimal.Goals as goal

pub returns-then-is_padded-clause-none : goal.returns-then-is_padded-clause-none
returns-then-is_padded-clause-none c = printed-padded c.args.text.now (subst (IsPadded c.args.text.now) c.if-is_padded.true c.is_padded.ensures)

pub returns-clause-found : goal.returns-clause-found
returns-clause-found c =
    let sound = subst (IsPadded c.args.text.now) c.if-is_padded.false c.is_padded.ensures in
    printed-value c.args.text.now c.value_of.result sound.0 sound.1 c.value_of.ensures

pub returns-clause-none : goal.returns-clause-none
returns-clause-none c = printed-none c.args.text.now c.value_of.result c.value_of.ensures

pub returns-then-is_padded-clause-value : goal.returns-then-is_padded-clause-value
returns-then-is_padded-clause-value c = sym (decimal_of-padded c.args.text.now (subst (IsPadded c.args.text.now) c.if-is_padded.true c.is_padded.ensures))

pub returns-clause-value : goal.returns-clause-value
returns-clause-value c = decimal_of-value c.args.text.now c.value_of.result (subst (IsPadded c.args.text.now) c.if-is_padded.false c.is_padded.ensures) c.value_of.ensures
