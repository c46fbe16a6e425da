use Rattle.std.proofs.Common.{◌≤◌, length, arith}
use Rattle.arch_base.proofs.Digits.{read_on-wide, read_on-end, digits-end}
use Rattle.arch_base.proofs.decimals.value_of.Goals as goal

pub returns-in-None : goal.returns-in-None
returns-in-None c = λ digits. read_on-wide c.loop-byte.value c.loop-byte.byte-index c.args.text.now _ (omega arith) c.loop-byte.invariant.value c.in-None.ensures

pub returns : goal.returns
returns c =
    let past : length c.args.text.now ≤ c.loop-byte.byte-index = c.loop-byte-test.false in
    let is = read_on-end c.loop-byte.value c.loop-byte.byte-index c.args.text.now _ past c.loop-byte.invariant.value in
    (digits-end c.loop-byte.byte-index c.args.text.now _ past c.loop-byte.invariant.digits, is, c.loop-byte.invariant.fits)
