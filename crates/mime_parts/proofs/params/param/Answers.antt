use Rattle.std.proofs.Common.{◌≡◌, ◌+◌, true, false, drop, sym, ap, ◌∙◌, refl, arith, length-drop}
use Rattle.std.specs.Str.{str_eq_ignore_ascii_case}
use Rattle.mime_parts.specs.ContentTypes.{param}
use Rattle.mime_parts.proofs.Parameters.{two_more, name_at, param-none}
use Rattle.mime_parts.proofs.params.param.Goals as goal

pub returns-then-is_same_name : goal.returns-then-is_same_name
returns-then-is_same_name c =
    let x = c.index-params-at.result in
    let y = c.index-params-at-then-is_same_name.result in
    let same : str_eq_ignore_ascii_case x c.args.name.now ≡ true =
    ap (λ n. str_eq_ignore_ascii_case n c.args.name.now) (sym c.as_slice.ensures) ∙ sym c.is_same_name.ensures ∙ c.if-is_same_name.true in
    let found : param c.args.name.now (drop c.loop-at.at c.args.params.now) ≡ y =
    ap (param c.args.name.now)
    (two_more c.args.params.now c.loop-at.at x y c.loop-at-test.true c.index-params-at.is c.index-params-at-then-is_same_name.is) ∙ rw same refl in
    c.as_slice-then-is_same_name.ensures ∙ sym found ∙ c.loop-at.invariant.value

pub loop-at-preserved : goal.loop-at-preserved
loop-at-preserved c =
    let x = c.index-params-at.result in
    let other : str_eq_ignore_ascii_case x c.args.name.now ≡ false =
    ap (λ n. str_eq_ignore_ascii_case n c.args.name.now) (sym c.as_slice.ensures) ∙ sym c.is_same_name.ensures ∙ c.if-is_same_name.false in
    let later : param c.args.name.now (drop c.loop-at.at c.args.params.now) ≡ param c.args.name.now (drop (c.loop-at.at + 2) c.args.params.now) =
    ap (param c.args.name.now) (name_at c.args.params.now c.loop-at.at x c.loop-at-test.true c.index-params-at.is) ∙ rw other refl in
    record { within = omega arith; value = sym later ∙ c.loop-at.invariant.value }

pub returns : goal.returns
returns c =
    sym (param-none c.args.name.now (drop c.loop-at.at c.args.params.now) (omega (arith, length-drop c.loop-at.at c.args.params.now)))
    ∙ c.loop-at.invariant.value
