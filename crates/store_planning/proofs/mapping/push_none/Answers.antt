-- One number more.
use Rattle.std.proofs.Common.{◌≡◌, ◌∙◌, ◌-◌, ◌++◌, ◌∷◌, [], ℕ, ap, arith, subst}
use Rattle.number_map.specs.declared.line.Record.{Record}
use Rattle.store_finding.specs.Recovery.{records_from}
use Rattle.store_planning.proofs.Mapped.{none_first, none_next}
use Rattle.store_planning.proofs.mapping.push_none.Goals as goal

pub loop-number-init : goal.loop-number-init
loop-number-init c = record {
  least = omega arith;
  most = c.requires;
  records = none_first c.args.form c.args.from c.args.lines.now;
}

pub loop-number-preserved : goal.loop-number-preserved
loop-number-preserved c =
    let so = c.loop-number.invariant in
    let low = so.least in
    record {
      least = omega (arith, low);
      most = (let below = c.loop-number-test.true in omega (arith, below));
      records = none_next c.args.form c.args.from c.loop-number.number c.args.lines.now c.loop-number.lines c.push.new.self low so.records
          (c.in_ok-push.ensures ∙ ap (λ (r : Record). c.loop-number.lines ++ r ∷ []) c.without_message.ensures.none);
    }

pub returns : goal.returns
returns c =
    let so = c.loop-number.invariant in
    let most = so.most in
    let is : c.loop-number.number ≡ c.args.to = omega (arith, most, c.loop-number-test.false) in
    subst (λ (n : ℕ). c.loop-number.lines ≡ c.args.lines.now ++ records_from c.args.form [] c.args.from (n - c.args.from)) is so.records
