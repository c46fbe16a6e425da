-- One more digit.
use Rattle.std.proofs.Common.{◌≡◌, ◌≤◌, ◌+◌, ◌*◌, ◌-◌, ℕ, min, drop, get_or, sym, ap, ◌∙◌, add-one, arith}
use Rattle.arch_base.specs.Decimals.{read_on}
use Rattle.imap_framer.proofs.Numbers.{capped-step}
use Rattle.imap_framer.proofs.joined.read_digits.Goals as goal

pub loop-digit-preserved : goal.loop-digit-preserved
loop-digit-preserved c =
    let all : ℕ = min (read_on c.args.start c.args.digits.now) 16385 in
    let value : c.min-value.result ≡ min (10 * c.loop-digit.value + (get_or c.args.digits.now c.loop-digit.digit-index 0 - 48)) 16385 =
    c.min-value.ensures ∙ ap (λ n. min (10 * c.loop-digit.value + n) 16385) (c.from.ensures ∙ c.saturating_sub.ensures) in
    record {
      same = ap (λ n. min (read_on n (drop (c.loop-digit.digit-index + 1) c.args.digits.now)) 16385) value
          ∙ ap (λ k. min (read_on (min (10 * c.loop-digit.value + (get_or c.args.digits.now c.loop-digit.digit-index 0 - 48)) 16385) (drop k c.args.digits.now)) 16385) (add-one c.loop-digit.digit-index)
          ∙ capped-step c.loop-digit.value c.loop-digit.digit-index 16385 all c.args.digits.now c.loop-digit-test.true c.loop-digit.invariant.same;
      small = omega (arith, value);
    }
