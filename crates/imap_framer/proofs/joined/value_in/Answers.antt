-- The value of digits in two slices.
use Rattle.std.proofs.Common.{min, ap, ◌∙◌}
use Rattle.arch_base.specs.Decimals.{read_on}
use Rattle.imap_framer.specs.Framing.{most_octets}
use Rattle.imap_framer.proofs.Numbers.{value-in}
use Rattle.imap_framer.proofs.joined.value_in.Goals as goal

pub returns : goal.returns
unfolding most_octets
returns c =
    value-in 16385 c.read_digits-2.result c.args.text.front.now c.args.text.back.now c.if-is_empty.ensures c.if-not-are_digits.ensures c.if-not-are_digits-2.ensures
    (c.read_digits-2.ensures ∙ ap (λ n. min (read_on n c.args.text.back.now) 16385) c.read_digits.ensures)
