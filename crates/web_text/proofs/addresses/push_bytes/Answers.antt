use Rattle.std.proofs.Common.{◌<◌, ◌++◌, length, ap, ◌∙◌, arith}
use Rattle.std.proofs.lemmas.List.{take_all}
use Rattle.std.proofs.lemmas.List.Elements.{All-from_get_or}
use Rattle.percent_encoding.specs.Iter.{encoded_text}
use Rattle.web_text.proofs.Escaping.{escaped-all}
use Rattle.web_text.proofs.addresses.push_bytes.Goals as goal

pub loop-piece-init : goal.loop-piece-init
loop-piece-init c =
    let small = All-from_get_or (λ b. b < 256) c.args.bytes.now 0 (λ i within. omega (arith, c.type_inv.bytes i)) in record {
      pushed = ap (λ t. c.args.into.now ++ t) (ap encoded_text c.into_iter-piece-iterator.ensures.into_iter_gives ∙ c.percent_encode-piece-items.ensures.text ∙ escaped-all c.args.bytes.now small);
      kept = take_all (length c.args.into.now) c.args.into.now (omega arith);
    }
