use Rattle.std.proofs.Common.{◌∙◌, ◌≡◌, ◌+◌, ℕ, List, Option, None, Some, take, drop, sym, ap}
use Rattle.arch_base.specs.Decimals.{decimal_of}
use Rattle.control_door.specs.Orders.{number_in as number_of, edit_order as edit_order_of, edit_parts}
use Rattle.control_door.proofs.Orders.{all-after, first-place}
use Rattle.control_door.proofs.order.read_edit.Goals as goal

pub returns-in-None : goal.returns-in-None
returns-in-None c = ap (edit_parts c.args.words.now) (sym (first-place 32 c.args.words.now None c.in-None.ensures))

pub returns-in-Some : goal.returns-in-Some
returns-in-Some c =
    let words : List ℕ = c.args.words.now in
    let at : ℕ = c.in-Some.at in
    let size : c.read_decimal-in-Some.result ≡ decimal_of (drop (at + 1) words) = c.read_decimal-in-Some.ensures.value ∙ ap decimal_of (all-after (at + 1) words) in
    c.edit_order.ensures
    ∙ ap (λ (number : Option ℕ). edit_order_of number c.read_decimal-in-Some.result) (c.number_in.ensures ∙ ap number_of c.read_decimal.ensures.value)
    ∙ ap (edit_order_of (number_of (decimal_of (take at words)))) size
    ∙ ap (edit_parts words) (sym (first-place 32 words (Some at) c.in-Some.ensures))
