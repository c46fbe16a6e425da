use Rattle.std.proofs.Common.{◌≡◌, ◌++◌, ◌∙◌, ℕ, List, [], sym, ap, arith}
use Rattle.std.proofs.lemmas.List.{nil_from_length}
use Rattle.std.proofs.lemmas.Bool.Decides.{nat_tests}
use Rattle.line_door.specs.Lines.{content}
use Rattle.control_door.specs.Orders.{order_of}
use Rattle.control_door.proofs.session.line_order.Goals as goal

pub returns-then-is_empty : goal.returns-then-is_empty
returns-then-is_empty c =
    let none : c.args.held.now ≡ [] = nil_from_length c.args.held.now (grind (arith, nat_tests)) in
    c.read_order.ensures ∙ ap order_of c.line_content.ensures ∙ ap (λ (held : List ℕ). order_of (content (held ++ c.args.line.now))) (sym none)
