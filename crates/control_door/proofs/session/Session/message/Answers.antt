use Rattle.std.proofs.Common.{◌≡◌, ◌≤◌, ◌+◌, ◌++◌, ◌∙◌, ℕ, List, length, take, drop, length-drop, ap, arith}
use Rattle.control_door.proofs.Holding.{message-whole}
use Rattle.control_door.proofs.session.Session.message.Goals as goal

pub returns-then-size-after : goal.returns-then-size-after
returns-then-size-after c =
    let old : List ℕ = c.args.self.now in
    let piece : List ℕ = c.args.piece.now in
    let n : ℕ = c.args.len + 1 in
    let size : ℕ = c.args.size in
    let after : c.split_at.result.1.now ≡ drop n piece = c.split_at.ensures.back in
    let fits : size ≤ length (drop n piece) = rw after at c.if-size-after.true in
    let message : c.split_at-then-size-after.result.0.now ≡ take size (drop n piece) = c.split_at-then-size-after.ensures.front ∙ ap (take size) after in
    record { some = omega arith; within = omega (arith, fits, length-drop n piece, c.requires.within); starts = tt; stands = rw message (message-whole (old ++ piece) (old ++ take c.args.len piece) piece c.args.aim size n c.requires.line c.requires.order fits) }
