-- The scan of a piece up to its first line feed.
use Rattle.std.proofs.Common.{◌<◌, length, ltb, refl, arith}
use Rattle.std.proofs.lemmas.Bool.{eqb-true, eq-eqb}
use Rattle.line_door.proofs.Fronts.{first_line-none}
use Rattle.line_door.proofs.Passages.{passage-by, passage-more}
use Rattle.line_door.proofs.skipping.next_passing.Goals as goal

pub returns-in-Some : goal.returns-in-Some
returns-in-Some c =
    let e = c.in-Some.ensures in
    let high : c.in-Some.end < length c.args.piece.now = e.0.high in
    rw c.ended.ensures
    (passage-by c.args.limit c.args.held.now c.args.piece.now c.in-Some.end c.saturating_sub.result (ltb c.in-Some.end c.saturating_sub.result) c.requires high (eqb-true _ 10 e.1) (λ k l is. e.0.before k (omega arith) l (eq-eqb _ 10 is)) c.saturating_sub.ensures refl)

pub returns-in-None : goal.returns-in-None
returns-in-None c =
    let none = c.in-None.ensures in
    passage-more c.args.limit c.args.held.now c.args.piece.now c.requires (first_line-none c.args.piece.now (λ k l is. none k (omega arith) l (eq-eqb _ 10 is)))
