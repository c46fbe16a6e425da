use Rattle.std.proofs.Common.{◌≡◌, ◌++◌, ◌∙◌, List, ℕ, refl, ap, sym, drop}
use Rattle.arch_model.specs.Next.{continues}
use Rattle.http_front.specs.Door.{page_front_uses}
use Rattle.http_front.specs.Fronts.{Whole, front, head_limit}
use Rattle.http_front.proofs.Acting.{turn-went, turn-long}
use Rattle.http_front.proofs.Counting.{acts-open, turn-reads}
use Rattle.http_front.specs.Reading.{asked_in}
use Rattle.http_front.proofs.session.HttpSession.act.Goals as goal

pub returns-in-More-clause-turn : goal.returns-in-More-clause-turn
returns-in-More-clause-turn g c = λ a held. c.hold.ensures.turn a (g.S.Shelf.faults c.args.shelf.now)

pub returns-in-Long-clause-turn : goal.returns-in-Long-clause-turn
returns-in-Long-clause-turn g c = λ a held.
    let bytes = c.as_slice.ensures ∙ c.self.view_is in
    turn-long c.args.moment a c.args.self.now c.args.piece.now _ c.args.self.now _ _ (rw bytes at c.in-Long.ensures) refl c.say_status.ensures.said

pub returns-in-Head-clause-turn : goal.returns-in-Head-clause-turn
returns-in-Head-clause-turn g c = λ a held.
    let bytes = c.as_slice.ensures ∙ c.self.view_is in
    let whole = rw bytes at c.in-Head.ensures.3 in
    let found : front head_limit (c.args.self.now ++ c.args.piece.now) ≡ Whole (c.args.self.now ++ c.split_at.result.0.now) (drop c.in-Head.taken c.args.piece.now) =
    whole ∙ ap (λ (x : List ℕ). Whole (c.args.self.now ++ x) (drop c.in-Head.taken c.args.piece.now)) (sym c.split_at.ensures.front) in
    rw c.went.ensures
    (turn-went c.args.moment a c.args.self.now c.args.piece.now (c.args.self.now ++ c.split_at.result.0.now) c.in-Head.taken _ _ _ (continues c.answer.result) found c.answer.ensures.empty (c.answer.ensures.acts a (drop c.in-Head.taken c.args.piece.now) held))

pub returns-in-Head-clause-reads : goal.returns-in-Head-clause-reads
returns-in-Head-clause-reads g c = λ a held.
    let bytes = c.as_slice.ensures ∙ c.self.view_is in
    let whole = rw bytes at c.in-Head.ensures.3 in
    let found : front head_limit (c.args.self.now ++ c.args.piece.now) ≡ Whole (c.args.self.now ++ c.split_at.result.0.now) (drop c.in-Head.taken c.args.piece.now) =
    whole ∙ ap (λ (x : List ℕ). Whole (c.args.self.now ++ x) (drop c.in-Head.taken c.args.piece.now)) (sym c.split_at.ensures.front) in
    rw c.went.ensures
    (turn-reads a c.args.self.now c.args.piece.now (c.args.self.now ++ c.split_at.result.0.now) c.in-Head.taken _ (continues c.answer.result) _ _ found c.answer.ensures.empty
    (λ goes. acts-open c.args.moment a (asked_in (c.args.self.now ++ c.split_at.result.0.now)) (drop c.in-Head.taken c.args.piece.now) (drop c.in-Head.taken c.args.piece.now) _ a _ (rw goes at (c.answer.ensures.acts a (drop c.in-Head.taken c.args.piece.now) held)))
    (c.answer.ensures.reads a held))

pub returns-in-Head-clause-unused : goal.returns-in-Head-clause-unused
returns-in-Head-clause-unused g c = λ a held spares.
    let bytes = c.as_slice.ensures ∙ c.self.view_is in
    let whole = rw bytes at c.in-Head.ensures.3 in
    let found : front head_limit (c.args.self.now ++ c.args.piece.now) ≡ Whole (c.args.self.now ++ c.split_at.result.0.now) (drop c.in-Head.taken c.args.piece.now) =
    whole ∙ ap (λ (x : List ℕ). Whole (c.args.self.now ++ x) (drop c.in-Head.taken c.args.piece.now)) (sym c.split_at.ensures.front) in
    c.answer.ensures.unused a held (sym (ap (page_front_uses a) found) ∙ spares)
