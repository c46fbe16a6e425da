use Rattle.std.proofs.Common.{◌≡◌, ◌++◌, ◌∙◌, [], List, ℕ, length, refl, ap, arith}
use Rattle.std.proofs.lemmas.List.{nil_from_length}
use Rattle.std.proofs.lemmas.Bool.Decides.{nat_tests}
use Rattle.http_front.specs.Fronts.{head_limit}
use Rattle.http_front.proofs.Fronts.{front-nil}
use Rattle.http_front.proofs.session.HttpSession.answer.Goals as goal

pub invariant_of-self-2 : goal.invariant_of-self-2
invariant_of-self-2 g c = rw c.clear.ensures (record { part = front-nil head_limit (omega arith); mark = refl })

pub returns-then-len-eq0-clause-reads : goal.returns-then-len-eq0-clause-reads
returns-then-len-eq0-clause-reads g c = λ a held.
    let none : c.args.self.now ≡ [] = nil_from_length c.args.self.now (grind (arith, nat_tests, ap length c.self.view_is)) in
    rw none (c.answer_head.ensures.reads a held)

pub returns-clause-reads : goal.returns-clause-reads
returns-clause-reads g c = λ a held.
    let bytes = c.as_slice.ensures ∙ c.join.ensures ∙ ap (λ (h : List ℕ). h ++ c.args.last.now) c.self.view_is in
    rw bytes at (c.answer_head-next.ensures.reads a held)

pub returns-then-len-eq0-clause-unused : goal.returns-then-len-eq0-clause-unused
returns-then-len-eq0-clause-unused g c = λ a held.
    let none : c.args.self.now ≡ [] = nil_from_length c.args.self.now (grind (arith, nat_tests, ap length c.self.view_is)) in
    rw none (c.answer_head.ensures.unused a held)

pub returns-clause-unused : goal.returns-clause-unused
returns-clause-unused g c = λ a held.
    let bytes = c.as_slice.ensures ∙ c.join.ensures ∙ ap (λ (h : List ℕ). h ++ c.args.last.now) c.self.view_is in
    rw bytes at (c.answer_head-next.ensures.unused a held)
