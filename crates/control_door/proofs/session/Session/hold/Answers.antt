use Rattle.std.proofs.Common.{◌≡◌, ◌++◌, ◌∙◌, [], refl, arith, ap, is_ok, true, not}
use Rattle.std.proofs.lemmas.List.{nil_from_length}
use Rattle.std.proofs.lemmas.Bool.Decides.{nat_tests}
use Rattle.control_door.proofs.Holding.{keeps, keeps-nothing, closes-keeping}
use Rattle.control_door.proofs.session.Session.hold.Goals as goal

pub returns-then-is_empty-clause-turn : goal.returns-then-is_empty-clause-turn
returns-then-is_empty-clause-turn g c = λ moment disk opened s.
    let none : c.args.piece.now ≡ [] = nil_from_length c.args.piece.now (grind (arith, nat_tests)) in
    rw c.self.view_is (keeps-nothing moment opened s c.args.self.now c.args.piece.now c.args.payload _ none c.requires)

pub returns-then-is_err-clause-turn : goal.returns-then-is_err-clause-turn
returns-then-is_err-clause-turn g c = λ moment disk opened s.
    closes-keeping moment opened s c.args.self.now c.args.piece.now c.args.payload _ _ _ (grind (arith, nat_tests)) c.requires refl c.say_memory.ensures.said

pub returns-clause-turn : goal.returns-clause-turn
returns-clause-turn g c = λ moment disk opened s.
    let ok : is_ok c.push_slice.result ≡ true = c.is_err.ensures.negation ∙ ap not c.if-is_err.false in
    let pushed = rw ok at c.push_slice.ensures in
    let kept : c.push_slice.new.self ≡ c.args.self.now ++ c.args.piece.now = pushed ∙ ap (λ h. h ++ c.args.piece.now) c.self.view_is in
    rw kept (keeps moment opened s (c.args.self.now ++ c.args.piece.now) c.args.payload _ c.requires)
