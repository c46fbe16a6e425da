use Rattle.std.proofs.Common.{◌≡◌, ◌++◌, ◌∙◌, [], List, ℕ, refl, arith, ap, length-append}
use Rattle.std.proofs.lemmas.List.{nil_from_length}
use Rattle.std.proofs.lemmas.Bool.Decides.{nat_tests}
use Rattle.http_front.specs.Fronts.{head_limit}
use Rattle.http_front.proofs.Scanning.{part-is}
use Rattle.http_front.proofs.Acting.{keeps, keeps-nothing, closes-keeping}
use Rattle.http_front.proofs.session.HttpSession.hold.Goals as goal

pub keep-requires : goal.keep-requires
keep-requires g c =
    let short = (part-is head_limit (c.args.self.now ++ c.args.piece.now) c.requires.held.part).1 in
    rw c.self.view_is (omega (arith, short, length-append c.args.self.now c.args.piece.now))

pub returns-then-is_empty-clause-turn : goal.returns-then-is_empty-clause-turn
returns-then-is_empty-clause-turn g c = λ a disk.
    let none : c.args.piece.now ≡ [] = nil_from_length c.args.piece.now (grind (arith, nat_tests)) in
    rw c.self.view_is (keeps-nothing c.args.moment a c.args.self.now c.args.piece.now _ none c.requires.held.part)

pub returns-in-Ok-clause-turn : goal.returns-in-Ok-clause-turn
returns-in-Ok-clause-turn g c = λ a disk.
    let same : c.keep.new.self ≡ c.args.self.now ++ c.args.piece.now = c.in-Ok.ensures.ok ∙ ap (λ (h : List ℕ). h ++ c.args.piece.now) c.self.view_is in
    rw same (keeps c.args.moment a (c.args.self.now ++ c.args.piece.now) _ c.requires.held.part)

pub returns-in-Err-clause-turn : goal.returns-in-Err-clause-turn
returns-in-Err-clause-turn g c = λ a disk.
    closes-keeping c.args.moment a c.args.self.now c.args.piece.now _ _ _ (grind (arith, nat_tests)) c.requires.held.part refl c.say_status.ensures.said
