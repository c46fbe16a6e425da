use Rattle.std.proofs.Common.{◌≡◌, ◌++◌, ◌∙◌, List, ℕ, drop, None, is_ok, true, not, refl, ap}
use Rattle.arch_model.specs.KeeperRecord.{keeper}
use Rattle.arch_model.specs.Standing.{standing}
use Rattle.control_door.specs.Sessions.{request_with}
use Rattle.control_door.proofs.Answering.{answers-held, acts-refusing, starved-unasked}
use Rattle.control_door.proofs.Counting.{meets-starved}
use Rattle.control_door.proofs.answers.say_joined.Goals as goal

pub returns-then-is_err-clause-acts : goal.returns-then-is_err-clause-acts
returns-then-is_err-clause-acts g c =
    answers-held (keeper g.K.Shelf g.K.Keep) g.met.K.Keep.holds_files_are g.met.K.Keep.holds_left c.args.moment (request_with c.args.aim (drop c.args.start (c.args.held.now ++ c.args.last.now))) c.args.keep.now _ _ _
    (λ a rest. (acts-refusing c.args.moment (standing a None) c.args.aim (drop c.args.start (c.args.held.now ++ c.args.last.now)) rest _ _ _ refl c.say_memory.ensures.said).0)
    (λ a rest. starved-unasked (keeper g.K.Shelf g.K.Keep) c.args.moment a c.args.aim (drop c.args.start (c.args.held.now ++ c.args.last.now)) _ c.args.keep.now _ _ _ _ (acts-refusing c.args.moment (standing a None) c.args.aim (drop c.args.start (c.args.held.now ++ c.args.last.now)) rest _ _ _ refl c.say_memory.ensures.said).1)

pub returns-clause-acts : goal.returns-clause-acts
returns-clause-acts g c =
    let ok : is_ok c.push_slice.result ≡ true = c.is_err.ensures.negation ∙ ap not c.if-is_err.false in
    let kept : c.push_slice.new.self ≡ c.args.held.now ++ c.args.last.now = rw ok at c.push_slice.ensures in
    let message : c.split_at.result.1.now ≡ drop c.args.start (c.args.held.now ++ c.args.last.now) = c.split_at.ensures.back ∙ ap (λ (h : List ℕ). drop c.args.start h) (c.as_slice.ensures ∙ kept) in
    rw (c.command_of.ensures ∙ ap (request_with c.args.aim) message) at c.say_commanded.ensures.acts

pub returns-then-is_err-clause-reads : goal.returns-then-is_err-clause-reads
returns-then-is_err-clause-reads g c = meets-starved c.args.aim (drop c.args.start (c.args.held.now ++ c.args.last.now)) _ _

pub returns-clause-reads : goal.returns-clause-reads
returns-clause-reads g c =
    let ok : is_ok c.push_slice.result ≡ true = c.is_err.ensures.negation ∙ ap not c.if-is_err.false in
    let kept : c.push_slice.new.self ≡ c.args.held.now ++ c.args.last.now = rw ok at c.push_slice.ensures in
    let message : c.split_at.result.1.now ≡ drop c.args.start (c.args.held.now ++ c.args.last.now) = c.split_at.ensures.back ∙ ap (λ (h : List ℕ). drop c.args.start h) (c.as_slice.ensures ∙ kept) in
    rw (c.command_of.ensures ∙ ap (request_with c.args.aim) message) at c.say_commanded.ensures.reads
