use Rattle.std.proofs.Common.{◌≡◌, ◌∙◌, List, ℕ, [], ap, sym, false, nat_lt}
use Rattle.arch_model.specs.KeeperRecord.{keeper}
use Rattle.arch_model.specs.Next.{continues}
use Rattle.arch_model.specs.Delivery.{delivered}
use Rattle.keep_course.specs.Answering.{AsksDelivery}
use Rattle.lmtp_data.specs.Readings.{data_limit}
use Rattle.lmtp_door.specs.Door.{Guest, guest}
use Rattle.lmtp_door.specs.Phases.{LmtpPhase}
use Rattle.lmtp_door.specs.Sessions.{phase_of, work_in, count_in}
use Rattle.lmtp_door.proofs.Acting.{gift-held}
use Rattle.lmtp_door.proofs.Answering.{turns-given}
use Rattle.lmtp_door.proofs.session.LmtpSession.answer_recipient.Goals as goal

pub returns-then-not-opened-clause-turn : goal.returns-then-not-opened-clause-turn
returns-then-not-opened-clause-turn g c = λ name piece. rw c.if-not-opened.true (c.reopen.ensures.turn c.args.moment name piece)

pub returns-clause-turn : goal.returns-clause-turn
returns-clause-turn g c = λ name piece.
    let at_hand = c.requires.ready c.if-not-opened.false in
    let there : work_in (phase_of c.self.inside.stage) ≡ _ = ap (λ (r : Guest). work_in r.phase) c.self.view_is ∙ c.requires.data in
    let short : nat_lt data_limit (count_in (phase_of c.self.inside.stage)) ≡ false = sym c.is_too_long.ensures ∙ c.if-is_too_long.false in
    let none : c.self.inside.held ≡ [] = gift-held (work_in (phase_of c.self.inside.stage)) c.self.inside.held there c.self.invariant in
    let old : c.args.self.now ≡ guest (phase_of c.self.inside.stage) [] false = sym c.self.view_is ∙ ap (λ (b : List ℕ). guest (phase_of c.self.inside.stage) b false) none in
    rw (old, c.if-not-opened.false, c.gave-2.ensures)
    (turns-given (keeper g.K.Shelf g.K.Keep) c.args.moment name (phase_of c.self.inside.stage) piece there _ _ _ _ _ c.command-answer.result c.say_reply-said-2.result (continues c.after-2.result) _ at_hand short c.after-2.ensures
    (ap (λ (b : List ℕ). guest (phase_of c.pass_on-2.new.self) b false) none ∙ ap (λ (p : LmtpPhase). guest p [] false) c.pass_on-2.ensures.phase) c.command-answer.ensures.cause c.command-answer.ensures.later c.say_reply-said-2.ensures.said (ap AsksDelivery c.text.ensures) (λ a. ap (λ (x : List ℕ). delivered a x c.args.moment) c.text.ensures) c.command-answer.ensures.ready
    (λ s fits. c.command-answer.ensures.done s fits))
