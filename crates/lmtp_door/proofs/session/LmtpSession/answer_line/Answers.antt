use Rattle.std.proofs.Common.{◌≡◌, ◌++◌, ◌∙◌, ℕ, List, refl, ap, is_ok, if◌then◌else◌, Bool, false}
use Rattle.arch_model.specs.Next.{continues}
use Rattle.line_door.specs.Clipped.{longest_line}
use Rattle.line_door.specs.Lines.{content}
use Rattle.line_door.specs.Skipping.{held_of}
use Rattle.line_door.proofs.Turning.{line-whole}
use Rattle.lmtp_door.specs.Commands.{command_of}
use Rattle.lmtp_door.specs.Door.{Guest}
use Rattle.lmtp_door.specs.Notices.{is_bye}
use Rattle.lmtp_door.proofs.Acting.{acts-turn, turn-few}
use Rattle.lmtp_door.proofs.session.LmtpSession.answer_line.Goals as goal

pub returns-clause-acts : goal.returns-clause-acts
returns-clause-acts g c = λ disk opened s rest.
    let phase = ap (λ (r : Guest). r.phase) c.self.view_is in
    let bytes = ap (λ (r : Guest). r.bytes) c.self.view_is in
    let whole : c.as_slice-2.result.now ≡ c.args.self.now.bytes ++ c.args.line.now = c.as_slice-2.ensures.value ∙ c.hold.ensures ∙ ap (λ (x : List ℕ). held_of longest_line (x ++ c.args.line.now)) bytes ∙ line-whole longest_line c.args.self.now.bytes c.args.line.now c.requires.short in
    let named : c.as_slice.result.now ≡ c.args.name.now = c.as_slice.ensures.value in
    let command : c.read_order-order.result ≡ command_of c.args.name.now (content (c.args.self.now.bytes ++ c.args.line.now)) =
    c.read_order-order.ensures ∙ ap (λ (n : List ℕ). command_of n c.line_content.result.now) named ∙ ap (command_of c.args.name.now) (c.line_content.ensures ∙ ap content whole) in
    let goes : continues c.after_notice.result ≡ (if is_bye c.turn-notice.result then false else is_ok c.say_notice.result) = c.after_notice.ensures ∙ ap (λ (b : Bool). if is_bye c.turn-notice.result then false else b) c.after.ensures in
    acts-turn s c.args.self.now.phase opened (command_of c.args.name.now (content (c.args.self.now.bytes ++ c.args.line.now))) rest c.turn-notice.result _ _ _ c.say_notice.result (continues c.after_notice.result)
    (rw (phase, command) at c.turn-notice.ensures.turn) goes refl c.say_notice.ensures.said

pub returns-clause-few : goal.returns-clause-few
returns-clause-few g c =
    let phase = ap (λ (r : Guest). r.phase) c.self.view_is in
    rw phase at (turn-few _ c.read_order-order.result c.turn-notice.result _ c.turn-notice.ensures.turn)
