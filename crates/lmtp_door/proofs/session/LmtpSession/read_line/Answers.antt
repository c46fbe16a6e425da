use Rattle.std.proofs.Common.{◌≡◌, ◌+◌, ◌++◌, ◌∙◌, ℕ, List, drop, refl, ap, false}
use Rattle.arch_model.specs.Next.{continues}
use Rattle.line_door.specs.Clipped.{longest_line}
use Rattle.line_door.proofs.Turning.{line-held, line-part}
use Rattle.lmtp_door.specs.Door.{Guest, guest}
use Rattle.lmtp_door.specs.Sessions.{phase_of, work_in}
use Rattle.lmtp_door.proofs.Acting.{went-line, went-long, kept-line, line-takes}
use Rattle.lmtp_door.proofs.session.LmtpSession.read_line.Goals as goal

pub answer_line-requires-clause-part : goal.answer_line-requires-clause-part
answer_line-requires-clause-part g c =
    let bytes = ap (λ (r : Guest). r.bytes) c.self.view_is in
    line-part longest_line (c.args.self.now.bytes ++ c.args.piece.now) _ _ (line-held longest_line c.self.inside.held c.args.self.now.bytes c.args.piece.now c.split_at.result.0.now c.in-Line.end bytes c.in-Line.ensures c.split_at.ensures.front)

pub returns-in-Line-clause-turn : goal.returns-in-Line-clause-turn
returns-in-Line-clause-turn g c = λ moment disk opened s named.
    let bytes = ap (λ (r : Guest). r.bytes) c.self.view_is in
    let is = line-held longest_line c.self.inside.held c.args.self.now.bytes c.args.piece.now c.split_at.result.0.now c.in-Line.end bytes c.in-Line.ensures c.split_at.ensures.front in
    rw c.went.ensures
    (went-line moment opened s c.args.self.now c.args.piece.now c.args.name.now (c.args.self.now.bytes ++ c.split_at.result.0.now) (c.in-Line.end + 1) c.answer_line.new.self _ _ (continues c.answer_line.result) c.requires.lines named is c.answer_line.ensures.empty
    (c.answer_line.ensures.acts disk opened s (drop (c.in-Line.end + 1) c.args.piece.now)))

pub returns-in-Line-clause-takes : goal.returns-in-Line-clause-takes
returns-in-Line-clause-takes g c = λ opened. rw c.went.ensures (line-takes opened c.args.self.now c.answer_line.new.self c.args.piece.now c.in-Line.end (continues c.answer_line.result) c.in-Line.ensures.0 c.answer_line.ensures.few)

pub returns-in-Skipped-clause-turn : goal.returns-in-Skipped-clause-turn
returns-in-Skipped-clause-turn g c = λ moment disk opened s named.
    let lines : work_in (phase_of c.self.inside.stage) ≡ _ = ap (λ (r : Guest). work_in r.phase) c.self.view_is ∙ c.requires.lines in
    rw (← c.self.view_is, c.went-in-Skipped.ensures)
    (went-long moment opened s (guest (phase_of c.self.inside.stage) c.self.inside.held false) c.args.piece.now (c.in-Skipped.end + 1) _ _ _ c.say_notice.result (continues c.after.result) lines c.in-Skipped.ensures.1 (ap (λ (b : List ℕ). guest (phase_of c.self.inside.stage) b false) c.clear.ensures) c.after.ensures refl c.say_notice.ensures.said)

pub returns-in-More-clause-turn : goal.returns-in-More-clause-turn
returns-in-More-clause-turn g c = λ moment disk opened s named.
    let lines : work_in (phase_of c.self.inside.stage) ≡ _ = ap (λ (r : Guest). work_in r.phase) c.self.view_is ∙ c.requires.lines in
    rw (← c.self.view_is)
    (kept-line moment opened s (guest (phase_of c.self.inside.stage) c.self.inside.held false) c.args.piece.now _ _ lines c.in-More.ensures (ap (λ (b : List ℕ). guest (phase_of c.self.inside.stage) b false) c.hold.ensures))
