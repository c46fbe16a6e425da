use Rattle.std.proofs.Common.{◌≡◌, ◌+◌, ◌++◌, ap, refl, drop}
use Rattle.line_door.specs.Clipped.{clipped, longest_line}
use Rattle.line_door.specs.Skipping.{Skipped, skipping_front}
use Rattle.line_door.proofs.Turning.{line-held, line-part, turn-line, turn-skipped, turn-kept, part-kept}
use Rattle.arch_model.specs.Next.{continues}
use Rattle.keep_course.proofs.LineUses.{line-spares}
use Rattle.shelf_doors.proofs.Acting.{acts-always}
use Rattle.shelf_doors.proofs.Reading.{line-reads, skipped-reads}
use Rattle.nntp_reader.specs.Counting.{line_texts}
use Rattle.nntp_reader.specs.Door.{Reader, line_uses}
use Rattle.nntp_reader.specs.Notices.{notice_line}
use Rattle.nntp_reader.specs.Replies.{line_answered, too_long}
use Rattle.nntp_reader.specs.declared.notice.Notice.TheVariants as notice
use Rattle.nntp_reader.proofs.session.NntpSession.act.Goals as goal

pub answer-requires-clause-part : goal.answer-requires-clause-part
answer-requires-clause-part g c =
    let held = ap (λ (r : Reader). r.bytes) c.self.view_is in
    line-part longest_line (c.args.self.now.bytes ++ c.args.piece.now) _ _ (line-held longest_line c.self.inside.held c.args.self.now.bytes c.args.piece.now c.split_at.result.0.now c.in-Line.end held c.in-Line.ensures c.split_at.ensures.front)

pub returns-in-Line-clause-turn : goal.returns-in-Line-clause-turn
returns-in-Line-clause-turn g c = λ a held.
    let bytes = ap (λ (r : Reader). r.bytes) c.self.view_is in
    let is = line-held longest_line c.self.inside.held c.args.self.now.bytes c.args.piece.now c.split_at.result.0.now c.in-Line.end bytes c.in-Line.ensures c.split_at.ensures.front in
    rw c.went.ensures
    (turn-line longest_line (line_answered c.args.moment) too_long a c.args.self.now.state c.args.self.now.bytes c.args.piece.now (c.args.self.now.bytes ++ c.split_at.result.0.now) c.answer.new.self.bytes c.answer.new.self.state (c.in-Line.end + 1) _ _ (continues c.answer.result) is c.answer.ensures.empty
    (c.answer.ensures.acts a (clipped longest_line (drop (c.in-Line.end + 1) c.args.piece.now)) held))

pub returns-in-Skipped-clause-turn : goal.returns-in-Skipped-clause-turn
returns-in-Skipped-clause-turn g c = λ a held.
    let is : skipping_front longest_line (c.self.inside.held ++ c.args.piece.now) ≡ Skipped (drop (c.in-Skipped.end + 1) c.args.piece.now) = c.in-Skipped.ensures.1 in
    rw (← c.self.view_is, c.went-in-Skipped.ensures)
    (turn-skipped longest_line (line_answered c.args.moment) too_long a c.self.inside.group c.self.inside.held c.args.piece.now c.clear.new.self c.self.inside.group (c.in-Skipped.end + 1) _ _ (continues c.after.result) is c.clear.ensures
    (acts-always a c.self.inside.group (clipped longest_line (drop (c.in-Skipped.end + 1) c.args.piece.now)) (notice_line notice.Syntax) _ _ c.say_notice.result (continues c.after.result) c.after.ensures refl c.say_notice.ensures.said))

pub returns-in-More-clause-turn : goal.returns-in-More-clause-turn
returns-in-More-clause-turn g c = λ a held.
    rw (← c.self.view_is) (turn-kept longest_line (line_answered c.args.moment) too_long a c.self.inside.group c.self.inside.held c.args.piece.now c.hold.new.self _ c.in-More.ensures c.hold.ensures)

pub returns-in-More-clause-takes : goal.returns-in-More-clause-takes
returns-in-More-clause-takes g c = part-kept longest_line c.hold.new.self (c.self.inside.held ++ c.args.piece.now) c.in-More.ensures c.hold.ensures

pub returns-in-Line-clause-reads : goal.returns-in-Line-clause-reads
returns-in-Line-clause-reads g c = λ a held.
    let bytes = ap (λ (r : Reader). r.bytes) c.self.view_is in
    let is = line-held longest_line c.self.inside.held c.args.self.now.bytes c.args.piece.now c.split_at.result.0.now c.in-Line.end bytes c.in-Line.ensures c.split_at.ensures.front in
    rw c.went.ensures
    (line-reads longest_line (line_texts c.args.moment a) c.args.self.now.state c.answer.new.self.state c.args.self.now.bytes c.args.piece.now (c.args.self.now.bytes ++ c.split_at.result.0.now) c.answer.new.self.bytes (c.in-Line.end + 1) (continues c.answer.result) _ _ is c.answer.ensures.empty (c.answer.ensures.reads a held))

pub returns-in-Skipped-clause-reads : goal.returns-in-Skipped-clause-reads
returns-in-Skipped-clause-reads g c = λ a held.
    let is : skipping_front longest_line (c.self.inside.held ++ c.args.piece.now) ≡ Skipped (drop (c.in-Skipped.end + 1) c.args.piece.now) = c.in-Skipped.ensures.1 in
    rw (← c.self.view_is, c.went-in-Skipped.ensures)
    (skipped-reads longest_line (line_texts c.args.moment a) c.self.inside.group c.self.inside.held c.args.piece.now c.clear.new.self (c.in-Skipped.end + 1) (continues c.after.result) _ is c.clear.ensures)

pub returns-in-Line-clause-unused : goal.returns-in-Line-clause-unused
returns-in-Line-clause-unused g c = λ a held spares.
    let bytes = ap (λ (r : Reader). r.bytes) c.self.view_is in
    let is = line-held longest_line c.self.inside.held c.args.self.now.bytes c.args.piece.now c.split_at.result.0.now c.in-Line.end bytes c.in-Line.ensures c.split_at.ensures.front in
    c.answer.ensures.unused a held (line-spares longest_line (line_uses c.args.moment) a c.args.self.now.state (c.args.self.now.bytes ++ c.args.piece.now) (c.args.self.now.bytes ++ c.split_at.result.0.now) (drop (c.in-Line.end + 1) c.args.piece.now) is spares)
