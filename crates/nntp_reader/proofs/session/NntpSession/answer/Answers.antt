use Rattle.std.proofs.Common.{◌≡◌, ◌++◌, ◌∙◌, ℕ, List, ap}
use Rattle.line_door.specs.Clipped.{longest_line}
use Rattle.line_door.specs.Lines.{content}
use Rattle.line_door.specs.Skipping.{held_of}
use Rattle.nntp_reader.specs.Commands.{command_of}
use Rattle.nntp_reader.specs.Dates.{year_at}
use Rattle.nntp_reader.specs.Door.{Reader}
use Rattle.nntp_reader.specs.Sessions.{meant}
use Rattle.line_door.proofs.Turning.{line-whole}
use Rattle.nntp_reader.proofs.session.NntpSession.answer.Goals as goal

pub returns-clause-acts : goal.returns-clause-acts
returns-clause-acts g c = λ a rest held.
    let group = ap (λ (r : Reader). r.state) c.self.view_is in
    let bytes = ap (λ (r : Reader). r.bytes) c.self.view_is in
    let whole : c.as_slice.result.now ≡ c.args.self.now.bytes ++ c.args.line.now = c.as_slice.ensures.value ∙ c.hold.ensures ∙ ap (λ (x : List ℕ). held_of longest_line (x ++ c.args.line.now)) bytes ∙ line-whole longest_line c.args.self.now.bytes c.args.line.now c.requires.short in
    let command : meant c.read_order-order.result ≡ command_of (year_at c.args.moment) (content (c.args.self.now.bytes ++ c.args.line.now)) =
    c.read_order-order.ensures ∙ ap (λ (y : ℕ). command_of y c.line_content.result.now) c.year_of.ensures.value ∙ ap (command_of (year_at c.args.moment)) (c.line_content.ensures ∙ ap content whole) in
    rw (group, command) at (c.say_order-next.ensures.acts a rest held)

pub returns-clause-reads : goal.returns-clause-reads
returns-clause-reads g c = λ a held.
    let bytes = ap (λ (r : Reader). r.bytes) c.self.view_is in
    let whole : c.as_slice.result.now ≡ c.args.self.now.bytes ++ c.args.line.now = c.as_slice.ensures.value ∙ c.hold.ensures ∙ ap (λ (x : List ℕ). held_of longest_line (x ++ c.args.line.now)) bytes ∙ line-whole longest_line c.args.self.now.bytes c.args.line.now c.requires.short in
    let command : meant c.read_order-order.result ≡ command_of (year_at c.args.moment) (content (c.args.self.now.bytes ++ c.args.line.now)) =
    c.read_order-order.ensures ∙ ap (λ (y : ℕ). command_of y c.line_content.result.now) c.year_of.ensures.value ∙ ap (command_of (year_at c.args.moment)) (c.line_content.ensures ∙ ap content whole) in
    rw command at (c.say_order-next.ensures.reads a held)

pub returns-clause-unused : goal.returns-clause-unused
returns-clause-unused g c = λ a held spares.
    let group = ap (λ (r : Reader). r.state) c.self.view_is in
    let bytes = ap (λ (r : Reader). r.bytes) c.self.view_is in
    let whole : c.as_slice.result.now ≡ c.args.self.now.bytes ++ c.args.line.now = c.as_slice.ensures.value ∙ c.hold.ensures ∙ ap (λ (x : List ℕ). held_of longest_line (x ++ c.args.line.now)) bytes ∙ line-whole longest_line c.args.self.now.bytes c.args.line.now c.requires.short in
    let command : meant c.read_order-order.result ≡ command_of (year_at c.args.moment) (content (c.args.self.now.bytes ++ c.args.line.now)) =
    c.read_order-order.ensures ∙ ap (λ (y : ℕ). command_of y c.line_content.result.now) c.year_of.ensures.value ∙ ap (command_of (year_at c.args.moment)) (c.line_content.ensures ∙ ap content whole) in
    c.say_order-next.ensures.unused a held (rw (group, command) spares)
