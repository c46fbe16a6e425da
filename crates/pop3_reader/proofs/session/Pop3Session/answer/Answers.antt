use Rattle.std.proofs.Common.{◌≡◌, ◌++◌, ◌∙◌, ℕ, List, ap}
use Rattle.line_door.specs.Lines.{content}
use Rattle.line_door.specs.Skipping.{held_of}
use Rattle.line_door.proofs.Turning.{line-whole}
use Rattle.pop3_reader.specs.Commands.{command_of}
use Rattle.pop3_reader.specs.Door.{PopClient, line_limit}
use Rattle.pop3_reader.specs.Sessions.{meant}
use Rattle.pop3_reader.proofs.session.Pop3Session.answer.Goals as goal

pub returns-clause-acts : goal.returns-clause-acts
returns-clause-acts g c = λ a rest held.
    let state = ap (λ (r : PopClient). r.state) c.self.view_is in
    let bytes = ap (λ (r : PopClient). r.bytes) c.self.view_is in
    let whole : c.as_slice.result.now ≡ c.args.self.now.bytes ++ c.args.line.now = c.as_slice.ensures.value ∙ c.hold.ensures ∙ ap (λ (x : List ℕ). held_of line_limit (x ++ c.args.line.now)) bytes ∙ line-whole line_limit c.args.self.now.bytes c.args.line.now c.requires.short in
    let command : meant c.read_order-order.result ≡ command_of (content (c.args.self.now.bytes ++ c.args.line.now)) =
    c.read_order-order.ensures ∙ ap command_of (c.line_content.ensures ∙ ap content whole) in
    rw (state, command) at (c.say_order-next.ensures.acts a rest held)

pub returns-clause-reads : goal.returns-clause-reads
returns-clause-reads g c =
    let bytes = ap (λ (r : PopClient). r.bytes) c.self.view_is in
    let whole : c.as_slice.result.now ≡ c.args.self.now.bytes ++ c.args.line.now = c.as_slice.ensures.value ∙ c.hold.ensures ∙ ap (λ (x : List ℕ). held_of line_limit (x ++ c.args.line.now)) bytes ∙ line-whole line_limit c.args.self.now.bytes c.args.line.now c.requires.short in
    let command : meant c.read_order-order.result ≡ command_of (content (c.args.self.now.bytes ++ c.args.line.now)) =
    c.read_order-order.ensures ∙ ap command_of (c.line_content.ensures ∙ ap content whole) in
    rw command at c.say_order-next.ensures.reads

pub returns-clause-unused : goal.returns-clause-unused
returns-clause-unused g c = λ a held.
    let state = ap (λ (r : PopClient). r.state) c.self.view_is in
    let bytes = ap (λ (r : PopClient). r.bytes) c.self.view_is in
    let whole : c.as_slice.result.now ≡ c.args.self.now.bytes ++ c.args.line.now = c.as_slice.ensures.value ∙ c.hold.ensures ∙ ap (λ (x : List ℕ). held_of line_limit (x ++ c.args.line.now)) bytes ∙ line-whole line_limit c.args.self.now.bytes c.args.line.now c.requires.short in
    let command : meant c.read_order-order.result ≡ command_of (content (c.args.self.now.bytes ++ c.args.line.now)) =
    c.read_order-order.ensures ∙ ap command_of (c.line_content.ensures ∙ ap content whole) in
    rw (state, command) at (c.say_order-next.ensures.unused a held)
