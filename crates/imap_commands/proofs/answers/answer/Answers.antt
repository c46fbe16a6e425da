use Rattle.std.proofs.Common.{ap, ◌∙◌}
use Rattle.line_door.proofs.Acting.{acts-words}
use Rattle.imap_syntax.specs.Requests.{WholeCommand}
use Rattle.imap_commands.specs.Orders.{order_said}
use Rattle.imap_commands.specs.Replies.{command_said, whole_said}
use Rattle.imap_commands.proofs.answers.answer.Goals as goal

pub returns-in-Ok-clause-acts : goal.returns-in-Ok-clause-acts
returns-in-Ok-clause-acts g c = λ a held suits.
    let s = c.args.state.now in
    acts-words (command_said a s c.args.octets.now) (order_said a s c.order_of.result) _ _ a _
    (λ way. ap (λ (w : WholeCommand). whole_said a s w way) c.in-Ok.ensures ∙ c.order_of.ensures.said a s way) (c.say_order.ensures.acts a held suits)
