-- Private: the acts of the code.
use Rattle.std.specs.Prelude.{◌≡◌, ◌⊎◌, ℕ, List, Option, Some, None, Result}
use Rattle.arch_model.specs.Archives.{Archive}
use Rattle.edge_io.specs.Phrases.{Says}
use Rattle.edge_io.specs.declared.sink.SinkFault.{SinkFault}
use Rattle.line_door.specs.Acts.{ConnectionState}
use Rattle.line_door.specs.Turns.{IsLineAct}
use Rattle.line_door.specs.declared.turn.LineAct.{LineAct}
use Rattle.shelf_doors.specs.Refusals.{SaysUnread}
use Rattle.pop3_reader.specs.Commands as commands
use Rattle.pop3_reader.specs.Commands.{PopCommand}
use Rattle.pop3_reader.specs.Door.{PopClient, line_limit}
use Rattle.pop3_reader.specs.Notices.{refused_code}
use Rattle.pop3_reader.specs.Replies.{read_words, line_answered, too_long}
use Rattle.pop3_reader.specs.declared.maildrop.MailSize.{MailSize}
use Rattle.pop3_reader.specs.declared.order.MailPart.{MailPart}
use Rattle.pop3_reader.specs.declared.order.PopOrder.{PopOrder}
use Rattle.pop3_reader.specs.declared.order.PopOrder.TheVariants as order

-- The command that was read.
abbrev pub meant : PopOrder → PopCommand
meant (order.User name) = commands.User name.now
meant order.Pass = commands.Pass
meant order.Quit = commands.Quit
meant (order.Asks asked) = commands.Asks asked
meant order.Mistaken = commands.Mistaken

-- What was said of a message, by its text if it is live: its words, or why its text was not read.
abbrev pub SaysMail : MailPart → MailSize → Option (List ℕ) → ConnectionState → Result Unit SinkFault
    → ConnectionState → Type 0
SaysMail what mail None i sent j =
    (j.disk ≡ i.disk) × Says (read_words what mail None) i.out i.lost j.out j.lost sent
SaysMail what mail (Some text) i sent j =
    ((j.disk ≡ i.disk) × Says (read_words what mail (Some text)) i.out i.lost j.out j.lost sent)
    ⊎ SaysUnread refused_code i sent j

-- One act on the bytes at the front of a session.
abbrev pub IsPopAct : Archive → PopClient → List ℕ → ConnectionState → LineAct → PopClient
    → ConnectionState → Type 0
IsPopAct = IsLineAct line_limit line_answered too_long
