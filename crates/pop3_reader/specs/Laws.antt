-- The laws of the door: cuts of the bytes change nothing, and a maildrop stays.
use Rattle.std.specs.Prelude.{◌≡◌, ◌≢◌, ◌↔◌, ℕ, Some, None}
use Rattle.arch_model.specs.Archives.{Archive, live, text_of}
use Rattle.line_door.specs.Acts.{Departure}
use Rattle.line_door.specs.Readers.{LineReaderLaws}
use Rattle.pop3_reader.specs.Commands.{PopCommand, Quit, Asks}
use Rattle.pop3_reader.specs.Door.{line_limit}
use Rattle.pop3_reader.specs.Maildrops.{mail_at}
use Rattle.pop3_reader.specs.Notices.{notice_line}
use Rattle.pop3_reader.specs.Replies.{in_way, line_answered, too_long}
use Rattle.pop3_reader.specs.declared.maildrop.MailSize.{MailSize}
use Rattle.pop3_reader.specs.declared.maildrop.Maildrop.{Maildrop}
use Rattle.pop3_reader.specs.declared.maildrop.PopState.TheVariants as state
use Rattle.pop3_reader.specs.declared.notice.PopNotice.TheVariants as notice
use Rattle.pop3_reader.specs.declared.order.MailOrder.TheVariants as order
use Rattle.pop3_reader.specs.declared.order.MailPart.{MailPart}

-- Feeding one piece and then another says and leaves what feeding both at once does. The acts of one
-- piece and then of another are acts of both, even if allocations, the disk or sends fail. Acts
-- without such failures are the plain function, in both directions.
abbrev pub PopCuts : Type 0
PopCuts = LineReaderLaws line_limit line_answered too_long

-- The command isn't QUIT.
abbrev pub IsNotQuit : PopCommand → Type 0
IsNotQuit command = command ≢ Quit

-- Whatever the archive is by then, no reply changes a maildrop, and only that to QUIT closes the
-- session. So no command of others renumbers it.
pub record MaildropStays : Type 0 where
  pub command : (a : Archive) (d : Maildrop) (asked : PopCommand) (way : Departure) → IsNotQuit asked
      → (in_way a (state.Entered d) asked way).state ≡ Some (state.Entered d)
  pub long : (a : Archive) (d : Maildrop)
      → (too_long a (state.Entered d)).state ≡ Some (state.Entered d)

-- The command is none that reads a text.
abbrev pub ReadsNone : PopCommand → Type 0
ReadsNone command = (what : MailPart) (k : ℕ) → command ≢ Asks (order.Read what k)

-- Only RETR and TOP depend on the archive. All other commands speak of the maildrop alone, in every
-- way.
abbrev pub SpeaksOfMaildrop : Type 0
SpeaksOfMaildrop = (a b : Archive) (d : Maildrop) (command : PopCommand) (way : Departure)
    → ReadsNone command
    → (in_way a (state.Entered d) command way).words ≡ (in_way b (state.Entered d) command way).words

-- RETR and TOP of a message of the maildrop say that it is gone exactly where its number isn't live, in
-- every way.
abbrev pub GoneIfNotLive : Type 0
GoneIfNotLive = (a : Archive) (d : Maildrop) (what : MailPart) (k : ℕ) (mail : MailSize)
    (way : Departure) → mail_at d.mails k ≡ Some mail
    → ((in_way a (state.Entered d) (Asks (order.Read what k)) way).words ≡ notice_line notice.Gone)
    ↔ (text_of (live a.entries) mail.number ≡ None)

-- The laws.
pub record PopLaws : Type 0 where
  pub cuts : PopCuts
  pub stays : MaildropStays
  pub alone : SpeaksOfMaildrop
  pub gone : GoneIfNotLive
