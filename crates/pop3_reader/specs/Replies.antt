-- The table of a client's commands: what each says over the archive now, in each state of a session
-- (RFC 1939, sections 4, 5 and 7).
use Rattle.std.specs.Prelude.{ℕ, Bool, false, ◌||◌, List, Option, Some, None, is_some}
use Rattle.arch_model.specs.Archives.{Archive, live, text_of}
use Rattle.line_door.specs.Acts.{Departure}
use Rattle.line_door.specs.Readers.{LineReply}
use Rattle.shelf_doors.specs.Mailboxes.{mailbox_named, mailbox_at}
use Rattle.shelf_doors.specs.Ways.{ShelfReply, replies, ends, over, in_each_way}
use Rattle.pop3_reader.specs.Commands.{PopCommand, User, Pass, Quit, Asks, Mistaken, command_of}
use Rattle.pop3_reader.specs.Maildrops.{maildrop_of, mail_at}
use Rattle.pop3_reader.specs.Notices.{notice_line, refused_code}
use Rattle.pop3_reader.specs.Texts.{listing_words, stat_words, dele_words, entered_words, text_words}
use Rattle.pop3_reader.specs.declared.maildrop.MailSize.{MailSize}
use Rattle.pop3_reader.specs.declared.maildrop.Maildrop.{Maildrop}
use Rattle.pop3_reader.specs.declared.maildrop.PopState.{PopState}
use Rattle.pop3_reader.specs.declared.maildrop.PopState.TheVariants as state
use Rattle.pop3_reader.specs.declared.notice.PopNotice.TheVariants as notice
use Rattle.pop3_reader.specs.declared.order.MailOrder.{MailOrder}
use Rattle.pop3_reader.specs.declared.order.MailOrder.TheVariants as order
use Rattle.pop3_reader.specs.declared.order.MailPart.{MailPart}

-- A reply: its words, and the state after it. None is streamed.
abbrev pub PopReply : Type 0
PopReply = ShelfReply PopState

-- A line that spells no command, or one of another state.
abbrev pub mistaken : PopState → PopReply
mistaken s = replies s (notice_line notice.Syntax)

-- USER: the mailbox with a name is accepted, if there is one. If there is none, none is accepted.
abbrev pub user_reply : Option ℕ → PopReply
user_reply None = replies (state.Before None) (notice_line notice.NoMaildrop)
user_reply (Some index) = replies (state.Before (Some index)) (notice_line notice.Done)

-- PASS, where a mailbox was accepted: the maildrop is taken, if the mailbox is there now.
abbrev pub enter_reply : Archive → ℕ → Option ℕ → PopReply
enter_reply a accepted None =
    replies (state.Before (Some accepted)) (notice_line notice.NoMaildrop)
enter_reply a accepted (Some index) =
    replies (state.Entered (maildrop_of a index)) (entered_words (maildrop_of a index))

-- PASS.
abbrev pub pass_reply : Archive → Option ℕ → PopReply
pass_reply a None = replies (state.Before None) (notice_line notice.UserFirst)
pass_reply a (Some index) = enter_reply a index (mailbox_at a (Some index))

-- A command before the login. A mailbox is known by its index, since an archive keeps its name and how
-- many numbers a mailbox has.
abbrev pub before_reply : Archive → Option ℕ → PopCommand → PopReply
before_reply a accepted (User name) = user_reply (mailbox_named a name)
before_reply a accepted Pass = pass_reply a accepted
before_reply a accepted Quit = ends (notice_line notice.Bye)
before_reply a accepted (Asks asked) = mistaken (state.Before accepted)
before_reply a accepted Mistaken = mistaken (state.Before accepted)

-- What is said of a message, by its text over the archive now. One that isn't live is gone.
abbrev pub read_words : MailPart → MailSize → Option (List ℕ) → List ℕ
read_words what mail None = notice_line notice.Gone
read_words what mail (Some text) = text_words what mail text

-- The text over the archive now of a message that is asked for, if it is live.
abbrev pub text_at : Archive → MailSize → Option (List ℕ)
text_at a mail = text_of (live a.entries) mail.number

-- What is said of a message of the maildrop, if there is one.
abbrev pub mail_words : Archive → MailPart → Option MailSize → List ℕ
mail_words a what None = notice_line notice.NoMessage
mail_words a what (Some mail) = read_words what mail (text_at a mail)

-- A command on a maildrop. Only RETR and TOP look at the archive now.
abbrev pub asked_words : Archive → Maildrop → MailOrder → List ℕ
asked_words a d order.Stat = stat_words d
asked_words a d (order.List what k) = listing_words what d k
asked_words a d (order.Read what k) = mail_words a what (mail_at d.mails k)
asked_words a d (order.Dele k) = dele_words (mail_at d.mails k)
asked_words a d order.Noop = notice_line notice.Done
asked_words a d order.Rset = notice_line notice.Done

-- A command after the login. All but QUIT leave the maildrop.
abbrev pub entered_reply : Archive → Maildrop → PopCommand → PopReply
entered_reply a d (User name) = mistaken (state.Entered d)
entered_reply a d Pass = mistaken (state.Entered d)
entered_reply a d Quit = ends (notice_line notice.Bye)
entered_reply a d (Asks asked) = replies (state.Entered d) (asked_words a d asked)
entered_reply a d Mistaken = mistaken (state.Entered d)

-- The reply to a command over the archive now.
abbrev pub answered : Archive → PopState → PopCommand → PopReply
answered a (state.Before accepted) command = before_reply a accepted command
answered a (state.Entered d) command = entered_reply a d command

-- A message of the maildrop is live.
abbrev pub is_there : Archive → Option MailSize → Bool
is_there a None = false
is_there a (Some mail) = is_some (text_at a mail)

-- A command reads a text: RETR or TOP of a live message.
abbrev pub reads_text : Archive → PopState → PopCommand → Bool
reads_text a (state.Entered d) (Asks (order.Read what k)) = is_there a (mail_at d.mails k)
reads_text a s command = false

-- A command takes a maildrop: PASS, where the accepted mailbox is there.
abbrev pub takes_maildrop : Archive → PopState → PopCommand → Bool
takes_maildrop a (state.Before (Some index)) Pass = is_some (mailbox_at a (Some index))
takes_maildrop a s command = false

-- The reply to a command in each way. A command that takes a maildrop or reads a text may run out of
-- memory, and one that reads a text may meet a fault of the disk. Either says a line, and leaves the
-- state.
abbrev pub in_way : Archive → PopState → PopCommand → Departure → LineReply PopState Archive
in_way a s command way = in_each_way refused_code a s
    (takes_maildrop a s command || reads_text a s command) (reads_text a s command)
    (answered a s command) way

-- The reply to a line, without its line end, in each way.
abbrev pub line_answered : Archive → PopState → List ℕ → Departure
    → LineReply PopState Archive
line_answered a s line way = in_way a s (command_of line) way

-- The reply to a line that is too long.
abbrev pub too_long : Archive → PopState → LineReply PopState Archive
too_long a s = over a (replies s (notice_line notice.TooLong))

-- How many texts a command reads at most: one for RETR and TOP, and none for any other.
abbrev pub command_texts : PopCommand → ℕ
command_texts (Asks (order.Read what k)) = 1
command_texts command = 0

-- How many texts are read at most to answer a line.
abbrev pub line_texts : List ℕ → ℕ
line_texts line = command_texts (command_of line)
