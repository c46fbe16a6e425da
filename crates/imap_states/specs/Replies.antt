-- The table of commands but for those that read messages: what each says over the archive now, in each
-- state of a session (RFC 3501, section 6, and RFC 2177).
use Rattle.std.specs.Prelude.{ℕ, List, [], ◌∷◌, ◌++◌, codes, Bool, true, false, Option, Some, None, if◌then◌else◌}
use Rattle.arch_model.specs.Archives.{Archive}
use Rattle.line_door.specs.Acts.{Said, Departure}
use Rattle.line_door.specs.Making.{says, closes, in_ways}
use Rattle.imap_syntax.specs.declared.asks.StatusItem.{StatusItem}
use Rattle.shelf_doors.specs.Mailboxes.{mailbox_named, mailbox_range}
use Rattle.shelf_doors.specs.declared.mailbox.MailboxRange.{MailboxRange}
use Rattle.imap_states.specs.Boxes.{box_of, select_words, status_line}
use Rattle.imap_states.specs.Lists.{listing}
use Rattle.imap_states.specs.Notices.{bye_line, bye_memory_line, idling_line, capability_line, bad_line, no_memory_line, read_only_line, not_here_line, no_mailbox_line, done_line, too_long_line}
use Rattle.imap_states.specs.States.{state_of, idles, is_logged_out, is_selected, place_lines, place_now}
use Rattle.imap_states.specs.declared.commands.StateCommand.{StateCommand}
use Rattle.imap_states.specs.declared.commands.StateCommand.TheVariants as command
use Rattle.imap_states.specs.declared.state.ImapPlace.{ImapPlace}
use Rattle.imap_states.specs.declared.state.ImapPlace.TheVariants as place
use Rattle.imap_states.specs.declared.state.ImapState.{ImapState}

-- A reply: its words, the state after it, and the archive, which stays.
abbrev pub ImapReply : Type 0
ImapReply = Said ImapState Archive

-- The session at another place.
abbrev pub at_place : ImapState → ImapPlace → ImapState
at_place s p = state_of p s.idle

-- A command isn't of the grammar, or of another state.
abbrev pub mistaken : Archive → ImapState → List ℕ → ImapReply
mistaken a s tag = says a s (bad_line tag)

-- A command that is done tells its client of changes, after its own lines and before its tagged one.
abbrev pub completed : Archive → ImapState → List ℕ → List ℕ → List ℕ → ImapReply
completed a s own tag name = says a (at_place s (place_now a s.place))
    (own ++ (place_lines a s.place ++ done_line tag name))

-- A reply if the client is logged in.
abbrev pub logged_in : Archive → ImapState → List ℕ → ImapReply → ImapReply
logged_in a s tag reply = if is_logged_out s.place then mistaken a s tag else reply

-- A reply if it isn't.
abbrev pub logged_out : Archive → ImapState → List ℕ → ImapReply → ImapReply
logged_out a s tag reply = if is_logged_out s.place then reply else mistaken a s tag

-- A reply if a mailbox is selected.
abbrev pub selected : Archive → ImapState → List ℕ → ImapReply → ImapReply
selected a s tag reply = if is_selected s.place then reply else mistaken a s tag

-- LOGIN: any user and any password.
abbrev pub login_reply : Archive → ImapState → List ℕ → ImapReply
login_reply a s tag = logged_out a s tag
    (says a (at_place s place.LoggedIn) (done_line tag (codes "LOGIN")))

-- AUTHENTICATE.
abbrev pub authenticate_reply : Archive → ImapState → List ℕ → ImapReply
authenticate_reply a s tag = logged_out a s tag (says a s (not_here_line tag))

-- LOGOUT, in each state.
abbrev pub logout_reply : Archive → List ℕ → ImapReply
logout_reply a tag = closes a (bye_line ++ done_line tag (codes "LOGOUT"))

-- A command that would change the archive's mailboxes, after the login.
abbrev pub change_reply : Archive → ImapState → List ℕ → ImapReply
change_reply a s tag = logged_in a s tag (says a s (read_only_line tag))

-- A command that would change messages, if a mailbox is selected.
abbrev pub change_messages_reply : Archive → ImapState → List ℕ → ImapReply
change_messages_reply a s tag = selected a s tag (says a s (read_only_line tag))

-- SELECT or EXAMINE of a mailbox with these numbers.
abbrev pub select_at : Archive → ImapState → List ℕ → List ℕ → MailboxRange → ImapReply
select_at a s tag name range =
    says a (at_place s (place.Selected (box_of a range))) (select_words a tag name range)

-- SELECT or EXAMINE of the mailbox with an index. If there is none, none is selected.
abbrev pub select_by : Archive → ImapState → List ℕ → List ℕ → Option ℕ → ImapReply
select_by a s tag name None = says a (at_place s place.LoggedIn) (no_mailbox_line tag)
select_by a s tag name (Some index) = select_at a s tag name (mailbox_range a index)

-- SELECT or EXAMINE, by the command's name.
abbrev pub select_reply : Archive → ImapState → List ℕ → List ℕ → List ℕ → ImapReply
select_reply a s tag name box =
    logged_in a s tag (select_by a s tag name (mailbox_named a box))

-- LIST or LSUB, by the command's name.
abbrev pub list_reply : Archive → ImapState → List ℕ → List ℕ → List ℕ → List ℕ → ImapReply
list_reply a s tag name reference pattern =
    logged_in a s tag (completed a s (listing a name reference pattern) tag name)

-- STATUS of the mailbox with an index and these numbers.
abbrev pub status_at : Archive → ImapState → List ℕ → List StatusItem → ℕ → MailboxRange → ImapReply
status_at a s tag items index range =
    completed a s (status_line a index range items) tag (codes "STATUS")

-- STATUS of the mailbox with an index. What is selected stays.
abbrev pub status_by : Archive → ImapState → List ℕ → List StatusItem → Option ℕ → ImapReply
status_by a s tag items None = says a s (no_mailbox_line tag)
status_by a s tag items (Some index) = status_at a s tag items index (mailbox_range a index)

-- STATUS.
abbrev pub status_reply : Archive → ImapState → List ℕ → List ℕ → List StatusItem → ImapReply
status_reply a s tag box items =
    logged_in a s tag (status_by a s tag items (mailbox_named a box))

-- CAPABILITY and NOOP.
abbrev pub capability_reply : Archive → ImapState → List ℕ → ImapReply
capability_reply a s tag = completed a s capability_line tag (codes "CAPABILITY")

abbrev pub noop_reply : Archive → ImapState → List ℕ → ImapReply
noop_reply a s tag = completed a s [] tag (codes "NOOP")

-- CHECK and CLOSE.
abbrev pub check_reply : Archive → ImapState → List ℕ → ImapReply
check_reply a s tag = selected a s tag (completed a s [] tag (codes "CHECK"))

abbrev pub close_reply : Archive → ImapState → List ℕ → ImapReply
close_reply a s tag = selected a s tag
    (says a (at_place s place.LoggedIn) (done_line tag (codes "CLOSE")))

-- IDLE (RFC 2177).
abbrev pub idle_reply : Archive → ImapState → List ℕ → ImapReply
idle_reply a s tag = logged_in a s tag (says a (state_of s.place (Some tag)) idling_line)

-- The reply to a command with a tag, over the archive now.
abbrev pub asked : Archive → ImapState → List ℕ → StateCommand → ImapReply
asked a s tag command.Capability = capability_reply a s tag
asked a s tag command.Noop = noop_reply a s tag
asked a s tag command.Logout = logout_reply a tag
asked a s tag command.Login = login_reply a s tag
asked a s tag command.Authenticate = authenticate_reply a s tag
asked a s tag (command.Select box) = select_reply a s tag (codes "SELECT") box.now
asked a s tag (command.Examine box) = select_reply a s tag (codes "EXAMINE") box.now
asked a s tag (command.List reference pattern) =
    list_reply a s tag (codes "LIST") reference.now pattern.now
asked a s tag (command.Lsub reference pattern) =
    list_reply a s tag (codes "LSUB") reference.now pattern.now
asked a s tag (command.Status box items) = status_reply a s tag box.now items.now
asked a s tag command.Change = change_reply a s tag
asked a s tag command.ChangeMessages = change_messages_reply a s tag
asked a s tag command.Check = check_reply a s tag
asked a s tag command.Close = close_reply a s tag
asked a s tag command.Idle = idle_reply a s tag

-- The line that ends the idling under a tag, by whether it is `DONE`.
abbrev pub end_line : List ℕ → Bool → List ℕ
end_line tag true = done_line tag (codes "IDLE")
end_line tag false = bad_line tag

-- The end of idling by a line. The client is told of changes first.
abbrev pub idle_ended : Archive → ImapState → List ℕ → Bool → ImapReply
idle_ended a s tag done = says a (state_of (place_now a s.place) None)
    (place_lines a s.place ++ end_line tag done)

-- A reply to a command with a tag in each way. Out of memory is said after the tag, and leaves the
-- state.
abbrev pub tagged_ways : Archive → ImapState → List ℕ → ImapReply → Departure → ImapReply
tagged_ways a s tag reply way = in_ways reply (says a s (no_memory_line tag)) reply way

-- A reply where no tag was read, in each way. Out of memory closes the session.
abbrev pub untagged_ways : Archive → ImapReply → Departure → ImapReply
untagged_ways a reply way = in_ways reply (closes a bye_memory_line) reply way

-- What is said to a command, in each way.
abbrev pub asked_said : Archive → ImapState → List ℕ → StateCommand → Departure → ImapReply
asked_said a s tag command way = tagged_ways a s tag (asked a s tag command) way

-- The update of a session.
abbrev pub updated : Archive → ImapState → ImapState
updated a s = at_place s (place_now a s.place)

-- What an update says, in each way. Out of memory closes the session.
abbrev pub update_said : Archive → ImapState → Departure → ImapReply
update_said a s way = untagged_ways a (says a (updated a s) (place_lines a s.place)) way

-- What the end of idling by a line says, in each way.
abbrev pub end_said : Archive → ImapState → List ℕ → Bool → Departure → ImapReply
end_said a s tag done way = untagged_ways a (idle_ended a s tag done) way

-- What a command that is too long is told first: a session that idles is told of changes.
abbrev pub told_first : Archive → ImapState → List ℕ
told_first a s = if idles s then place_lines a s.place else []

-- What is said to a command that is too long, in each way. Telling of changes may run out of memory.
abbrev pub excess_said : Archive → ImapState → Departure → ImapReply
excess_said a s way = in_ways (closes a (told_first a s ++ too_long_line))
    (closes a (if idles s then bye_memory_line else too_long_line))
    (closes a (told_first a s ++ too_long_line)) way
