-- What is said to the octets of a whole command, over the archive now and in each state of a session
-- (RFC 3501, sections 6 and 9, and RFC 2177).
use Rattle.std.specs.Prelude.{ℕ, Bool, List, codes, Option}
use Rattle.arch_model.specs.Archives.{Archive}
use Rattle.line_door.specs.Acts.{Said, Departure}
use Rattle.line_door.specs.Making.{says}
use Rattle.line_door.specs.Over.{said_over}
use Rattle.known_uids.specs.Told.{Known}
use Rattle.imap_syntax.specs.Commands.{whole_of}
use Rattle.imap_syntax.specs.Requests.{ImapCommand, Plain, OnMailbox, Lists, Login, Authenticate, Rename, Status, Append, Copy, Fetch, Store, Search, WholeCommand, Untagged, Faulty, Understood}
use Rattle.imap_syntax.specs.Trees.{KeyTree}
use Rattle.imap_syntax.specs.declared.command_names.ListCommand.{ListCommand}
use Rattle.imap_syntax.specs.declared.command_names.ListCommand.TheVariants as list
use Rattle.imap_syntax.specs.declared.command_names.MailboxCommand.{MailboxCommand}
use Rattle.imap_syntax.specs.declared.command_names.MailboxCommand.TheVariants as mailbox
use Rattle.imap_syntax.specs.declared.command_names.PlainCommand.{PlainCommand}
use Rattle.imap_syntax.specs.declared.command_names.PlainCommand.TheVariants as plain
use Rattle.imap_syntax.specs.declared.items.Item.{Item}
use Rattle.imap_syntax.specs.declared.sets.SetRange.{SetRange}
use Rattle.imap_messages.specs.Fetching.{FetchAsked, fetch_said}
use Rattle.imap_messages.specs.Picking.{numbering_of}
use Rattle.imap_messages.specs.Seeking.{SearchAsked, search_said}
use Rattle.imap_states.specs.Notices.{untagged_line}
use Rattle.imap_states.specs.Replies.{ImapReply, mistaken, login_reply, authenticate_reply, logout_reply, change_reply, change_messages_reply, select_reply, list_reply, status_reply, capability_reply, noop_reply, check_reply, close_reply, idle_reply, tagged_ways, untagged_ways}
use Rattle.imap_states.specs.declared.state.ImapPlace.{ImapPlace}
use Rattle.imap_states.specs.declared.state.ImapPlace.TheVariants as place
use Rattle.imap_states.specs.declared.state.ImapState.{ImapState}

-- The reply to a command without arguments.
abbrev pub plain_reply : Archive → ImapState → List ℕ → PlainCommand → ImapReply
plain_reply a s tag plain.Capability = capability_reply a s tag
plain_reply a s tag plain.Noop = noop_reply a s tag
plain_reply a s tag plain.Logout = logout_reply a tag
plain_reply a s tag plain.Check = check_reply a s tag
plain_reply a s tag plain.Close = close_reply a s tag
plain_reply a s tag plain.Expunge = change_messages_reply a s tag
plain_reply a s tag plain.Idle = idle_reply a s tag

-- The reply to a command on a mailbox with a name.
abbrev pub mailbox_reply : Archive → ImapState → List ℕ → MailboxCommand → List ℕ → ImapReply
mailbox_reply a s tag mailbox.Select box = select_reply a s tag (codes "SELECT") box
mailbox_reply a s tag mailbox.Examine box = select_reply a s tag (codes "EXAMINE") box
mailbox_reply a s tag mailbox.Create box = change_reply a s tag
mailbox_reply a s tag mailbox.Delete box = change_reply a s tag
mailbox_reply a s tag mailbox.Subscribe box = change_reply a s tag
mailbox_reply a s tag mailbox.Unsubscribe box = change_reply a s tag

-- The name of a command that lists mailboxes.
abbrev pub list_name : ListCommand → List ℕ
list_name list.List = codes "LIST"
list_name list.Lsub = codes "LSUB"

-- A FETCH. Its set has UIDs if it stands after the word UID, and sequence numbers else.
abbrev pub fetch_asked : List ℕ → Bool → List SetRange → List Item → FetchAsked
fetch_asked tag by_uid set items =
    record { tag = tag; numbering = numbering_of by_uid; set = set; items = items }

-- A SEARCH. It gives UIDs if it stands after the word UID, and sequence numbers else.
abbrev pub search_asked : List ℕ → Bool → Option (List ℕ) → List KeyTree → SearchAsked
search_asked tag by_uid charset keys =
    record { tag = tag; numbering = numbering_of by_uid; charset = charset; keys = keys }

-- A reply that leaves the state of its session: the client isn't told of changes.
abbrev pub in_state : ImapState → Said Known Archive → ImapReply
in_state s reply = said_over (λ (a : Archive). a) (λ (k : Known). s) reply

-- What is said to a FETCH at a place, in each way. It needs a mailbox, and speaks of its messages as
-- the client knows them.
abbrev pub fetch_at : Archive → ImapState → FetchAsked → ImapPlace → Departure → ImapReply
fetch_at a s f place.LoggedOut way = tagged_ways a s f.tag (mistaken a s f.tag) way
fetch_at a s f place.LoggedIn way = tagged_ways a s f.tag (mistaken a s f.tag) way
fetch_at a s f (place.Selected k) way = in_state s (fetch_said a k f way)

-- The same of a SEARCH.
abbrev pub search_at : Archive → ImapState → SearchAsked → ImapPlace → Departure → ImapReply
search_at a s q place.LoggedOut way = tagged_ways a s q.tag (mistaken a s q.tag) way
search_at a s q place.LoggedIn way = tagged_ways a s q.tag (mistaken a s q.tag) way
search_at a s q (place.Selected k) way = in_state s (search_said a k q way)

-- What is said to a command of the grammar, in each way.
abbrev pub understood_said : Archive → ImapState → List ℕ → ImapCommand → Departure → ImapReply
understood_said a s tag (Plain name) way = tagged_ways a s tag (plain_reply a s tag name) way
understood_said a s tag (OnMailbox name box) way =
    tagged_ways a s tag (mailbox_reply a s tag name box) way
understood_said a s tag (Lists name reference pattern) way =
    tagged_ways a s tag (list_reply a s tag (list_name name) reference pattern) way
understood_said a s tag (Login user password) way = tagged_ways a s tag (login_reply a s tag) way
understood_said a s tag (Authenticate mechanism) way =
    tagged_ways a s tag (authenticate_reply a s tag) way
understood_said a s tag (Rename box other) way = tagged_ways a s tag (change_reply a s tag) way
understood_said a s tag (Status box items) way =
    tagged_ways a s tag (status_reply a s tag box items) way
understood_said a s tag (Append box flags date message) way =
    tagged_ways a s tag (change_reply a s tag) way
understood_said a s tag (Copy by_uid set box) way =
    tagged_ways a s tag (change_messages_reply a s tag) way
understood_said a s tag (Fetch by_uid set items) way =
    fetch_at a s (fetch_asked tag by_uid set items) s.place way
understood_said a s tag (Store by_uid set change flags) way =
    tagged_ways a s tag (change_messages_reply a s tag) way
understood_said a s tag (Search by_uid charset keys) way =
    search_at a s (search_asked tag by_uid charset keys) s.place way

-- What is said to octets by what they are, in each way. Out of memory is said after the tag, and where
-- there is none it closes the session.
abbrev pub whole_said : Archive → ImapState → WholeCommand → Departure → ImapReply
whole_said a s Untagged way = untagged_ways a (says a s untagged_line) way
whole_said a s (Faulty tag) way = tagged_ways a s tag (mistaken a s tag) way
whole_said a s (Understood tag command) way = understood_said a s tag command way

-- What is said to the octets of a whole command, in each way.
abbrev pub command_said : Archive → ImapState → List ℕ → Departure → ImapReply
command_said a s octets way = whole_said a s (whole_of octets) way
