-- The state of a session (RFC 3501, section 3, and RFC 2177), and what its client is told of changes.
use Rattle.std.specs.Prelude.{ℕ, List, [], ◌++◌, codes, decimal, Bool, true, false, Option, Some, None, is_some}
use Rattle.std.specs.List.{flat_map}
use Rattle.arch_model.specs.Archives.{Archive}
use Rattle.arch_model.specs.Validity.{IsArchive}
use Rattle.known_uids.specs.Told.{Known, known, live_in, changes_of, Suits}
use Rattle.known_uids.specs.Staying.{AreGiven}
use Rattle.known_uids.specs.declared.changes.Changes.{Changes}
use Rattle.wire_replies.specs.Blocks.{crlf_line}
use Rattle.imap_states.specs.declared.state.ImapPlace.{ImapPlace}
use Rattle.imap_states.specs.declared.state.ImapPlace.TheVariants as place
use Rattle.imap_states.specs.declared.state.ImapState.{ImapState}

-- The state of a place and, if the session idles, the tag under which it does.
abbrev pub state_of : ImapPlace → Option (List ℕ) → ImapState
state_of p idle = record { place = p; idle = idle }

-- A new session: before the login.
abbrev pub new_state : ImapState
new_state = state_of place.LoggedOut None

-- The session idles.
abbrev pub idles : ImapState → Bool
idles s = is_some s.idle

-- The client hasn't logged in.
abbrev pub is_logged_out : ImapPlace → Bool
is_logged_out place.LoggedOut = true
is_logged_out place.LoggedIn = false
is_logged_out (place.Selected k) = false

-- A mailbox is selected.
abbrev pub is_selected : ImapPlace → Bool
is_selected place.LoggedOut = false
is_selected place.LoggedIn = false
is_selected (place.Selected k) = true

-- `* S EXPUNGE` (RFC 3501, section 7.4.1).
abbrev pub expunge_line : ℕ → List ℕ
expunge_line sequence = codes "* " ++ (decimal sequence ++ crlf_line (codes " EXPUNGE"))

-- `* N EXISTS` (RFC 3501, section 7.3.1).
abbrev pub exists_line : ℕ → List ℕ
exists_line count = codes "* " ++ (decimal count ++ crlf_line (codes " EXISTS"))

-- The line of a count, if there is one.
abbrev pub exists_if : Option ℕ → List ℕ
exists_if None = []
exists_if (Some count) = exists_line count

-- The lines that tell a client of changes: a line for each message that is gone, the greatest first,
-- and then how many there are, if there are new ones.
abbrev pub change_lines : Changes → List ℕ
change_lines changes = flat_map expunge_line changes.gone ++ exists_if changes.exists

-- What a client at a place is told of an archive (RFC 3501, sections 5.2 and 5.5).
abbrev pub place_lines : Archive → ImapPlace → List ℕ
place_lines a place.LoggedOut = []
place_lines a place.LoggedIn = []
place_lines a (place.Selected k) = change_lines (changes_of k.uids (live_in a k.first k.last))

-- The place after that: the client knows the messages that are there.
abbrev pub place_now : Archive → ImapPlace → ImapPlace
place_now a place.LoggedOut = place.LoggedOut
place_now a place.LoggedIn = place.LoggedIn
place_now a (place.Selected k) = place.Selected (known k.first k.last (live_in a k.first k.last))

-- The archive may be one after those that a client at a place was told of: it gave all numbers that
-- the client was told, and none that is gone came back.
abbrev pub SuitsPlace : Archive → ImapPlace → Type 0
SuitsPlace a place.LoggedOut = Unit {0}
SuitsPlace a place.LoggedIn = Unit {0}
SuitsPlace a (place.Selected k) = Suits a k × AreGiven a k

-- The same of a session. The archive is valid.
pub record SuitsClient (a : Archive) (s : ImapState) : Type 0 where
  pub valid : IsArchive a
  pub place : SuitsPlace a s.place
