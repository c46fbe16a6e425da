-- How many texts are read to answer a whole command.
use Rattle.std.specs.Prelude.{ℕ, nat_lt, Bool, List}
use Rattle.arch_model.specs.Archives.{Archive}
use Rattle.imap_syntax.specs.Commands.{whole_of}
use Rattle.imap_syntax.specs.Requests.{ImapCommand, Fetch, Search, WholeCommand, Untagged, Faulty, Understood}
use Rattle.imap_messages.specs.Fetching.{FetchAsked, fetch_texts}
use Rattle.imap_messages.specs.Seeking.{SearchAsked, search_texts}
use Rattle.imap_states.specs.declared.state.ImapPlace.{ImapPlace}
use Rattle.imap_states.specs.declared.state.ImapPlace.TheVariants as place
use Rattle.imap_states.specs.declared.state.ImapState.{ImapState}
use Rattle.imap_commands.specs.Replies.{fetch_asked, search_asked}

-- Those of a FETCH at a place.
abbrev pub fetch_texts_at : Archive → FetchAsked → ImapPlace → ℕ
fetch_texts_at a f place.LoggedOut = 0
fetch_texts_at a f place.LoggedIn = 0
fetch_texts_at a f (place.Selected k) = fetch_texts a k f

-- Those of a SEARCH at a place.
abbrev pub search_texts_at : Archive → SearchAsked → ImapPlace → ℕ
search_texts_at a q place.LoggedOut = 0
search_texts_at a q place.LoggedIn = 0
search_texts_at a q (place.Selected k) = search_texts a k q

-- Those of a command of the grammar. Only FETCH and SEARCH read any.
abbrev pub understood_texts : Archive → ImapState → List ℕ → ImapCommand → ℕ
understood_texts a s tag (Fetch by_uid set items) =
    fetch_texts_at a (fetch_asked tag by_uid set items) s.place
understood_texts a s tag (Search by_uid charset keys) =
    search_texts_at a (search_asked tag by_uid charset keys) s.place
understood_texts a s tag _ = 0

-- Those of octets by what they are.
abbrev pub whole_texts : Archive → ImapState → WholeCommand → ℕ
whole_texts a s Untagged = 0
whole_texts a s (Faulty tag) = 0
whole_texts a s (Understood tag command) = understood_texts a s tag command

-- How many texts are read at most to answer the octets of a whole command.
abbrev pub command_texts : Archive → ImapState → List ℕ → ℕ
command_texts a s octets = whole_texts a s (whole_of octets)

-- The command may read a text, and so needs the disk.
abbrev pub command_uses : Archive → ImapState → List ℕ → Bool
command_uses a s octets = nat_lt 0 (command_texts a s octets)
