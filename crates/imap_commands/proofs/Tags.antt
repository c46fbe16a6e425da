-- Out of memory is said by the tag of a command alone.
use Rattle.std.proofs.Common.{◌≡◌, ◌==◌, ◌||◌, ℕ, Bool, true, false, List, take, drop, Option, Some, None, is_some, refl, ap, ◌∙◌, if◌then◌else◌}
use Rattle.std.specs.List.{prefix_len}
use Rattle.arch_model.specs.Archives.{Archive}
use Rattle.line_door.specs.Acts.{Memory}
use Rattle.line_door.specs.Making.{says}
use Rattle.imap_words.specs.Kinds.{is_tag_byte}
use Rattle.imap_words.specs.Reading.{byte_at, line_end_at}
use Rattle.imap_syntax.specs.Commands.{told_by, tag_alone, behind_tag, whole_of, command_at}
use Rattle.imap_syntax.specs.Requests.{ImapCommand, Plain, OnMailbox, Lists, Login, Authenticate, Rename, Status, Append, Copy, Fetch, Store, Search, WholeCommand, Untagged, Faulty, Understood}
use Rattle.imap_messages.specs.Fetching.{FetchAsked}
use Rattle.imap_messages.specs.Seeking.{SearchAsked}
use Rattle.imap_states.specs.Notices.{no_memory_line}
use Rattle.imap_states.specs.declared.state.ImapPlace.{ImapPlace}
use Rattle.imap_states.specs.declared.state.ImapPlace.TheVariants as place
use Rattle.imap_states.specs.declared.state.ImapState.{ImapState}
use Rattle.imap_commands.specs.Laws.{MemoryIsTold, readable_tag, memory_reply}
use Rattle.imap_commands.specs.Replies.{fetch_at, search_at, fetch_asked, search_asked, understood_said, whole_said}

-- The tag of octets, by what they are.
abbrev tag_in : WholeCommand → Option (List ℕ)
tag_in Untagged = None
tag_in (Faulty tag) = Some tag
tag_in (Understood tag command) = Some tag

told-tag : (tag : List ℕ) (read : Option (ImapCommand × List ℕ)) → tag_in (told_by tag read) ≡ Some tag
told-tag tag None = refl
told-tag tag (Some p) = refl

alone-tag : (tag : List ℕ) (ends : Bool) → tag_in (tag_alone tag ends) ≡ (if ends then Some tag else None)
alone-tag tag true = refl
alone-tag tag false = refl

behind-tag : (tag rest : List ℕ) (space : Option (List ℕ)) → tag_in (behind_tag tag rest space) ≡ (if (is_some space || is_some (line_end_at rest)) then Some tag else None)
behind-tag tag rest None = alone-tag tag (is_some (line_end_at rest))
behind-tag tag rest (Some octets) = told-tag tag (command_at octets)

some-tag : (none : Bool) (tag rest : List ℕ) (space : Option (List ℕ)) → tag_in (if none then Untagged else behind_tag tag rest space)
    ≡ (if none then None else (if (is_some space || is_some (line_end_at rest)) then Some tag else None))
some-tag true tag rest space = refl
some-tag false tag rest space = behind-tag tag rest space

whole-tag : (octets : List ℕ) → tag_in (whole_of octets) ≡ readable_tag octets
unfolding whole_of
whole-tag octets =
    let len = prefix_len is_tag_byte octets in
    some-tag (len == 0) (take len octets) (drop len octets) (byte_at 32 (drop len octets))

fetch-starved : (a : Archive) (s : ImapState) (f : FetchAsked) (p : ImapPlace) → fetch_at a s f p Memory ≡ says a s (no_memory_line f.tag)
fetch-starved a s f place.LoggedOut = refl
fetch-starved a s f place.LoggedIn = refl
fetch-starved a s f (place.Selected k) = refl

search-starved : (a : Archive) (s : ImapState) (q : SearchAsked) (p : ImapPlace) → search_at a s q p Memory ≡ says a s (no_memory_line q.tag)
search-starved a s q place.LoggedOut = refl
search-starved a s q place.LoggedIn = refl
search-starved a s q (place.Selected k) = refl

understood-starved : (a : Archive) (s : ImapState) (tag : List ℕ) (c : ImapCommand) → understood_said a s tag c Memory ≡ says a s (no_memory_line tag)
understood-starved a s tag (Plain name) = refl
understood-starved a s tag (OnMailbox name box) = refl
understood-starved a s tag (Lists name reference pattern) = refl
understood-starved a s tag (Login user password) = refl
understood-starved a s tag (Authenticate mechanism) = refl
understood-starved a s tag (Rename box other) = refl
understood-starved a s tag (Status box items) = refl
understood-starved a s tag (Append box flags date message) = refl
understood-starved a s tag (Copy by_uid set box) = refl
understood-starved a s tag (Fetch by_uid set items) = fetch-starved a s (fetch_asked tag by_uid set items) s.place
understood-starved a s tag (Store by_uid set change flags) = refl
understood-starved a s tag (Search by_uid charset keys) = search-starved a s (search_asked tag by_uid charset keys) s.place

whole-starved : (a : Archive) (s : ImapState) (w : WholeCommand) → whole_said a s w Memory ≡ memory_reply a s (tag_in w)
whole-starved a s Untagged = refl
whole-starved a s (Faulty tag) = refl
whole-starved a s (Understood tag command) = understood-starved a s tag command

pub memory_told : MemoryIsTold
memory_told a s octets = whole-starved a s (whole_of octets) ∙ ap (memory_reply a s) (whole-tag octets)
