-- The laws of what is said to whole commands.
use Rattle.std.specs.Prelude.{◌≡◌, ℕ, Bool, ◌||◌, ◌==◌, List, take, drop, Option, Some, None, is_some, if◌then◌else◌}
use Rattle.std.specs.List.{prefix_len}
use Rattle.arch_model.specs.Archives.{Archive}
use Rattle.line_door.specs.Acts.{Departure, Memory}
use Rattle.line_door.specs.Making.{says, closes}
use Rattle.imap_words.specs.Kinds.{is_tag_byte}
use Rattle.imap_words.specs.Reading.{byte_at, line_end_at}
use Rattle.imap_states.specs.Notices.{bye_memory_line, no_memory_line}
use Rattle.imap_states.specs.Replies.{ImapReply}
use Rattle.imap_states.specs.States.{SuitsClient}
use Rattle.imap_states.specs.declared.state.ImapState.{ImapState}
use Rattle.imap_commands.specs.Replies.{command_said}

-- A space or a line end comes next.
abbrev pub ends_tag : List ℕ → Bool
ends_tag octets = is_some (byte_at 32 octets) || is_some (line_end_at octets)

-- The first octets of some as a tag, if they are one.
abbrev pub tag_by : ℕ → List ℕ → Option (List ℕ)
tag_by len octets =
    if len == 0 then None
    else (if ends_tag (drop len octets) then Some (take len octets) else None)

-- The tag that octets begin with, if a space or a line end follows it (RFC 3501, section 9, tag).
abbrev pub readable_tag : List ℕ → Option (List ℕ)
readable_tag octets = tag_by (prefix_len is_tag_byte octets) octets

-- What is said where memory ran out: after the tag, and the state stays; or without one, and the
-- session is closed.
abbrev pub memory_reply : Archive → ImapState → Option (List ℕ) → ImapReply
memory_reply a s None = closes a bye_memory_line
memory_reply a s (Some tag) = says a s (no_memory_line tag)

-- After each reply, however it goes, the state suits the archive.
abbrev pub CommandsSuit : Type 0
CommandsSuit = (a : Archive) (s after : ImapState) (octets : List ℕ) (way : Departure)
    → SuitsClient a s → (command_said a s octets way).next ≡ Some after → SuitsClient a after

-- No command changes the archive, however it goes.
abbrev pub ArchiveStays : Type 0
ArchiveStays = (a : Archive) (s : ImapState) (octets : List ℕ) (way : Departure)
    → (command_said a s octets way).after ≡ a

-- Out of memory is said to each command in the same way, by its tag alone.
abbrev pub MemoryIsTold : Type 0
MemoryIsTold = (a : Archive) (s : ImapState) (octets : List ℕ)
    → command_said a s octets Memory ≡ memory_reply a s (readable_tag octets)

-- The laws.
pub record CommandLaws : Type 0 where
  pub suit : CommandsSuit
  pub stays : ArchiveStays
  pub memory : MemoryIsTold
