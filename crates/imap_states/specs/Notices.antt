-- The lines of fixed words that a client of IMAP is told (RFC 3501, section 7, and RFC 2177).
use Rattle.std.specs.Prelude.{ℕ, List, ◌∷◌, ◌++◌, codes}
use Rattle.wire_replies.specs.Blocks.{crlf_line}
use Rattle.keep_course.specs.declared.refusal.Refusal.{Refusal}
use Rattle.shelf_doors.specs.Refusals as refusals

-- What stands before the words after which the connection is closed.
abbrev pub bye_code : List ℕ
bye_code = codes "* BYE "

-- The greeting of a new session.
abbrev pub welcome_line : List ℕ
welcome_line = crlf_line (codes "* OK [CAPABILITY IMAP4rev1 IDLE] piv2 ready")

-- Why a connection is refused. No tag was read.
abbrev pub refusal_words : Refusal → List ℕ
refusal_words why = refusals.refusal_words (crlf_line (codes "* BYE busy")) bye_code why

-- The line before the answer to LOGOUT.
abbrev pub bye_line : List ℕ
bye_line = crlf_line (codes "* BYE bye")

-- The line for a command that is too long.
abbrev pub too_long_line : List ℕ
too_long_line = crlf_line (codes "* BYE command too long")

-- The line for out of memory where no tag was read.
abbrev pub bye_memory_line : List ℕ
bye_memory_line = refusals.memory_line bye_code

-- The line for a command without a readable tag.
abbrev pub untagged_line : List ℕ
untagged_line = crlf_line (codes "* BAD syntax")

-- The line for a part that announces octets.
abbrev pub go_line : List ℕ
go_line = crlf_line (codes "+ go")

-- The line for a session that idles from now on.
abbrev pub idling_line : List ℕ
idling_line = crlf_line (codes "+ idling")

-- The line of CAPABILITY.
abbrev pub capability_line : List ℕ
capability_line = crlf_line (codes "* CAPABILITY IMAP4rev1 IDLE")

-- Words after the tag of a command.
abbrev pub tagged : List ℕ → List ℕ → List ℕ
tagged tag words = tag ++ 32 ∷ crlf_line words

-- The line for what isn't of the grammar, or of another state.
abbrev pub bad_line : List ℕ → List ℕ
bad_line tag = tagged tag (codes "BAD syntax")

-- The line for out of memory after a tag.
abbrev pub no_memory_line : List ℕ → List ℕ
no_memory_line tag = refusals.memory_line (tag ++ codes " NO ")

-- The line for a command that would change the archive.
abbrev pub read_only_line : List ℕ → List ℕ
read_only_line tag = tagged tag (codes "NO read only")

-- The line for a login of another form.
abbrev pub not_here_line : List ℕ → List ℕ
not_here_line tag = tagged tag (codes "NO not here")

-- The line for a name that is that of no mailbox.
abbrev pub no_mailbox_line : List ℕ → List ℕ
no_mailbox_line tag = tagged tag (codes "NO no such mailbox")

-- The line for a command that was carried out, by its name.
abbrev pub done_line : List ℕ → List ℕ → List ℕ
done_line tag name = tag ++ (codes " OK " ++ (name ++ crlf_line (codes " done")))
