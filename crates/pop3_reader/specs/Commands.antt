-- The commands of a client, and the lines that spell them (RFC 1939, sections 3, 5 and 7).
use Rattle.std.specs.Prelude.{ℕ, Bool, not, ◌==◌, List, [], ◌∷◌, take, drop, codes, Option, Some, None, if◌then◌else◌}
use Rattle.std.specs.List.{prefix_len}
use Rattle.std.specs.Str.{str_eq_ignore_ascii_case}
use Rattle.arch_base.specs.Decimals.{decimal_of}
use Rattle.pop3_reader.specs.declared.order.MailListing.{MailListing}
use Rattle.pop3_reader.specs.declared.order.MailListing.TheVariants as listing
use Rattle.pop3_reader.specs.declared.order.MailOrder.{MailOrder}
use Rattle.pop3_reader.specs.declared.order.MailOrder.TheVariants as order
use Rattle.pop3_reader.specs.declared.order.MailPart.TheVariants as part

-- A command: USER with a name, PASS, QUIT, or one on a maildrop; or a line that spells none.
pub data PopCommand : Type 0 where
  User : List ℕ → PopCommand
  Pass : PopCommand
  Quit : PopCommand
  Asks : MailOrder → PopCommand
  Mistaken : PopCommand

-- The byte isn't a space.
abbrev pub is_word_byte : ℕ → Bool
is_word_byte b = not (b == 32)

-- The command word: all up to the first space.
abbrev pub word_of : List ℕ → List ℕ
word_of line = take (prefix_len is_word_byte line) line

-- The bytes behind a space, if there is one.
abbrev pub behind_space : List ℕ → Option (List ℕ)
behind_space [] = None
behind_space (b ∷ bs) = Some bs

-- The argument: all behind the first space, if there is one.
abbrev pub argument_of : List ℕ → Option (List ℕ)
argument_of line = behind_space (drop (prefix_len is_word_byte line) line)

-- The word is this keyword, in any case.
abbrev pub is_keyword : List ℕ → List ℕ → Bool
is_keyword keyword word = str_eq_ignore_ascii_case word keyword

-- The command of a word without an argument.
abbrev pub bare_command : List ℕ → PopCommand
bare_command word =
    if is_keyword (codes "STAT") word then Asks order.Stat
    else if is_keyword (codes "LIST") word then Asks (order.List listing.Sizes None)
    else if is_keyword (codes "UIDL") word then Asks (order.List listing.Uids None)
    else if is_keyword (codes "NOOP") word then Asks order.Noop
    else if is_keyword (codes "RSET") word then Asks order.Rset
    else if is_keyword (codes "QUIT") word then Quit
    else Mistaken

-- The command on a message, if its number is spelled.
abbrev pub on_message : (ℕ → MailOrder) → Option ℕ → PopCommand
on_message command None = Mistaken
on_message command (Some k) = Asks (command k)

-- LIST or UIDL of a message.
abbrev pub listed_as : MailListing → ℕ → MailOrder
listed_as what k = order.List what (Some k)

-- TOP of so many lines of a message, if both numbers are spelled.
abbrev pub top_with : Option ℕ → Option ℕ → PopCommand
top_with None lines = Mistaken
top_with (Some k) None = Mistaken
top_with (Some k) (Some lines) = Asks (order.Read (part.Top lines) k)

-- The number that is spelled, if there is one.
abbrev pub spelled_in : Option (List ℕ) → Option ℕ
spelled_in None = None
spelled_in (Some text) = decimal_of text

-- The command `TOP k lines`, by what stands behind `TOP` and a space.
abbrev pub top_of : List ℕ → PopCommand
top_of argument = top_with (decimal_of (word_of argument)) (spelled_in (argument_of argument))

-- The command of a word with an argument. The argument of USER is all that follows its space, and that
-- of PASS may be anything.
abbrev pub command_with : List ℕ → List ℕ → PopCommand
command_with word argument =
    if is_keyword (codes "USER") word then User argument
    else if is_keyword (codes "PASS") word then Pass
    else if is_keyword (codes "LIST") word then on_message (listed_as listing.Sizes) (decimal_of argument)
    else if is_keyword (codes "UIDL") word then on_message (listed_as listing.Uids) (decimal_of argument)
    else if is_keyword (codes "RETR") word then on_message (order.Read part.Whole) (decimal_of argument)
    else if is_keyword (codes "TOP") word then top_of argument
    else if is_keyword (codes "DELE") word then on_message order.Dele (decimal_of argument)
    else Mistaken

-- The command of a word, with its argument if there is one.
abbrev pub command_by : List ℕ → Option (List ℕ) → PopCommand
command_by word None = bare_command word
command_by word (Some argument) = command_with word argument

-- The command that a line spells.
unfoldable pub command_of : List ℕ → PopCommand
command_of line = command_by (word_of line) (argument_of line)
