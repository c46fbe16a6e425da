-- The commands of a client that hands over mail, and the lines that spell them (RFC 2033, section 4.1;
-- RFC 5321, section 4.1.1).
use Rattle.std.specs.Prelude.{ℕ, Bool, true, false, not, ◌==◌, List, [], ◌∷◌, length, take, drop, codes, Option, Some, None, if◌then◌else◌}
use Rattle.std.specs.List.{prefix_len}
use Rattle.std.specs.Str.{str_eq_ignore_ascii_case}
use Rattle.mail_address.specs.Addresses.{mailbox_of}
use Rattle.lmtp_door.specs.declared.order.LmtpOrder.{LmtpOrder}
use Rattle.lmtp_door.specs.declared.order.LmtpOrder.TheVariants as order

-- The byte isn't a space.
abbrev pub is_word_byte : ℕ → Bool
is_word_byte b = not (b == 32)

-- The command word: all up to the first space.
abbrev pub word_of : List ℕ → List ℕ
word_of line = take (prefix_len is_word_byte line) line

-- The bytes after the first one, if there is one.
abbrev pub after_first : List ℕ → Option (List ℕ)
after_first [] = None
after_first (b ∷ bs) = Some bs

-- The argument: all after the first space, if there is one.
abbrev pub argument_of : List ℕ → Option (List ℕ)
argument_of line = after_first (drop (prefix_len is_word_byte line) line)

-- The word is this keyword, in any case.
abbrev pub is_keyword : List ℕ → List ℕ → Bool
is_keyword keyword word = str_eq_ignore_ascii_case word keyword

-- The byte doesn't end a path.
abbrev pub is_path_byte : ℕ → Bool
is_path_byte b = not (b == 62)

-- These bytes close the path before them: its end, and then nothing or a space.
abbrev pub closes : List ℕ → Bool
closes [] = false
closes (b ∷ []) = true
closes (b ∷ c ∷ rest) = c == 32

-- The path at the front of these bytes, up to the first `>`.
abbrev pub path_at : List ℕ → Option (List ℕ)
path_at bytes = if closes (drop (prefix_len is_path_byte bytes) bytes)
    then Some (take (prefix_len is_path_byte bytes) bytes) else None

-- The argument starts with this word, in any case.
abbrev pub begins_with : List ℕ → List ℕ → Bool
begins_with word argument = str_eq_ignore_ascii_case (take (length word) argument) word

-- The path of an argument that starts with this word.
abbrev pub path_after : List ℕ → List ℕ → Option (List ℕ)
path_after word argument =
    if begins_with word argument then path_at (drop (length word) argument) else None

-- The path names the list: the part before its last `@`, or all of it without one, is the name, in any
-- case.
abbrev pub names_list : List ℕ → List ℕ → Bool
names_list name path = str_eq_ignore_ascii_case (mailbox_of path) name

-- The bytes are one word: at least one byte, and no space.
abbrev pub is_one_word : List ℕ → Bool
is_one_word [] = false
is_one_word (b ∷ bs) = prefix_len is_word_byte (b ∷ bs) == length (b ∷ bs)

-- A command without an argument.
abbrev pub bare : LmtpOrder → Option (List ℕ) → LmtpOrder
bare command None = command
bare command (Some argument) = order.Mistaken

-- A command whose argument is one word.
abbrev pub worded : LmtpOrder → Option (List ℕ) → LmtpOrder
worded command None = order.Mistaken
worded command (Some argument) = if is_one_word argument then command else order.Mistaken

-- MAIL from this path, if there is one.
abbrev pub mail_from : Option (List ℕ) → LmtpOrder
mail_from None = order.Mistaken
mail_from (Some path) = order.Mail

-- RCPT to this path, if there is one.
abbrev pub rcpt_to : List ℕ → Option (List ℕ) → LmtpOrder
rcpt_to name None = order.Mistaken
rcpt_to name (Some path) = order.Recipient (names_list name path)

-- MAIL with its argument.
abbrev pub mail_order : Option (List ℕ) → LmtpOrder
mail_order None = order.Mistaken
mail_order (Some argument) = mail_from (path_after (codes "FROM:<") argument)

-- RCPT with its argument, where the list has this name.
abbrev pub rcpt_order : List ℕ → Option (List ℕ) → LmtpOrder
rcpt_order name None = order.Mistaken
rcpt_order name (Some argument) = rcpt_to name (path_after (codes "TO:<") argument)

-- The command of a word, with its argument if there is one. A known word with another argument is
-- mistaken, and any other word unknown.
abbrev pub command_by : List ℕ → List ℕ → Option (List ℕ) → LmtpOrder
command_by name word argument =
    if is_keyword (codes "LHLO") word then worded order.Hello argument
    else if is_keyword (codes "MAIL") word then mail_order argument
    else if is_keyword (codes "RCPT") word then rcpt_order name argument
    else if is_keyword (codes "DATA") word then bare order.Data argument
    else if is_keyword (codes "RSET") word then bare order.Reset argument
    else if is_keyword (codes "NOOP") word then bare order.Noop argument
    else if is_keyword (codes "VRFY") word then worded order.Verify argument
    else if is_keyword (codes "QUIT") word then bare order.Quit argument
    else order.Unknown

-- The command that a line spells at a list of this name.
unfoldable pub command_of : List ℕ → List ℕ → LmtpOrder
command_of name line = command_by name (word_of line) (argument_of line)
