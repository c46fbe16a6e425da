-- What is shown of a message and of its text (RFC 1939, sections 5 and 7).
use Rattle.std.specs.Prelude.{◌+◌, ℕ, List, [], ◌∷◌, ◌++◌, take, length, codes, decimal, Option, Some, None}
use Rattle.std.specs.List.{concat}
use Rattle.mail_reader.specs.Bodies.{body_of}
use Rattle.mail_reader.specs.Fields.{fields_of}
use Rattle.mail_reader.specs.Laws.{wholes}
use Rattle.mail_reader.specs.Lines.{lines_of}
use Rattle.wire_replies.specs.Blocks.{crlf_line, block_lines, block_end}
use Rattle.pop3_reader.specs.Maildrops.{total_octets, mail_at}
use Rattle.pop3_reader.specs.Notices.{notice_line}
use Rattle.pop3_reader.specs.declared.maildrop.MailSize.{MailSize}
use Rattle.pop3_reader.specs.declared.maildrop.Maildrop.{Maildrop}
use Rattle.pop3_reader.specs.declared.notice.PopNotice.TheVariants as notice
use Rattle.pop3_reader.specs.declared.order.MailListing.{MailListing}
use Rattle.pop3_reader.specs.declared.order.MailListing.TheVariants as listing
use Rattle.pop3_reader.specs.declared.order.MailPart.{MailPart}
use Rattle.pop3_reader.specs.declared.order.MailPart.TheVariants as part

-- The line of the message that the client calls `k`: the octets of its wire form; or its unique id,
-- which is when the archive was made, a dot and the message's number.
abbrev pub mail_line : MailListing → ℕ → ℕ → MailSize → List ℕ
mail_line listing.Sizes born k mail = decimal k ++ 32 ∷ crlf_line (decimal mail.octets)
mail_line listing.Uids born k mail =
    decimal k ++ 32 ∷ (decimal born ++ 46 ∷ crlf_line (decimal mail.number))

-- The lines of messages, of which the client calls the first one `k`.
abbrev pub mail_lines : MailListing → ℕ → ℕ → List MailSize → List ℕ
mail_lines what born k [] = []
mail_lines what born k (mail ∷ mails) =
    mail_line what born k mail ++ mail_lines what born (k + 1) mails

-- The reply with the line of each message.
abbrev pub all_words : MailListing → Maildrop → List ℕ
all_words what maildrop = notice_line notice.Done
    ++ (mail_lines what maildrop.born 1 maildrop.mails ++ block_end)

-- The reply with the line of one message, if there is one.
abbrev pub one_words : MailListing → ℕ → ℕ → Option MailSize → List ℕ
one_words what born k None = notice_line notice.NoMessage
one_words what born k (Some mail) = codes "+OK " ++ mail_line what born k mail

-- The reply to LIST or UIDL.
abbrev pub listing_words : MailListing → Maildrop → Option ℕ → List ℕ
listing_words what maildrop None = all_words what maildrop
listing_words what maildrop (Some k) = one_words what maildrop.born k (mail_at maildrop.mails k)

-- The reply to STAT: how many messages there are, and their octets.
abbrev pub stat_words : Maildrop → List ℕ
stat_words maildrop = codes "+OK " ++ (decimal (length maildrop.mails)
    ++ 32 ∷ crlf_line (decimal (total_octets maildrop.mails)))

-- The reply to DELE. The door only reads.
abbrev pub dele_words : Option MailSize → List ℕ
dele_words None = notice_line notice.NoMessage
dele_words (Some mail) = notice_line notice.ReadOnly

-- The reply to PASS: how many messages the maildrop has.
abbrev pub entered_words : Maildrop → List ℕ
entered_words maildrop =
    codes "+OK " ++ (decimal (length maildrop.mails) ++ crlf_line (codes " messages"))

-- The header of a text, without the empty line after it.
abbrev pub header_bytes : List ℕ → List ℕ
header_bytes text = wholes (fields_of text)

-- The first lines of a text, or all where there are fewer.
abbrev pub first_lines : ℕ → List ℕ → List ℕ
first_lines count text = concat (take count (lines_of text))

-- What TOP shows of a text: its header, an empty line, and so many lines of its body.
abbrev pub top_block : ℕ → List ℕ → List ℕ
top_block count text = block_lines (header_bytes text)
    ++ (crlf_line [] ++ block_lines (first_lines count (body_of text)))

-- The reply to RETR or TOP, with the text of the message. Each line is in its wire form, with one more
-- dot before it if it starts with one.
abbrev pub text_words : MailPart → MailSize → List ℕ → List ℕ
text_words part.Whole mail text = codes "+OK " ++ (decimal mail.octets
    ++ (crlf_line (codes " octets") ++ (block_lines text ++ block_end)))
text_words (part.Top count) mail text =
    notice_line notice.Done ++ (top_block count text ++ block_end)
