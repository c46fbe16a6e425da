-- Feeds of mails (RFC 4287).
use Rattle.std.specs.Prelude.{ℕ, max, fold, ◌==◌, List, ◌++◌, length, codes, if◌then◌else◌}
use Rattle.std.specs.List.{flat_map}
use Rattle.arch_base.specs.Moments.{IsMoment}
use Rattle.mail_forms.specs.declared.row.Row.{Row}
use Rattle.web_text.specs.Addresses.{address_of}
use Rattle.web_text.specs.Days.{moment_text}
use Rattle.web_text.specs.Escapes.{escaped, title_of}
use Rattle.atom_mbox.specs.declared.feeds.Shown.{Shown}

-- What is before the entries, in the feed of the archive with a name.
unfoldable pub feed_start : List ℕ → ℕ → List ℕ
feed_start name updated =
    codes "<?xml version=\"1.0\" encoding=\"utf-8\"?>\n"
    ++ codes "<feed xmlns=\"http://www.w3.org/2005/Atom\">\n<title>" ++ name
    ++ codes "</title>\n<id>mid:" ++ name
    ++ codes "@piv2.invalid</id>\n<updated>" ++ moment_text updated ++ codes "</updated>\n"

-- What is after the entries.
unfoldable pub feed_end : List ℕ
feed_end = codes "</feed>\n"

-- The author and the title of a mail's entry.
unfoldable pub entry_author : Row → List ℕ
entry_author row = codes "<entry><author><name>" ++ escaped row.from
    ++ codes "</name></author><title>" ++ title_of row.subject ++ codes "</title>"

-- Its id, when it arrived, and where its page is.
unfoldable pub entry_place : List ℕ → Row → List ℕ
entry_place name row = codes "<id>mid:" ++ address_of row.id
    ++ codes "</id><updated>" ++ moment_text row.arrived
    ++ codes "</updated><link href=\"/" ++ name ++ codes "/" ++ address_of row.id ++ codes "/\"/>"

-- The text of its body.
unfoldable pub entry_body : List ℕ → List ℕ
entry_body body = codes "<content type=\"text\">" ++ escaped body ++ codes "</content></entry>\n"

-- The entry of a mail with this row and this text of its body.
abbrev pub entry_of : List ℕ → Row → List ℕ → List ℕ
entry_of name row body = entry_author row ++ entry_place name row ++ entry_body body

-- The entry of a mail.
abbrev pub entry_of_shown : List ℕ → Shown → List ℕ
entry_of_shown name mail = entry_of name mail.row mail.body

-- The entries of mails.
abbrev pub entries_of : List ℕ → List Shown → List ℕ
entries_of name mails = flat_map (entry_of_shown name) mails

-- The mail arrived at a moment that can be printed.
abbrev pub HasMoment : Shown → Type 0
HasMoment mail = IsMoment mail.row.arrived

-- The later of a moment and a mail's arrival.
abbrev pub later : ℕ → Shown → ℕ
later last mail = max last mail.row.arrived

-- The last of the arrivals of mails, or 0 without a mail.
abbrev pub last_arrival : List Shown → ℕ
last_arrival mails = fold later 0 mails

-- When a feed of mails was updated: at the last of their arrivals, or without a mail when the
-- archive was created.
abbrev pub updated_of : ℕ → List Shown → ℕ
updated_of born mails = if length mails == 0 then born else last_arrival mails

-- The feed of mails, of the archive with a name that was created at a moment.
unfoldable pub feed_of : List ℕ → ℕ → List Shown → List ℕ
feed_of name born mails =
    feed_start name (updated_of born mails) ++ entries_of name mails ++ feed_end
