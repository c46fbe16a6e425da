-- The form in which a message is kept.
use Rattle.std.specs.Prelude.{◌≡◌, ℕ, Bool, true, false, ◌&&◌, ◌||◌, not, ◌==◌, nat_lt, List, [], ◌∷◌, ◌++◌, if◌then◌else◌, codes, length, take, Option, Some, None, Result, Ok, Err}
use Rattle.std.specs.List.{concat, filter}
use Rattle.std.specs.Str.{bytes_eq}
use Rattle.mail_reader.specs.Lines.{lines_of, header_lines, after_header, after_empty}
use Rattle.mail_reader.specs.Fields.{parts_of, is_named}
use Rattle.mail_reader.specs.declared.storing.StoredRefusal.{StoredRefusal}
use Rattle.mail_reader.specs.declared.storing.StoredRefusal.TheVariants.{NoFields, TooLarge, NoMemory}

-- The bytes with a line feed at the end, which is added to bytes that aren't empty and don't end
-- with one.
abbrev pub ended : List ℕ → List ℕ
ended [] = []
ended (b ∷ []) = if b == 10 then b ∷ [] else b ∷ 10 ∷ []
ended (b ∷ c ∷ bs) = b ∷ ended (c ∷ bs)

-- The bytes start with carriage returns, or none, and then a line feed.
abbrev pub ends_line : List ℕ → Bool
ends_line [] = false
ends_line (b ∷ bs) = b == 10 || (b == 13 && ends_line bs)

-- The bytes without each run of carriage returns directly before a line feed.
abbrev pub without_returns : List ℕ → List ℕ
without_returns [] = []
without_returns (b ∷ bs) =
    if b == 13 && ends_line bs then without_returns bs else b ∷ without_returns bs

-- All elements of the list are this byte.
abbrev pub all_of : ℕ → List ℕ → Bool
all_of c [] = true
all_of c (b ∷ bs) = b == c && all_of c bs

-- The list without the run of a byte at its end.
abbrev pub without_end : ℕ → List ℕ → List ℕ
without_end c [] = []
without_end c (b ∷ bs) = if b == c && all_of c bs then [] else b ∷ without_end c bs

-- The line without the carriage returns at its end.
abbrev pub content_of : List ℕ → List ℕ
content_of = without_end 13

-- The lines of a message, with line feeds as line ends.
unfoldable pub clean_lines : List ℕ → List (List ℕ)
clean_lines bytes = lines_of (without_returns (ended bytes))

-- The line is one that a mailbox has between messages (RFC 4155, appendix A).
abbrev pub is_mailbox_line : List ℕ → Bool
is_mailbox_line line = bytes_eq (codes "From ") (take 5 line)

-- The lines without a first line that starts with `From `.
abbrev pub after_mailbox_line : List (List ℕ) → List (List ℕ)
after_mailbox_line [] = []
after_mailbox_line (line ∷ lines) = if is_mailbox_line line then lines else line ∷ lines

-- The field is one of those that are dropped with their continuation lines.
unfoldable pub is_dropped : List ℕ → Bool
is_dropped field =
    is_named (codes "Bytes") field || is_named (codes "Lines") field
    || is_named (codes "Content-Length") field || is_named (codes "Status") field

-- The fields that stay.
unfoldable pub kept_fields : List (List ℕ) → List (List ℕ)
kept_fields lines = filter (λ field. not (is_dropped field)) (parts_of (header_lines lines)).1

-- The fields that stay, an empty line, and the body.
abbrev pub joined : List (List ℕ) → List ℕ → List ℕ
joined fields body = concat fields ++ (10 ∷ body)

-- The lines of the body: those after the header, without an empty line that is already there.
abbrev pub body_lines : List (List ℕ) → List (List ℕ)
body_lines lines = after_empty (after_header lines)

-- The form, or `None` if no field stays.
abbrev pub form_of : List (List ℕ) → List ℕ → Option (List ℕ)
form_of [] body = None
form_of (field ∷ fields) body = Some (joined (field ∷ fields) body)

-- The storage form of a message: its lines, with line feeds as line ends and without a mailbox's
-- line at the front; of these the fields of the header that stay, an empty line, and the body.
-- `None` if no field stays.
unfoldable pub storage_form : List ℕ → Option (List ℕ)
storage_form bytes =
    let lines = after_mailbox_line (clean_lines bytes) in
    form_of (kept_fields lines) (concat (body_lines lines))

-- The greatest length of a message that is accepted, in bytes.
abbrev pub max_len : ℕ
max_len = 8388608

-- `NoFields` if no field stays, otherwise `TooLarge` if the bytes are too long, otherwise the form.
abbrev pub limited : ℕ → Option (List ℕ) → Result (List ℕ) StoredRefusal
limited len None = Err NoFields
limited len (Some text) = if nat_lt max_len len then Err (TooLarge len) else Ok text

-- The result of storing bytes.
abbrev pub stored : List ℕ → Result (List ℕ) StoredRefusal
stored bytes = limited (length bytes) (storage_form bytes)

-- The answer of a call is the wanted one, unless it is `NoMemory`.
abbrev pub GivesStored : Result (List ℕ) StoredRefusal → Result (List ℕ) StoredRefusal → Type 0
GivesStored (Ok text) wanted = wanted ≡ Ok text
GivesStored (Err NoMemory) wanted = Unit {0}
GivesStored (Err NoFields) wanted = wanted ≡ Err NoFields
GivesStored (Err (TooLarge len)) wanted = wanted ≡ Err (TooLarge len)
