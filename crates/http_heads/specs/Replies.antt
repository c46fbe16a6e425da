-- The heads of replies (RFC 9112, section 4, and RFC 9110, sections 8.3, 8.6, 10.2.1 and 15).
use Rattle.std.specs.Prelude.{ℕ, Bool, true, false, not, List, [], ◌∷◌, ◌++◌, Option, Some, None, codes, if◌then◌else◌}
use Rattle.std.specs.Fmt.{decimal}
use Rattle.std.specs.Str.{bytes_eq}
use Rattle.http_heads.specs.declared.reply.Status.{Status}
use Rattle.http_heads.specs.declared.reply.Status.TheVariants.{Done, BadRequest, NotFound, MethodNotAllowed, TooManyRequests, HeadTooLarge, ServerError, Unavailable}
use Rattle.http_heads.specs.declared.reply.Body.{Body}
use Rattle.http_heads.specs.declared.reply.Body.TheVariants.{Page, Text, Words, Feed, Mailbox, Entries, Blob}
use Rattle.http_heads.specs.declared.reply.Verdict.{Verdict}
use Rattle.http_heads.specs.declared.reply.Verdict.TheVariants.{Serve, Refuse}
use Rattle.http_heads.specs.Dates.{reply_date}
use Rattle.http_heads.specs.Heads.{Asked}

-- The code of a status and its reason.
abbrev pub status_words : Status → List ℕ
status_words Done = codes "200 OK"
status_words BadRequest = codes "400 Bad Request"
status_words NotFound = codes "404 Not Found"
status_words MethodNotAllowed = codes "405 Method Not Allowed"
status_words TooManyRequests = codes "429 Too Many Requests"
status_words HeadTooLarge = codes "431 Request Header Fields Too Large"
status_words ServerError = codes "500 Internal Server Error"
status_words Unavailable = codes "503 Service Unavailable"

-- The media type of a body.
abbrev pub media_type : Body → List ℕ
media_type Page = codes "text/html; charset=utf-8"
media_type Text = codes "text/plain"
media_type Words = codes "text/plain; charset=utf-8"
media_type Feed = codes "application/atom+xml; charset=utf-8"
media_type Mailbox = codes "application/mbox"
media_type Entries = codes "text/plain"
media_type Blob = codes "application/octet-stream"

-- The end of a line.
abbrev pub line_end : List ℕ
line_end = 13 ∷ 10 ∷ []

-- The methods that are allowed are named by the reply that refuses another one.
abbrev pub allow_line : Status → List ℕ
allow_line MethodNotAllowed = codes "Allow: GET, HEAD" ++ line_end
allow_line _ = []

-- A reply after which the connection is closed says so.
abbrev pub close_line : Bool → List ℕ
close_line closes = if closes then codes "Connection: close" ++ line_end else []

-- The line of a status, and the line of a moment's date.
unfoldable pub status_lines : Status → ℕ → List ℕ
status_lines status moment =
    codes "HTTP/1.1 " ++ status_words status ++ codes "\r\nDate: " ++ reply_date moment ++ line_end

-- The lines of the type and the length of a body.
unfoldable pub body_lines : Body → ℕ → List ℕ
body_lines body len =
    codes "Content-Type: " ++ media_type body ++ codes "\r\nContent-Length: " ++ decimal len
    ++ line_end

-- The head of a reply: its status, its date, the type and the length of its body, and an empty line.
abbrev pub reply_head : Status → ℕ → Body → ℕ → Bool → List ℕ
reply_head status moment body len closes =
    status_lines status moment ++ body_lines body len ++ allow_line status ++ close_line closes
    ++ line_end

-- What becomes of a head that was read, or that couldn't be (`None`). A body is refused before the
-- method is looked at. A reply to the method `HEAD` has no body.
abbrev pub verdict_of : Option Asked → Verdict
verdict_of None = Refuse BadRequest true
verdict_of (Some asked) =
    if asked.has_body then Refuse BadRequest (not (bytes_eq asked.method (codes "HEAD")))
    else if bytes_eq asked.method (codes "GET") then Serve true
    else if bytes_eq asked.method (codes "HEAD") then Serve false
    else Refuse MethodNotAllowed true
