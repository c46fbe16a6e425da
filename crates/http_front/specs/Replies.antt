-- Whole replies (RFC 9112, section 4).
use Rattle.std.specs.Prelude.{ℕ, Bool, true, List, [], ◌∷◌, ◌++◌, length, codes, if◌then◌else◌}
use Rattle.hex.specs.Hex.{encode_lower}
use Rattle.std.specs.Fmt.{decimal}
use Rattle.arch_model.specs.Delivery.{file_words}
use Rattle.arch_model.specs.declared.opening.OpenRefusal.{OpenRefusal}
use Rattle.arch_model.specs.declared.opening.OpenRefusal.TheVariants as opening
use Rattle.keep_course.specs.declared.refusal.Refusal.{Refusal}
use Rattle.keep_course.specs.declared.refusal.Refusal.TheVariants as refused
use Rattle.http_heads.specs.Replies.{reply_head}
use Rattle.http_heads.specs.declared.reply.Body.{Body}
use Rattle.http_heads.specs.declared.reply.Body.TheVariants.{Words}
use Rattle.http_heads.specs.declared.reply.Status.{Status}
use Rattle.http_heads.specs.declared.reply.Status.TheVariants.{Done, BadRequest, NotFound, MethodNotAllowed, TooManyRequests, HeadTooLarge, ServerError, Unavailable}

-- The bytes of a body, or none in the reply to the method `HEAD`.
abbrev pub sent_body : Bool → List ℕ → List ℕ
sent_body sends bytes = if sends then bytes else []

-- A reply: its head, and the body whose length the head says.
abbrev pub reply : Status → ℕ → Body → List ℕ → Bool → Bool → List ℕ
reply status moment body bytes sends closes =
    reply_head status moment body (length bytes) closes ++ sent_body sends bytes

-- Words as a line.
abbrev pub line : List ℕ → List ℕ
line words = words ++ 10 ∷ []

-- The words of a status other than 200, where nothing more is to be said.
abbrev pub status_line : Status → List ℕ
status_line Done = []
status_line BadRequest = line (codes "bad request")
status_line NotFound = line (codes "not found")
status_line MethodNotAllowed = line (codes "method not allowed")
status_line TooManyRequests = line (codes "busy")
status_line HeadTooLarge = line (codes "head too large")
status_line ServerError = line (codes "disk fault")
status_line Unavailable = line (codes "out of memory")

-- What is said of a text to search for that is no query.
abbrev pub bad_range : List ℕ
bad_range = line (codes "bad range")

-- The reply with words and a status.
unfoldable pub word_of : Status → List ℕ → ℕ → Bool → Bool → List ℕ
word_of status words moment sends closes = reply status moment Words words sends closes

-- The reply with a status and its words.
abbrev pub word : Status → ℕ → Bool → Bool → List ℕ
word status moment sends closes = word_of status (status_line status) moment sends closes

-- The line of a damaged text: its id, and the id of what was found.
abbrev pub damaged_line : List ℕ → List ℕ → List ℕ
damaged_line named found = line (codes "damaged " ++ encode_lower named ++ codes " " ++ encode_lower found)

-- The line of a damaged file: its name, and the offset of the damage.
abbrev pub file_line : List ℕ → ℕ → List ℕ
file_line file at = line (codes "damaged " ++ file ++ codes " " ++ decimal at)

-- Why an archive was not opened. The connection is closed. If there is none, its root is damaged.
abbrev pub unopened_word : OpenRefusal → ℕ → List ℕ
unopened_word opening.NoArchive moment =
    word_of ServerError (file_line (codes "root") 0) moment true true
unopened_word (opening.Damaged file at) moment =
    word_of ServerError (file_line (file_words file) at) moment true true
unopened_word opening.DiskFault moment = word ServerError moment true true
unopened_word opening.NoMemory moment = word Unavailable moment true true

-- Why a connection is refused at a moment. The connection is closed.
abbrev pub refusal_words : ℕ → Refusal → List ℕ
refusal_words moment refused.Busy = word TooManyRequests moment true true
refusal_words moment refused.NoMemory = word Unavailable moment true true
refusal_words moment (refused.Unopened why) = unopened_word why moment
