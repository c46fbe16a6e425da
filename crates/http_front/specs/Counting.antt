-- How many texts the door of pages reads at most to answer the bytes of a session.
use Rattle.std.specs.Prelude.{◌+◌, ℕ, zero, suc, Bool, true, false, not, List, [], ◌∷◌, length, Option, Some, None, if◌then◌else◌}
use Rattle.std.specs.List.{list_all, sum_by}
use Rattle.arch_model.specs.Archives.{Archive, live}
use Rattle.http_heads.specs.Addresses.{Named, TheMailbox, ThreadMailboxOf, named_by, segments_of}
use Rattle.http_heads.specs.Heads.{Asked}
use Rattle.http_heads.specs.Parameters.{path_of}
use Rattle.http_heads.specs.Replies.{verdict_of}
use Rattle.http_heads.specs.declared.reply.Verdict.{Verdict}
use Rattle.http_heads.specs.declared.reply.Verdict.TheVariants.{Serve, Refuse}
use Rattle.http_front.specs.Fronts.{HeadFront, Whole, Long, Partial, front, head_limit}
use Rattle.http_front.specs.Asking.{target_reads, target_texts}
use Rattle.http_front.specs.Threads.{thread_rows, oldest_first}
use Rattle.http_front.specs.Views.{number_named}
use Rattle.http_front.specs.Reading.{asked_in}

-- How many mails the thread of a number has, if a live mail has the id.
abbrev pub thread_len : Archive → Option ℕ → ℕ
thread_len a None = 0
thread_len a (Some n) = length (oldest_first (thread_rows a n))

-- How many texts are read at most while what is named is said: one for each mail of a mailbox file.
abbrev pub texts_said : Archive → Named → ℕ
texts_said a TheMailbox = length (live a.entries)
texts_said a (ThreadMailboxOf id) = thread_len a (number_named a.entries id)
texts_said a other = 0

-- How many texts are read at most while what a path names is said, if it names anything.
abbrev pub path_said : Archive → Option Named → ℕ
path_said a None = 0
path_said a (Some named) = texts_said a named

-- How many texts are read at most while what stands under a target is said.
abbrev pub target_said : Archive → List ℕ → ℕ
target_said a target = path_said a (named_by a.config.name (segments_of (path_of target)))

-- Of so many texts those that are read for a body, which a reply to the method `HEAD` doesn't have.
abbrev pub body_texts : Bool → ℕ → ℕ
body_texts true count = count
body_texts false count = 0

-- How many texts are read at most to serve a request: to find what it asks for, and to say it.
abbrev pub served_texts : Archive → List ℕ → Bool → ℕ
served_texts a target sends = target_texts a target + body_texts sends (target_said a target)

-- How many texts are read at most to answer a head by its verdict. A refusal reads none.
abbrev pub verdict_texts : Archive → Asked → Verdict → ℕ
verdict_texts a asked (Serve sends) = served_texts a asked.target sends
verdict_texts a asked (Refuse status sends) = 0

-- How many texts are read at most to answer a head, by what it asks.
abbrev pub head_texts : Archive → Option Asked → ℕ
head_texts a None = 0
head_texts a (Some asked) = verdict_texts a asked (verdict_of (Some asked))

-- The target of a head is one for which no text is read, as that of a listing, a search or a thread.
abbrev pub reads_nothing : Archive → Option Asked → Bool
reads_nothing a None = true
reads_nothing a (Some asked) = not (target_reads a asked.target)

-- The session may continue after a verdict, unless it is a refusal or the head asks to close.
abbrev pub verdict_goes_on : Asked → Verdict → Bool
verdict_goes_on asked (Serve sends) = not asked.closes
verdict_goes_on asked (Refuse status sends) = false

-- The session may continue after the answer to a head.
abbrev pub goes_on : Option Asked → Bool
goes_on None = false
goes_on (Some asked) = verdict_goes_on asked (verdict_of (Some asked))

-- What the head at the front asks, and what more heads after it ask.
abbrev pub asked_at : (List ℕ → List (Option Asked)) → HeadFront → List (Option Asked)
asked_at more (Whole head rest) = asked_in head ∷ (if goes_on (asked_in head) then more rest else [])
asked_at more Long = []
asked_at more Partial = []

-- What up to `n` heads at the front ask.
abbrev pub asked_from : ℕ → List ℕ → List (Option Asked)
asked_from zero bytes = []
asked_from (suc n) bytes = asked_at (asked_from n) (front head_limit bytes)

-- What all whole heads at the front ask, in order, up to the first after which the session is closed.
-- Each has a byte, so their number is limited by that of the bytes.
unfoldable pub all_asked : List ℕ → List (Option Asked)
all_asked bytes = asked_from (suc (length bytes)) bytes

-- How many texts are read at most to answer these bytes.
abbrev pub texts_for_bytes : Archive → List ℕ → ℕ
texts_for_bytes a bytes = sum_by (head_texts a) (all_asked bytes)

-- No text is read to answer these bytes.
abbrev pub bytes_read_nothing : Archive → List ℕ → Bool
bytes_read_nothing a bytes = list_all (reads_nothing a) (all_asked bytes)
