-- What the bytes of a reply give, and how it stays.
use Rattle.std.specs.Prelude.{◌≡◌, ◌≢◌, ◌≤◌, ℕ, ◌+◌, Bool, false, nat_lt, nat_le, if◌then◌else◌, List, ◌++◌, length, Option, Some, None, Result, Ok, Err}
use Rattle.httparse.specs.Grammar.{ResponseHead, print_response, status_code}
use Rattle.peer_replies.specs.Fronts.{Front, Headed, Begun, Headless, Long, Crowded, HasReplyHead, IsFront}
use Rattle.peer_replies.specs.Bodies.{body_length, stays_open}
use Rattle.peer_replies.specs.declared.reading.Reading.{Reading}
use Rattle.peer_replies.specs.declared.reading.Reading.TheVariants.{More, Whole}
use Rattle.peer_replies.specs.declared.reading.WholeReply.{WholeReply}
use Rattle.peer_replies.specs.declared.reading.Unreadable.{Unreadable}
use Rattle.peer_replies.specs.declared.reading.Unreadable.TheVariants.{NotHttp, LongHead, ManyFields, LongBody, CutOff}

-- What a part of a reply gives: more bytes are needed, unless the connection has ended.
abbrev pub unfinished : Bool → Result Reading Unreadable
unfinished ended = if ended then Err CutOff else Ok More

-- The reply after a head, with a body of `len` bytes.
abbrev pub reply_of : ResponseHead → ℕ → Bool → WholeReply
reply_of head len stays = record {
  status = status_code head;
  start = length (print_response head);
  end = length (print_response head) + len;
  stays = stays;
}

-- What a head gives, by the length of its body and how many bytes came after it.
abbrev pub reading_by : Result (Option ℕ) Unreadable → ResponseHead → ℕ → Bool → Result Reading Unreadable
reading_by (Err why) head got ended = Err why
reading_by (Ok (Some len)) head got ended = if nat_le len got
    then Ok (Whole (reply_of head len (stays_open head))) else unfinished ended
reading_by (Ok None) head got ended = if nat_lt 268435456 got then Err LongBody
    else if ended then Ok (Whole (reply_of head got false)) else Ok More

-- What the front of the bytes gives, by whether the connection has ended.
abbrev pub reading_of : Front → Bool → Result Reading Unreadable
reading_of (Headed head rest) ended = reading_by (body_length head) head (length rest) ended
reading_of Begun ended = unfinished ended
reading_of Headless ended = Err NotHttp
reading_of Long ended = Err LongHead
reading_of Crowded ended = Err ManyFields

-- A whole reply lies in the first `len` bytes.
abbrev pub IsInside : ℕ → Reading → Type 0
IsInside len More = Unit {0}
IsInside len (Whole reply) = (reply.start ≤ reply.end) × (reply.end ≤ len)

-- What is read before the end of the connection stays so, whatever bytes follow, unless more are
-- needed.
abbrev pub KeepsReading : Type 0
KeepsReading = (bytes more : List ℕ) (front : Front) (ended : Bool) → IsFront bytes front
    → reading_of front false ≢ Ok More
    → (later : Front) × IsFront (bytes ++ more) later × (reading_of later ended ≡ reading_of front false)

-- Bytes start with one head at most, and then with nothing else.
abbrev pub ReadsOneWay : Type 0
ReadsOneWay = (bytes rest : List ℕ) (head : ResponseHead) (front : Front) → HasReplyHead bytes head rest
    → IsFront bytes front → front ≡ Headed head rest
