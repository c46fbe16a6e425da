-- The lines of replies (RFC 2033, section 4; RFC 5321, section 4.2).
use Rattle.std.specs.Prelude.{ℕ, Bool, true, false, List, ◌++◌, codes, decimal}
use Rattle.wire_replies.specs.Blocks.{crlf_line}
use Rattle.keep_course.specs.declared.refusal.Refusal.{Refusal}
use Rattle.keep_course.specs.declared.refusal.Refusal.TheVariants as refused
use Rattle.shelf_doors.specs.Refusals as refusals
use Rattle.arch_model.specs.declared.answer.Answer.{Answer}
use Rattle.arch_model.specs.declared.answer.Answer.TheVariants as answer
use Rattle.arch_model.specs.declared.opening.OpenRefusal.{OpenRefusal}
use Rattle.arch_model.specs.declared.opening.OpenRefusal.TheVariants as opening
use Rattle.lmtp_door.specs.declared.notice.LmtpNotice.{LmtpNotice}
use Rattle.lmtp_door.specs.declared.notice.LmtpNotice.TheVariants as notice

-- The line of a notice. That to LHLO has three lines, which say what the server extends.
abbrev pub notice_line : LmtpNotice → List ℕ
notice_line notice.Welcome = crlf_line (codes "220 piv2 LMTP")
notice_line notice.Extensions = crlf_line (codes "250-piv2")
    ++ (crlf_line (codes "250-PIPELINING") ++ crlf_line (codes "250 8BITMIME"))
notice_line notice.Done = crlf_line (codes "250 ok")
notice_line notice.NoSuchList = crlf_line (codes "550 no such list")
notice_line notice.TooMany = crlf_line (codes "452 too many recipients")
notice_line notice.BadSequence = crlf_line (codes "503 bad sequence")
notice_line notice.NoRecipients = crlf_line (codes "503 no recipients")
notice_line notice.GoAhead = crlf_line (codes "354 go ahead")
notice_line notice.CannotVerify = crlf_line (codes "252 cannot verify")
notice_line notice.Bye = crlf_line (codes "221 bye")
notice_line notice.Syntax = crlf_line (codes "501 syntax")
notice_line notice.Unknown = crlf_line (codes "500 unknown")
notice_line notice.LineTooLong = crlf_line (codes "500 line too long")
notice_line notice.NoMemory = crlf_line (codes "451 no memory")
notice_line notice.Busy = crlf_line (codes "421 busy")

-- The notice after which the connection is closed.
abbrev pub is_bye : LmtpNotice → Bool
is_bye notice.Bye = true
is_bye other = false

-- The greeting of a new session.
abbrev pub welcome_line : List ℕ
welcome_line = notice_line notice.Welcome

-- The line for out of memory.
abbrev pub memory_line : List ℕ
memory_line = notice_line notice.NoMemory

-- What stands before the words of a fault of the disk, and of damage.
abbrev pub fault_code : List ℕ
fault_code = codes "451 "

-- Why the archive was not opened. If there is none, its root is damaged.
abbrev pub unopened_line : OpenRefusal → List ℕ
unopened_line opening.NoMemory = memory_line
unopened_line why = refusals.unopened_line fault_code why

-- Words before a number, as a line.
abbrev pub numbered_line : List ℕ → ℕ → List ℕ
numbered_line words number = words ++ crlf_line (decimal number)

-- Why a connection is refused.
abbrev pub refusal_words : Refusal → List ℕ
refusal_words refused.Busy = notice_line notice.Busy
refusal_words refused.NoMemory = memory_line
refusal_words (refused.Unopened why) = unopened_line why

-- The reply to a recipient of data that has ended (RFC 2033, section 4.2), by the answer to the
-- delivery. No delivery is answered by the last two.
abbrev pub reply_line : Answer → List ℕ
reply_line (answer.Ok number id) = numbered_line (codes "250 ok ") number
reply_line (answer.Duplicate number) = numbered_line (codes "250 duplicate ") number
reply_line answer.NoFields = crlf_line (codes "554 no fields")
reply_line (answer.TooLarge len) = numbered_line (codes "552 too large ") len
reply_line (answer.Full max) = numbered_line (codes "452 full ") max
reply_line (answer.Collision number) = numbered_line (codes "554 collision ") number
reply_line answer.IsMirror = crlf_line (codes "554 is mirror")
reply_line answer.DiskFault = unopened_line opening.DiskFault
reply_line (answer.Damaged file at) = unopened_line (opening.Damaged file at)
reply_line answer.NoMemory = memory_line
reply_line (answer.NotLive number) = numbered_line (codes "554 not live ") number
reply_line (answer.NoText number) = numbered_line (codes "554 no text ") number
