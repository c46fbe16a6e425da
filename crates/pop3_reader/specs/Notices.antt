-- The replies that are one line of fixed words (RFC 1939, section 3).
use Rattle.std.specs.Prelude.{ℕ, List, codes}
use Rattle.wire_replies.specs.Blocks.{crlf_line}
use Rattle.keep_course.specs.declared.refusal.Refusal.{Refusal}
use Rattle.shelf_doors.specs.Refusals as refusals
use Rattle.pop3_reader.specs.declared.notice.PopNotice.{PopNotice}
use Rattle.pop3_reader.specs.declared.notice.PopNotice.TheVariants as notice

-- The words of a notice.
abbrev pub notice_words : PopNotice → List ℕ
notice_words notice.Welcome = codes "+OK piv2 ready"
notice_words notice.Done = codes "+OK"
notice_words notice.Bye = codes "+OK bye"
notice_words notice.NoMaildrop = codes "-ERR no such maildrop"
notice_words notice.UserFirst = codes "-ERR user first"
notice_words notice.NoMessage = codes "-ERR no such message"
notice_words notice.Gone = codes "-ERR gone"
notice_words notice.ReadOnly = codes "-ERR read only"
notice_words notice.TooLong = codes "-ERR line too long"
notice_words notice.Syntax = codes "-ERR syntax"

-- The line of a notice.
abbrev pub notice_line : PopNotice → List ℕ
notice_line what = crlf_line (notice_words what)

-- The greeting of a new session.
abbrev pub welcome_line : List ℕ
welcome_line = notice_line notice.Welcome

-- What stands before the words of each refusal.
abbrev pub refused_code : List ℕ
refused_code = codes "-ERR "

-- The line for out of memory.
abbrev pub memory_line : List ℕ
memory_line = refusals.memory_line refused_code

-- The line for a fault of the disk.
abbrev pub disk_line : List ℕ
disk_line = refusals.disk_line refused_code

-- Why a connection is refused.
abbrev pub refusal_words : Refusal → List ℕ
refusal_words why = refusals.refusal_words (crlf_line (codes "-ERR busy")) refused_code why
