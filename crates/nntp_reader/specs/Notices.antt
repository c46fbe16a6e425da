-- The replies that are one line of fixed words, and the code of those on what was not read (RFC 3977,
-- section 3.2).
use Rattle.std.specs.Prelude.{ℕ, List, codes}
use Rattle.wire_replies.specs.Blocks.{crlf_line}
use Rattle.keep_course.specs.declared.refusal.Refusal.{Refusal}
use Rattle.shelf_doors.specs.Refusals as refusals
use Rattle.nntp_reader.specs.declared.notice.Notice.{Notice}
use Rattle.nntp_reader.specs.declared.notice.Notice.TheVariants as notice

-- The words of a notice.
abbrev pub notice_words : Notice → List ℕ
notice_words notice.Welcome = codes "201 piv2 reader"
notice_words notice.ReadOnly = codes "201 no posting"
notice_words notice.Bye = codes "205 bye"
notice_words notice.NoSuchGroup = codes "411 no such group"
notice_words notice.NoGroup = codes "412 no group selected"
notice_words notice.NoCurrent = codes "420 no current article"
notice_words notice.NoNext = codes "421 no next article"
notice_words notice.NoPrevious = codes "422 no previous article"
notice_words notice.NoNumber = codes "423 no such number"
notice_words notice.NoArticle = codes "430 no such article"
notice_words notice.NoPosting = codes "440 no posting"
notice_words notice.Unknown = codes "500 unknown"
notice_words notice.Syntax = codes "501 syntax"

-- The line of a notice.
abbrev pub notice_line : Notice → List ℕ
notice_line what = crlf_line (notice_words what)

-- The greeting of a new session.
abbrev pub welcome_line : List ℕ
welcome_line = notice_line notice.Welcome

-- What stands before the words for memory, a disk and damage.
abbrev pub refused_code : List ℕ
refused_code = codes "403 "

-- Why a connection is refused.
abbrev pub refusal_words : Refusal → List ℕ
refusal_words why = refusals.refusal_words (crlf_line (codes "400 busy")) refused_code why
