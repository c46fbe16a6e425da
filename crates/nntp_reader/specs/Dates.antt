-- Moments as DATE gives them, and their years (RFC 3977, section 7.1).
use Rattle.std.specs.Prelude.{ℕ, List, ◌++◌, codes}
use Rattle.mail_date.specs.Printed.{two_digits, four_digits}
use Rattle.mail_date.specs.declared.moment.CivilDate.{CivilDate}
use Rattle.web_text.specs.Days.{date_at}
use Rattle.wire_replies.specs.Blocks.{crlf_line}

-- The year of a moment, in UTC.
unfoldable pub year_at : ℕ → ℕ
year_at moment = (date_at moment).year

-- A date as `yyyymmddhhmmss`.
abbrev pub date_digits : CivilDate → List ℕ
date_digits date = four_digits date.year ++ (two_digits date.month ++ (two_digits date.day
    ++ (two_digits date.hour ++ (two_digits date.minute ++ two_digits date.second))))

-- What DATE says.
unfoldable pub date_words : ℕ → List ℕ
date_words moment = crlf_line (codes "111 " ++ date_digits (date_at moment))
