-- The moment of an arrival, and the days of messages.
use Rattle.std.proofs.Common.{◌≡◌, ℕ, ◌≤◌, List, ap, ◌∙◌, subst, arith, min}
use Rattle.jiff_core.proofs.SignedLemmas.{signed_arith}
use Rattle.mail_date.specs.Dates.{last_second}
use Rattle.mail_date.specs.Laws.{PrintedDateIsOne}
use Rattle.mail_date.specs.Printed.{IsPrintable, utc, PrintsDate, imap_text}
use Rattle.web_text.specs.Days.{date_at}
use Rattle.web_text.proofs.CivilDays.{date_shown}

utc_printable : (secs : ℕ) → secs ≤ last_second → IsPrintable (utc secs)
utc_printable secs h = (omega (arith, signed_arith, h), omega (arith, signed_arith, h))

-- What is printed in UTC is the text of the date.
pub imap-printed : (secs : ℕ) (text : List ℕ) → PrintedDateIsOne → secs ≤ last_second → PrintsDate imap_text (utc secs) text → text ≡ imap_text (date_at secs)
imap-printed secs text one within printed =
    printed.2 ∙ ap imap_text (one (utc secs) printed.0 (date_at secs) (printed.1.own (utc_printable secs within)) (date_shown secs within))

-- The same of a moment that is cut to the last one.
pub arrival-printed : (secs most shown : ℕ) (text : List ℕ) → PrintedDateIsOne → most ≤ last_second → shown ≡ min secs most → PrintsDate imap_text (utc shown) text
    → text ≡ imap_text (date_at (min secs most))
arrival-printed secs most shown text one within is printed =
    imap-printed (min secs most) text one (omega arith) (subst (λ n. PrintsDate imap_text (utc n) text) is printed)
