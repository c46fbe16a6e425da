-- Moments, in seconds since 1970 UTC.
use Rattle.std.specs.Prelude.{◌≤◌, ℕ}

-- The last moment: the last second of the year 9999.
abbrev pub last_moment : ℕ
last_moment = 253402300799

-- A moment from 1970 to 9999.
abbrev pub IsMoment : ℕ → Type 0
IsMoment moment = moment ≤ last_moment
