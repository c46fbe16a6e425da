-- What is kept of the data while it comes, and what reading a piece of it does.
use Rattle.std.specs.Prelude.{◌≡◌, ◌≤◌, ◌+◌, ◌-◌, ◌^◌, ℕ, min, List, ◌++◌, length, take, drop, Option, Some, None}
use Rattle.lmtp_data.specs.Data.{DataScan, Going, Ended, scanned}
use Rattle.lmtp_data.specs.declared.place.Place.{Place}

-- The most octets of the data that are kept, which are also the most that are delivered.
abbrev pub data_limit : ℕ
data_limit = 9000000

-- The first octets of the data, up to a limit; how many octets it has in all, counted up to
-- 2^64 - 1; and where the next octet stands.
pub record DataReading : Type 0 where
  pub text : List ℕ
  pub count : ℕ
  pub place : Place

-- The reading of these three parts.
abbrev pub data_reading : List ℕ → ℕ → Place → DataReading
data_reading text count place = record { text = text; count = count; place = place }

-- The first octets of a list, up to a limit.
unfoldable pub clipped : ℕ → List ℕ → List ℕ
clipped limit octets = take limit octets

-- A count after these many more, up to 2^64 - 1.
unfoldable pub counted : ℕ → ℕ → ℕ
counted count more = min (count + more) (2 ^ 64 - 1)

-- What was read: the data goes on, and so it was read; or it has ended, these are its first octets
-- and the count of all, and these bytes follow it.
pub data DataRead : Type 0 where
  Unfinished : DataReading → DataRead
  Finished : List ℕ → ℕ → List ℕ → DataRead

-- What was read where the bytes after a reading say this.
abbrev pub read_after : ℕ → DataReading → DataScan → DataRead
read_after limit r (Going octets place) = Unfinished
    (data_reading (clipped limit (r.text ++ octets)) (counted r.count (length octets)) place)
read_after limit r (Ended octets rest) =
    Finished (clipped limit (r.text ++ octets)) (counted r.count (length octets)) rest

-- What was read where these bytes come after a reading.
abbrev pub read_on : ℕ → DataReading → List ℕ → DataRead
read_on limit r bytes = read_after limit r (scanned r.place bytes)

-- A piece was read: the data goes on behind it, or it ended after `n` bytes of it.
abbrev pub ReadsData : ℕ → DataReading → List ℕ → Option ℕ → DataReading → Type 0
ReadsData limit old piece None new = read_on limit old piece ≡ Unfinished new
ReadsData limit old piece (Some n) new = (n ≤ length piece)
    × (read_on limit old piece ≡ Finished new.text new.count (drop n piece))
