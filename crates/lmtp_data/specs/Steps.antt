-- Private: one step of the code that reads a piece of the data.
use Rattle.std.specs.Prelude.{◌≡◌, ◌≤◌, ◌<◌, ◌+◌, ◌*◌, ℕ, List, [], ◌++◌, length, drop, Option, Some, None}
use Rattle.lmtp_data.specs.Data.{Going, Ended}
use Rattle.lmtp_data.specs.Readings.{DataReading, data_reading, data_limit, clipped, counted, read_after, read_on}
use Rattle.lmtp_data.specs.declared.place.Place.{Place}
use Rattle.lmtp_data.specs.declared.place.Place.TheVariants.{LineStart, Dot, DotReturn, Within, Return}
use Rattle.lmtp_data.specs.declared.reader.DataStep.{DataStep}
use Rattle.lmtp_data.specs.declared.reader.DataStep.TheVariants as step

-- How often a place may be left without a byte.
abbrev pub rank : Place → ℕ
rank LineStart = 1
rank Dot = 1
rank DotReturn = 2
rank Within = 0
rank Return = 1

-- The work that is left.
abbrev pub work : DataReading → List ℕ → ℕ
work r rest = 3 * length rest + rank r.place

-- The reading at another place.
abbrev pub placed : DataReading → Place → DataReading
placed r place = data_reading r.text r.count place

-- The reading with these octets behind, at a place.
abbrev pub pushed : DataReading → List ℕ → Place → DataReading
pushed r octets place =
    data_reading (clipped data_limit (r.text ++ octets)) (counted r.count (length octets)) place

-- A step took `n` bytes, and what is read of the others is what is read of all; or the data ended
-- after `n` bytes; or there were none.
abbrev pub IsDataStep : DataReading → List ℕ → DataStep → DataReading → Type 0
IsDataStep old rest (step.Went n) new = (n ≤ length rest) × (work new (drop n rest) < work old rest)
    × (read_on data_limit old rest ≡ read_on data_limit new (drop n rest))
IsDataStep old rest (step.Ended n) new = (n ≤ length rest)
    × (read_on data_limit old rest ≡ read_after data_limit new (Ended [] (drop n rest)))
IsDataStep old rest step.Paused new = (rest ≡ []) × (new ≡ old)

-- A piece was read, but for the last look at what is kept and counted.
abbrev pub IsRun : DataReading → List ℕ → Option ℕ → DataReading → Type 0
IsRun old piece None new =
    read_on data_limit old piece ≡ read_after data_limit new (Going [] new.place)
IsRun old piece (Some n) new = (n ≤ length piece)
    × (read_on data_limit old piece ≡ read_after data_limit new (Ended [] (drop n piece)))
