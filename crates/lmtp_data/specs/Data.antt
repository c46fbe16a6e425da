-- The data of a mail transaction: its lines end with CR LF alone, a dot at a line's start is dropped,
-- and a line of one dot ends it (RFC 5321, sections 2.3.8 and 4.5.2).
use Rattle.std.specs.Prelude.{◌==◌, ℕ, if◌then◌else◌, List, [], ◌∷◌, ◌++◌}
use Rattle.lmtp_data.specs.declared.place.Place.{Place}
use Rattle.lmtp_data.specs.declared.place.Place.TheVariants.{LineStart, Dot, DotReturn, Within, Return}

-- What bytes of the data say: these octets belong to it so far, and the next one stands there; or it
-- has ended, has these octets, and these bytes follow it.
pub data DataScan : Type 0 where
  Going : List ℕ → Place → DataScan
  Ended : List ℕ → List ℕ → DataScan

-- The same, with these octets first.
abbrev pub after : List ℕ → DataScan → DataScan
after octets (Going more place) = Going (octets ++ more) place
after octets (Ended more rest) = Ended (octets ++ more) rest

-- Where the octet after this one stands, in a line where no carriage return comes before this one.
abbrev pub past : ℕ → Place
past b = if b == 13 then Return else Within

-- What bytes say from a place on.
abbrev pub scanned : Place → List ℕ → DataScan
scanned place [] = Going [] place
scanned LineStart (b ∷ bs) = if b == 46 then scanned Dot bs else after (b ∷ []) (scanned (past b) bs)
scanned Dot (b ∷ bs) =
    if b == 13 then scanned DotReturn bs else after (b ∷ []) (scanned Within bs)
scanned DotReturn (b ∷ bs) =
    if b == 10 then Ended [] bs else after (13 ∷ b ∷ []) (scanned (past b) bs)
scanned Within (b ∷ bs) = after (b ∷ []) (scanned (past b) bs)
scanned Return (b ∷ bs) = after (b ∷ []) (scanned (if b == 10 then LineStart else past b) bs)

-- What more bytes after these say.
abbrev pub then_scanned : DataScan → List ℕ → DataScan
then_scanned (Going octets place) more = after octets (scanned place more)
then_scanned (Ended octets rest) more = Ended octets (rest ++ more)
