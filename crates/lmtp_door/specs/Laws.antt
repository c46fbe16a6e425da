-- The laws of the door: cuts of the bytes change nothing, what is kept of a session goes on as the session
-- would, and a message that was acknowledged is kept.
use Rattle.std.specs.Prelude.{◌≡◌, ℕ, Bool, true, false, List, None}
use Rattle.line_door.specs.Acts.{Departure}
use Rattle.line_door.specs.Cuts.{DoorLaws}
use Rattle.arch_model.specs.Delivery.{delivered}
use Rattle.arch_model.specs.Standing.{LastKnown, standing}
use Rattle.arch_model.specs.declared.answer.Answer.{Answer}
use Rattle.arch_model.specs.declared.answer.Answer.TheVariants as answer
use Rattle.lmtp_door.specs.Door.{Guest, said, said_giving, has_request, with_piece, kept, guest, size_of}
use Rattle.lmtp_door.specs.Notices.{reply_line}

-- At every moment: feeding one piece and then another says and leaves what feeding both at once does. The
-- acts of one piece and then of another are acts of both, even if allocations, the disk or sends fail.
-- Acts without such failures are the plain function, in both directions.
abbrev pub LmtpCuts : Type 0
LmtpCuts = (moment : ℕ) → DoorLaws (said moment) has_request with_piece size_of

-- What is kept of a session, with its mark of a reopening.
abbrev pub kept_as : Guest → Guest
kept_as g = guest (kept g).phase (kept g).bytes g.opened

-- What is kept of a session without a whole request goes on, with more bytes, as the session would: the
-- same is said to it and kept of it.
pub record KeptGoesOn : Type 0 where
  pub asks : (q : List ℕ) (g : Guest) → has_request g ≡ false
      → has_request (with_piece q (kept_as g)) ≡ has_request (with_piece q g)
  pub says : (moment : ℕ) (q : List ℕ) (s : LastKnown) (g : Guest) (way : Departure)
      → has_request g ≡ false → has_request (with_piece q g) ≡ true
      → said moment s (with_piece q (kept_as g)) way ≡ said moment s (with_piece q g) way
  pub keeps : (q : List ℕ) (g : Guest) → has_request g ≡ false
      → has_request (with_piece q g) ≡ false
      → kept (with_piece q (kept_as g)) ≡ kept (with_piece q g)

-- The answer is that the message, or the one that it repeats, is kept.
abbrev pub keeps_message : Answer → Bool
keeps_message (answer.Ok number id) = true
keeps_message (answer.Duplicate number) = true
keeps_message other = false

-- A delivery that is answered by the reply of a message that is kept was answered so by the rules, and
-- nothing is in doubt after it.
abbrev pub AcknowledgedIsKept : Type 0
AcknowledgedIsKept = (moment : ℕ) (s : LastKnown) (text : List ℕ) (next : Guest) (way : Departure)
    (reply : Answer) → keeps_message reply ≡ true
    → (said_giving moment s text next way).words ≡ reply_line reply
    → (keeps_message (delivered s.archive text moment).answer ≡ true)
    × ((said_giving moment s text next way).after
    ≡ standing (delivered s.archive text moment).archive None)

-- The laws.
pub record LmtpLaws : Type 0 where
  pub cuts : LmtpCuts
  pub keeps : KeptGoesOn
  pub acknowledged : AcknowledgedIsKept
