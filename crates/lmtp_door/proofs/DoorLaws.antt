-- The laws of the door.
use Rattle.std.proofs.Common.{◌≡◌, ℕ, Bool, true, false, List, [], ◌∷◌, ◌++◌, refl, ap, ◌∙◌, arith}
use Rattle.line_door.specs.Acts.{Departure, Plain, Memory, Disk, Newer}
use Rattle.line_door.proofs.Cutting.{door_laws}
use Rattle.arch_model.specs.Delivery.{delivered}
use Rattle.arch_model.specs.Standing.{LastKnown}
use Rattle.arch_model.specs.declared.answer.Answer.{Answer}
use Rattle.arch_model.specs.declared.answer.Answer.TheVariants as answer
use Rattle.line_door.specs.Making.{says}
use Rattle.lmtp_door.specs.Commands.{command_of}
use Rattle.lmtp_door.specs.declared.notice.LmtpNotice.TheVariants as notice
use Rattle.lmtp_door.specs.Door.{Guest, guest, LmtpFront, Commanded, Overlong, DataEnds, GivesTo, NotYet, front_of, front_in, is_whole, said, said_at, said_order, has_request, with_piece, kept, kept_in, size_of}
use Rattle.lmtp_door.specs.Laws.{LmtpLaws, KeptGoesOn, AcknowledgedIsKept, kept_as, keeps_message}
use Rattle.lmtp_door.specs.Notices.{reply_line, notice_line}
use Rattle.lmtp_door.specs.Phases.{LmtpPhase}
use Rattle.lmtp_door.proofs.Cutting.{lmtp-cuts}
use Rattle.lmtp_door.proofs.Fronts.{front-kept, kept-again, command-phase, long-phase}

-- The first byte of some words.
abbrev first_byte : List ℕ → ℕ
first_byte [] = 0
first_byte (b ∷ bs) = b

-- The replies that begin with a 2 are those to a message that is kept.
two-first : (a : Answer) → keeps_message a ≡ true → first_byte (reply_line a) ≡ 50
two-first (answer.Ok number id) h = refl
two-first (answer.Duplicate number) h = refl
two-first answer.NoFields h = absurd (cc h)
two-first (answer.TooLarge len) h = absurd (cc h)
two-first (answer.Full max) h = absurd (cc h)
two-first (answer.Collision number) h = absurd (cc h)
two-first answer.IsMirror h = absurd (cc h)
two-first answer.DiskFault h = absurd (cc h)
two-first (answer.Damaged file at) h = absurd (cc h)
two-first answer.NoMemory h = absurd (cc h)
two-first (answer.NotLive number) h = absurd (cc h)
two-first (answer.NoText number) h = absurd (cc h)

kept-first : (a : Answer) → first_byte (reply_line a) ≡ 50 → keeps_message a ≡ true
kept-first (answer.Ok number id) h = refl
kept-first (answer.Duplicate number) h = refl
kept-first answer.NoFields h = absurd (omega (arith, h))
kept-first (answer.TooLarge len) h = absurd (omega (arith, h))
kept-first (answer.Full max) h = absurd (omega (arith, h))
kept-first (answer.Collision number) h = absurd (omega (arith, h))
kept-first answer.IsMirror h = absurd (omega (arith, h))
kept-first answer.DiskFault h = absurd (omega (arith, h))
kept-first (answer.Damaged file at) h = absurd (omega (arith, h))
kept-first answer.NoMemory h = absurd (omega (arith, h))
kept-first (answer.NotLive number) h = absurd (omega (arith, h))
kept-first (answer.NoText number) h = absurd (omega (arith, h))

-- One reply is another, which is that to a message that is kept.
same-kept : (a reply : Answer) → keeps_message reply ≡ true → reply_line a ≡ reply_line reply → keeps_message a ≡ true
same-kept a reply kept is = kept-first a (ap first_byte is ∙ two-first reply kept)

acknowledged_is_kept : AcknowledgedIsKept
acknowledged_is_kept moment s text next Plain reply kept is = (same-kept (delivered s.archive text moment).answer reply kept is, refl)
acknowledged_is_kept moment s text next Newer reply kept is = (same-kept (delivered s.archive text moment).answer reply kept is, refl)
acknowledged_is_kept moment s text next Memory reply kept is = let no : false ≡ true = same-kept answer.NoMemory reply kept is in absurd (cc no)
acknowledged_is_kept moment s text next Disk reply kept is = let no : false ≡ true = same-kept answer.DiskFault reply kept is in absurd (cc no)

-- What is kept says what the session says.
front-as : (q : List ℕ) (g : Guest) → has_request g ≡ false → front_of (with_piece q (kept_as g)) ≡ front_of (with_piece q g)
front-as q g none = front-kept g.phase g.bytes q none

module _ (moment : ℕ) (s : LastKnown) (q bytes : List ℕ) (phase : LmtpPhase) (opened : Bool) (way : Departure) where
  at-kept : (x : LmtpFront) → front_in phase (bytes ++ q) ≡ x → is_whole x ≡ true
      → said_at moment s (guest (kept_in phase bytes).phase ((kept_in phase bytes).bytes ++ q) opened) x way ≡ said_at moment s (guest phase (bytes ++ q) opened) x way
  at-kept (Commanded line rest) is h = ap (λ (p : LmtpPhase). said_order s p opened (command_of s.archive.config.name line) rest way) (command-phase phase bytes (bytes ++ q) line rest is)
  at-kept (Overlong rest) is h = ap (λ (p : LmtpPhase). says s (guest p rest opened) (notice_line notice.LineTooLong)) (long-phase phase bytes (bytes ++ q) rest is)
  at-kept (DataEnds n text count rest) is h = refl
  at-kept (GivesTo n text count rest) is h = refl
  at-kept NotYet is h = absurd (cc h)

kept_goes_on : KeptGoesOn
kept_goes_on = record {
  asks = λ q g none. ap is_whole (front-as q g none);
  says = λ moment q s g way none asked.
      ap (λ (x : LmtpFront). said_at moment s (with_piece q (kept_as g)) x way) (front-as q g none)
      ∙ at-kept moment s q g.bytes g.phase g.opened way (front_of (with_piece q g)) refl asked;
  keeps = λ q g none later. kept-again g.phase g.bytes q none later;
}

pub lmtp_laws : LmtpLaws
lmtp_laws = record {
  cuts = λ moment. door_laws (said moment) has_request with_piece size_of (lmtp-cuts moment);
  keeps = kept_goes_on;
  acknowledged = acknowledged_is_kept;
}
