-- Where a session stands, and its table of commands (RFC 2033, section 4.1; RFC 5321, section 4.1.4).
use Rattle.std.specs.Prelude.{◌+◌, ℕ, suc, Bool, true, false, nat_lt, List, []}
use Rattle.lmtp_data.specs.Readings.{DataReading, data_reading}
use Rattle.lmtp_data.specs.declared.place.Place.TheVariants.{LineStart}
use Rattle.lmtp_door.specs.declared.notice.LmtpNotice.{LmtpNotice}
use Rattle.lmtp_door.specs.declared.notice.LmtpNotice.TheVariants as notice
use Rattle.lmtp_door.specs.declared.order.LmtpOrder.{LmtpOrder}
use Rattle.lmtp_door.specs.declared.order.LmtpOrder.TheVariants as order

-- Where a session stands: before LHLO; between transactions; in one, with so many recipients accepted;
-- in the data for a recipient and so many more, of which this was read before; or giving the data, which
-- has ended, to a recipient that is left and so many more, with how many octets it has.
pub data LmtpPhase : Type 0 where
  Ungreeted : LmtpPhase
  Greeted : LmtpPhase
  Mailing : ℕ → LmtpPhase
  Receiving : ℕ → DataReading → LmtpPhase
  Giving : ℕ → List ℕ → ℕ → LmtpPhase

-- The most recipients of a transaction (RFC 5321, section 4.5.3.1.8).
abbrev pub recipient_limit : ℕ
recipient_limit = 100

-- What a command is answered: a notice, and where the session stands after it. It is closed after
-- `221 bye`.
pub record LmtpReply : Type 0 where
  pub notice : LmtpNotice
  pub phase : LmtpPhase

-- The reply of these two parts.
abbrev pub replies : LmtpNotice → LmtpPhase → LmtpReply
replies what phase = record { notice = what; phase = phase }

-- MAIL begins a transaction, unless one is under way or the client hasn't greeted.
abbrev pub mail_reply : LmtpPhase → LmtpReply
mail_reply Greeted = replies notice.Done (Mailing 0)
mail_reply phase = replies notice.BadSequence phase

-- RCPT in a transaction with `n` recipients accepts the list as one more. `room` says whether there may
-- be one more, and `ours` whether the path names the list.
abbrev pub rcpt_in : ℕ → Bool → Bool → LmtpReply
rcpt_in n false ours = replies notice.TooMany (Mailing n)
rcpt_in n true true = replies notice.Done (Mailing (n + 1))
rcpt_in n true false = replies notice.NoSuchList (Mailing n)

-- RCPT.
abbrev pub rcpt_reply : Bool → LmtpPhase → LmtpReply
rcpt_reply ours (Mailing n) = rcpt_in n (nat_lt n recipient_limit) ours
rcpt_reply ours phase = replies notice.BadSequence phase

-- DATA begins the data, if a recipient was accepted.
abbrev pub data_reply : LmtpPhase → LmtpReply
data_reply (Mailing (suc n)) =
    replies notice.GoAhead (Receiving n (data_reading [] 0 LineStart))
data_reply phase = replies notice.NoRecipients phase

-- RSET drops the transaction.
abbrev pub reset_phase : LmtpPhase → LmtpPhase
reset_phase Ungreeted = Ungreeted
reset_phase phase = Greeted

-- The table: what a command is answered. LHLO drops the transaction, too.
abbrev pub replied : LmtpPhase → LmtpOrder → LmtpReply
replied phase order.Hello = replies notice.Extensions Greeted
replied phase order.Mail = mail_reply phase
replied phase (order.Recipient ours) = rcpt_reply ours phase
replied phase order.Data = data_reply phase
replied phase order.Reset = replies notice.Done (reset_phase phase)
replied phase order.Noop = replies notice.Done phase
replied phase order.Verify = replies notice.CannotVerify phase
replied phase order.Quit = replies notice.Bye phase
replied phase order.Mistaken = replies notice.Syntax phase
replied phase order.Unknown = replies notice.Unknown phase

-- All memory for the data is taken at DATA. Without it the session stays.
abbrev pub starved_data : LmtpPhase → LmtpReply
starved_data (Mailing (suc n)) = replies notice.NoMemory (Mailing (suc n))
starved_data phase = replies notice.NoRecipients phase

-- What a command is answered that runs out of memory. Only DATA needs some.
abbrev pub starved : LmtpPhase → LmtpOrder → LmtpReply
starved phase order.Data = starved_data phase
starved phase other = replied phase other
