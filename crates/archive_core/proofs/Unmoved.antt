-- Which refusals leave the disk as it was: those before which no text is read.
use Rattle.std.specs.Prelude.{◌≡◌, ◌≤◌, ℕ, Option, Some, None, Result, Err, slice_get, refl}
use Rattle.std.proofs.Common.{sym, subst}
use Rattle.arch_base.specs.Counts.{RoseIf}
use Rattle.disk_model.specs.declared.name.FileName.{FileName}
use Rattle.arch_model.specs.declared.answer.Answer.{Answer}
use Rattle.arch_model.specs.declared.answer.Answer.TheVariants as answer
use Rattle.arch_model.specs.declared.text_refusal.TextRefusal.{TextRefusal}
use Rattle.arch_model.specs.declared.text_refusal.TextRefusal.TheVariants as reading
use Rattle.arch_judge.specs.Judging.{RefusesLast}
use Rattle.arch_judge.specs.declared.judging.Verdict.{Verdict}
use Rattle.arch_judge.specs.declared.judging.Verdict.TheVariants.{Take, Refuse}
use Rattle.epoch_file.specs.declared.refusal.StoreRefusal.{StoreRefusal}
use Rattle.epoch_file.specs.declared.refusal.StoreRefusal.TheVariants as refusal
use Rattle.store_finding.specs.Kept.{StoreState}
use Rattle.store_finding.specs.declared.entries.StoredEntry.{StoredEntry}
use Rattle.archive_core.specs.Commands.{IfUnread, IfUnreadEdit, IfRefusedUnread, IsTextUnread, damaged_place, refusal_answer, unread_answer}

-- What holds at any rate.
pub if-unread : (reply : Answer) (P : Type 0) → P → IfUnread reply P
if-unread (answer.Duplicate number) P is = is
if-unread answer.NoFields P is = is
if-unread (answer.TooLarge len) P is = is
if-unread (answer.NotLive number) P is = is
if-unread (answer.NoText number) P is = is
if-unread answer.IsMirror P is = is
if-unread other P is = tt

-- An answer before which a text is read.
pub if-read : (reply : Answer) (P : Type 0) → IfUnread reply ⊥ → IfUnread reply P
if-read (answer.Duplicate number) P never = absurd never
if-read answer.NoFields P never = absurd never
if-read (answer.TooLarge len) P never = absurd never
if-read (answer.NotLive number) P never = absurd never
if-read (answer.NoText number) P never = absurd never
if-read answer.IsMirror P never = absurd never
if-read other P never = tt

-- The same of an edit.
pub if-read-edit : (reply : Answer) (P : Type 0) → IfUnreadEdit reply ⊥ → IfUnreadEdit reply P
if-read-edit answer.NoFields P never = absurd never
if-read-edit (answer.TooLarge len) P never = absurd never
if-read-edit (answer.NotLive n) P never = absurd never
if-read-edit (answer.NoText n) P never = absurd never
if-read-edit answer.IsMirror P never = absurd never
if-read-edit other P never = tt

-- A text that wasn't read.
pub if-none-read : (reply : Answer) (P : Type 0) → IsTextUnread reply → IfUnread reply P
if-none-read (answer.Duplicate number) P never = absurd never
if-none-read answer.NoFields P never = absurd never
if-none-read (answer.TooLarge len) P never = absurd never
if-none-read (answer.NotLive number) P never = absurd never
if-none-read (answer.NoText number) P never = absurd never
if-none-read answer.IsMirror P never = absurd never
if-none-read other P never = tt

-- A verdict before any text was read.
pub if-final : (v : Verdict) (P : Type 0) → P → IfRefusedUnread v P
if-final (Take text ids n) P is = tt
if-final (Refuse reply) P is = if-unread reply P is

-- A verdict after the texts were compared.
pub if-compared : (v : Verdict) (P : Type 0) → RefusesLast v → IfRefusedUnread v P
if-compared (Take text ids n) P is = tt
if-compared (Refuse (answer.Ok number id)) P never = tt
if-compared (Refuse (answer.Duplicate number)) P never = absurd never
if-compared (Refuse answer.NoFields) P never = absurd never
if-compared (Refuse (answer.TooLarge len)) P never = absurd never
if-compared (Refuse (answer.Full max)) P never = tt
if-compared (Refuse (answer.Collision number)) P never = tt
if-compared (Refuse (answer.NotLive number)) P never = absurd never
if-compared (Refuse (answer.NoText number)) P never = absurd never
if-compared (Refuse answer.IsMirror) P never = absurd never
if-compared (Refuse answer.DiskFault) P never = tt
if-compared (Refuse (answer.Damaged file at)) P never = tt
if-compared (Refuse answer.NoMemory) P never = tt

-- An error of the store.
if_error : (why : StoreRefusal) (P : Type 0) → IfUnread (refusal_answer why) P
if_error refusal.DiskFault P = tt
if_error refusal.NoMemory P = tt
if_error (refusal.Damaged file at) P = tt

pub if-error : (why : StoreRefusal) (reply : Answer) (P : Type 0) → reply ≡ refusal_answer why → IfUnread reply P
if-error why reply P is = subst (λ (r : Answer). IfUnread r P) (sym is) (if_error why P)

-- An entry that is damaged.
if_damaged : (v : StoreState) (found : Option StoredEntry) (P : Type 0) → IfUnread (damaged_place v found) P
if_damaged v None P = tt
if_damaged v (Some e) P = tt

pub if-damaged : (v : StoreState) (found : Option StoredEntry) (reply : Answer) (P : Type 0) → reply ≡ damaged_place v found → IfUnread reply P
if-damaged v found reply P is = subst (λ (r : Answer). IfUnread r P) (sym is) (if_damaged v found P)

-- What holds of each answer where a text wasn't read.
pub unread-then : (v : StoreState) (index : ℕ) (why : TextRefusal) (reply : Answer) → reply ≡ unread_answer v index why → (P : Answer → Type 0) → P answer.DiskFault → P answer.NoMemory → ((file : FileName) (at : ℕ) → P (answer.Damaged file at)) → P reply
unread-then v index why reply is P fault short damage = subst P (sym is) (by why) where
  at_place : (found : Option StoredEntry) → P (damaged_place v found)
  at_place None = short
  at_place (Some e) = damage _ _

  by : (w : TextRefusal) → P (unread_answer v index w)
  by reading.DiskFault = fault
  by reading.NoMemory = short
  by (reading.Damaged named found) = at_place (slice_get v.entries index)

-- The cause of such an answer.
pub unread-cause : (v : StoreState) (index : ℕ) (why : TextRefusal) (reply : Answer) (before now : ℕ) → reply ≡ unread_answer v index why → RoseIf (◌≡◌ {A = Result (Unit {0}) TextRefusal} (Err why) (Err reading.DiskFault)) before now → RoseIf (reply ≡ answer.DiskFault) before now
unread-cause v index why reply before now is cause = subst (λ (r : Answer). RoseIf (r ≡ answer.DiskFault) before now) (sym is) (by why cause) where
  steady : (r : Answer) → (r ≡ answer.DiskFault → ⊥) → before ≤ now → now ≡ before → RoseIf (r ≡ answer.DiskFault) before now
  steady r never later same = record { later = later; failed = λ fault. absurd (never fault); kept = λ _. same }

  at_place : (found : Option StoredEntry) → damaged_place v found ≡ answer.DiskFault → ⊥
  at_place None fault = cc
  at_place (Some e) fault = cc

  by : (w : TextRefusal) → RoseIf (◌≡◌ {A = Result (Unit {0}) TextRefusal} (Err w) (Err reading.DiskFault)) before now → RoseIf (unread_answer v index w ≡ answer.DiskFault) before now
  by reading.DiskFault rose = record { later = rose.later; failed = λ fault. rose.failed refl; kept = λ never. absurd (never refl) }
  by reading.NoMemory rose = steady answer.NoMemory (λ fault. absurd (cc fault)) rose.later (rose.kept (λ fault. absurd (cc fault)))
  by (reading.Damaged named found) rose = steady (damaged_place v (slice_get v.entries index)) (at_place (slice_get v.entries index)) rose.later (rose.kept (λ fault. absurd (cc fault)))
