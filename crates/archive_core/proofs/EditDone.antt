-- What an edit promises, by the comparison with the live text and by the delivery in its place.
use Rattle.std.specs.Prelude.{◌≡◌, ℕ, Bool, true, false, List, [], Option, Some, Result, Err, refl}
use Rattle.std.proofs.Common.{sym, ap, subst}
use Rattle.arch_base.specs.Counts.{RoseIf}
use Rattle.archive_core.specs.declared.texts.KeptText.{KeptText}
use Rattle.disk_model.specs.Disk.{Content, BothTold, Unchanged, WhereTold}
use Rattle.mail_reader.specs.Stored.{stored}
use Rattle.arch_base.specs.declared.ids.Form.{Form}
use Rattle.arch_model.specs.Archives.{Archive, live, text_of}
use Rattle.arch_model.specs.Delivery.{edited, is_form}
use Rattle.arch_model.specs.declared.answer.Answer.{Answer}
use Rattle.arch_model.specs.declared.answer.Answer.TheVariants as answer
use Rattle.store_finding.specs.Kept.{StoreState, IsStoreWith}
use Rattle.epoch_store.specs.Commands.{StoreHasSizes}
use Rattle.archive_core.specs.Commands.{AnswersEdit, DoneBy, IfUnread, IfUnreadEdit, OnDone, TellsText}
use Rattle.archive_core.specs.Engines.{unchanged-is}
use Rattle.archive_core.specs.Rewriting.{ComparesForm, IsUnformed}
use Rattle.archive_core.proofs.WithoutText.{edited-formless, edited-large, edited-same, left-done}

-- An answer of the comparison.
pub unformed-unmoved : (reply : Answer) (P : Type 0) → IsUnformed reply → IfUnread reply P → IfUnreadEdit reply P
unformed-unmoved answer.NoMemory P one is = is
unformed-unmoved answer.DiskFault P one is = is
unformed-unmoved answer.NoFields P one is = is
unformed-unmoved (answer.TooLarge len) P one is = is
unformed-unmoved (answer.Damaged file at) P one is = is
unformed-unmoved other P one is = absurd one

pub unformed-answers : (number : ℕ) (reply : Answer) → IsUnformed reply → AnswersEdit number reply
unformed-answers number answer.NoMemory one = tt
unformed-answers number answer.DiskFault one = tt
unformed-answers number answer.NoFields one = tt
unformed-answers number (answer.TooLarge len) one = tt
unformed-answers number (answer.Damaged file at) one = tt
unformed-answers number other one = absurd one

pub unformed-tells : (form : Form) (reply : Answer) (text : KeptText) → IsUnformed reply → TellsText form reply text
unformed-tells form (answer.Ok n id) text one = absurd one
unformed-tells form other text one = tt

pub unformed-never : (reply : Answer) (P : Type 0) → IsUnformed reply → OnDone reply P
unformed-never (answer.Ok n id) P one = absurd one
unformed-never other P one = tt

-- The sizes of a disk that was only read.
pub sizes-read : (v : StoreState) (old new : Option Content) → BothTold Unchanged old new → WhereTold (StoreHasSizes v) old → WhereTold (StoreHasSizes v) new
sizes-read v old new same sizes = subst (WhereTold (StoreHasSizes v)) (sym (unchanged-is old new same)) sizes

-- The cause of a failure, by what failed.
pub cause-compared : (reply : Answer) (before now : ℕ) → RoseIf (◌≡◌ {A = Result Bool Answer} (Err reply) (Err answer.DiskFault)) before now → RoseIf (reply ≡ answer.DiskFault) before now
cause-compared reply before now cause = record {
  later = cause.later;
  failed = λ fault. cause.failed (ap (λ (r : Answer). Err r) fault);
  kept = λ never. cause.kept (λ fault. never (let same : reply ≡ answer.DiskFault = cc in same));
}

-- The bytes have no form, or the text wasn't read.
pub unformed-done : (v : StoreState) (cache : List ℕ) (a : Archive) (n : ℕ) (bytes : List ℕ) (moment : ℕ) (text : List ℕ) (k : Option Content) (reply : Answer) → IsStoreWith v cache a k → a.config.mirror ≡ false → text_of (live a.entries) n ≡ Some text → ComparesForm a n (stored bytes) (Err reply) → DoneBy v cache [] a (edited a n bytes moment) reply k
unformed-done v cache a n bytes moment text k answer.NoMemory store writable shown compared = store
unformed-done v cache a n bytes moment text k answer.DiskFault store writable shown compared = tt
unformed-done v cache a n bytes moment text k answer.NoFields store writable shown compared = left-done v cache [] a (edited a n bytes moment) k answer.NoFields store refl refl (edited-formless a n bytes moment text writable shown compared)
unformed-done v cache a n bytes moment text k (answer.TooLarge len) store writable shown compared = left-done v cache [] a (edited a n bytes moment) k (answer.TooLarge len) store refl refl (edited-large a n bytes moment len text writable shown compared)
unformed-done v cache a n bytes moment text k other store writable shown compared = absurd compared

-- The form is the text.
pub same-done : (v : StoreState) (cache : List ℕ) (a : Archive) (n : ℕ) (bytes : List ℕ) (moment : ℕ) (text : List ℕ) (k : Option Content) → IsStoreWith v cache a k → a.config.mirror ≡ false → text_of (live a.entries) n ≡ Some text → true ≡ is_form text (stored bytes) → DoneBy v cache [] a (edited a n bytes moment) (answer.Duplicate n) k
same-done v cache a n bytes moment text k store writable shown same = left-done v cache [] a (edited a n bytes moment) k (answer.Duplicate n) store refl refl (edited-same a n bytes moment text writable shown (sym same))
